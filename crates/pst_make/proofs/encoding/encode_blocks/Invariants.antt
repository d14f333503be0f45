use Rattle.std.proofs.Common.{◌≡◌, ℕ, List, length, map, drop}
use Rattle.std.specs.List.{filter}
use Rattle.pst_encoding.specs.Codec.{codec_method}
use Rattle.pst_make.specs.Encoded.{AreEncoded, holds_data}
use Rattle.pst_make.specs.Layout.{place_of_block}
use Rattle.pst_make.proofs.encoding.encode_blocks.Given as goal

-- what is left makes of the image what all of them do
abbrev pub invariant-loop-block : goal.invariant-loop-block
invariant-loop-block l = record {
  same : length l.image ≡ length l.fn.image;
  done : (new : List ℕ) → AreEncoded (codec_method l.codec) (filter holds_data (drop l.block-index (map place_of_block l.blocks))) l.image new
      → AreEncoded (codec_method l.codec) (filter holds_data (map place_of_block l.blocks)) l.fn.image new;
}
