use Rattle.std.proofs.Common.{◌≡◌, ◌+◌, length, drop}
use Rattle.std.specs.List.{filter}
use Rattle.pst_encoding.specs.Codec.{codec_method}
use Rattle.pst_plain.specs.Blocks.{has_data}
use Rattle.pst_plain.specs.Twin.{data_decoded}
use Rattle.pst_plain.specs.declared.body.TheConstants.{ROOM}
use Rattle.pst_plain.proofs.body.decode_data.Given as goal

-- what is left, done to the file as it is, is what all of them do
abbrev pub invariant-loop-entry : goal.invariant-loop-entry
invariant-loop-entry l = record {
  room : length l.room ≡ ROOM;
  all : data_decoded (codec_method l.codec) (drop l.entry-index l.entries) l.file ≡ data_decoded (codec_method l.fn.codec) l.fn.entries l.fn.file;
  count : l.blocks + length (filter has_data (drop l.entry-index l.entries)) ≡ length (filter has_data l.fn.entries);
}
