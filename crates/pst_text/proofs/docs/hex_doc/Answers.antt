use Rattle.std.proofs.lemmas.Str.{IsUtf8-from_ascii}
use Rattle.hex.specs.Hex.{lower_digits}
use Rattle.hex.proofs.HexLemmas.{IsAscii-encode_with}
use Rattle.pst_datatree.specs.Shown.{bytes_in}
use Rattle.pst_text.proofs.DigitLemmas.{lower_are_ascii}
use Rattle.pst_text.proofs.docs.hex_doc.Goals as goal

pub from_utf8_unchecked-text-requires : goal.from_utf8_unchecked-text-requires
from_utf8_unchecked-text-requires c = rw c.in_ok-digits.ensures (IsUtf8-from_ascii _ (IsAscii-encode_with lower_digits (bytes_in c.args.value) lower_are_ascii))
