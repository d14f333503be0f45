use Rattle.std.proofs.Common.{◌∙◌}
use Rattle.hex.specs.Hex.{encode_with}
use Rattle.pst_text.proofs.DigitLemmas.{upper_quoted}
use Rattle.pst_text.proofs.digits.put_tag.Goals as goal

pub returns-clause-put : goal.returns-clause-put
unfolding encode_with
returns-clause-put c =
    c.in_ok-extend_from_slice.ensures.items
    ∙ rw (c.upper.ensures, c.upper-2.ensures, c.upper-3.ensures, c.upper-4.ensures, c.to_be_bytes.ensures) (upper_quoted 4 c.args.tag c.args.text.now.items)
