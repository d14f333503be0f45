use Rattle.std.proofs.Common.{◌∙◌}
use Rattle.hex.specs.Hex.{encode_with}
use Rattle.pst_text.proofs.DigitLemmas.{upper_quoted}
use Rattle.pst_text.proofs.digits.put_id.Goals as goal

pub returns-clause-put : goal.returns-clause-put
unfolding encode_with
returns-clause-put c =
    c.in_ok-extend_from_slice.ensures.items
    ∙ rw (c.upper.ensures, c.upper-2.ensures, c.to_be_bytes.ensures) (upper_quoted 2 c.args.id c.args.text.now.items)
