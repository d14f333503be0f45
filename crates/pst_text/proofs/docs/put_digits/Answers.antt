use Rattle.std.proofs.Common.{rules, ◌++◌, ap, ◌∙◌}
use Rattle.pst_text.proofs.DigitLemmas.{lower_escaped}
use Rattle.pst_text.proofs.docs.put_digits.Goals as goal

pub returns : goal.returns
returns c = c.in_ok-put_lower_bytes.ensures.put ∙ ap (λ l. c.args.digits.now.items ++ l) (lower_escaped c.args.bytes.now (λ k. search rules))
