use Rattle.std.proofs.Common.{rules}
use Rattle.pst_text.proofs.LaneLemmas.{all_shown}
use Rattle.pst_text.proofs.digits.lower_of.Goals as goal

pub returns : goal.returns
returns c =
    all_shown c.args.bytes.now c.first_digits.result c.second_digits.result (λ k. search rules) (search rules) c.first_digits.ensures c.second_digits.ensures
