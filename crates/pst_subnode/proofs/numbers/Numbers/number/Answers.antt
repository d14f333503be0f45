use Rattle.std.proofs.Common.{rules, ◌≡◌, None, refl}
use Rattle.std.specs.Ordering.{nat_cmp}
use Rattle.std.specs.BTreeMap.{get}
use Rattle.pst_subnode.specs.Numbers.{nid_number}
use Rattle.pst_subnode.proofs.NumberLemmas.{keeps_same, keeps_put, number_put}
use Rattle.pst_subnode.proofs.numbers.Numbers.number.Goals as goal

pub returns-in-Some-clause-value : goal.returns-in-Some-clause-value
unfolding nid_number
returns-in-Some-clause-value c = search rules

pub returns-in_err-_new-clause-keeps : goal.returns-in_err-_new-clause-keeps
returns-in_err-_new-clause-keeps c = keeps_same c.args.self.now _ c.in_err-_new.ensures.err refl

pub returns-clause-value : goal.returns-clause-value
returns-clause-value c = number_put _ c.args.self.now.numbers c.args.nid c.min-number.result c.in_ok-_new.ensures.updates.0

pub returns-clause-keeps : goal.returns-clause-keeps
returns-clause-keeps c =
    let none : get nat_cmp c.args.self.now.numbers c.args.nid ≡ None = search rules in
    keeps_put c.args.self.now _ c.args.nid c.min-number.result none c.in_ok-_new.ensures.updates.0 refl
