use Rattle.std.proofs.Common.{◌≡◌, ◌++◌, true, drop}
use Rattle.pst_damage.specs.Apart.{are_apart, StandFor}
use Rattle.pst_damage.proofs.apart.outer_of.Given as goal

-- those that were kept, and all that are left, stand for all
abbrev pub invariant-loop-page : goal.invariant-loop-page
invariant-loop-page l = record {
  apart : are_apart l.outer.items ≡ true;
  stand : StandFor (l.outer.items ++ drop l.page-index l.all) l.all;
}
