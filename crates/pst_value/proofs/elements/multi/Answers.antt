use Rattle.std.proofs.Common.{◌≡◌, ◌≤◌, rules, arith}
use Rattle.std.specs.Prelude.{None}
use Rattle.pst_datatree.specs.Shown.{bytes_in}
use Rattle.pst_value.specs.Multi.{element_of}
use Rattle.pst_value.proofs.NextLemmas.{none_left}
use Rattle.pst_value.proofs.elements.multi.Goals as goal

pub returns-in_err-next-clause-bytes : goal.returns-in_err-next-clause-bytes
returns-in_err-next-clause-bytes c =
    let l = c.loop-i in
    let before : l.i ≤ c.args.n = omega arith in
    let none : None ≡ element_of c.args.kind.0 (bytes_in c.args.value) c.args.n =
    none_left l.rest c.args.value c.args.kind.0 l.i c.args.n c.in_err-next.ensures.steps.0.0 l.invariant.value l.invariant.kind l.invariant.next before in
    search (rules, none)
