use Rattle.std.proofs.Common.{rules, ◌≡◌, Some, refl, arith}
use Rattle.pst_bytes.specs.Image.{bytes_of}
use Rattle.pst_fault.specs.First.{join_below}
use Rattle.pst_datatree.specs.List.{count_in}
use Rattle.pst_subnode.specs.List.{leaf_subs}
use Rattle.pst_subnode.specs.Numbers.{numbers_kept}
use Rattle.pst_subnode.proofs.NumberLemmas.{no_leaves, leaf_met, met_distinct}
use Rattle.pst_subnode.proofs.apart.meet_leaves.Goals as goal

pub loop-i-init : goal.loop-i-init
loop-i-init c t are = no_leaves c.args.numbers.now c.args.stamps.now

pub loop-i-preserved : goal.loop-i-preserved
loop-i-preserved c t are =
    let kept : numbers_kept c.args.numbers.now c.bid_at-bid.result ≡ Some c.in-Some.kept.now = search rules in
    leaf_met t c.args.numbers.now c.loop-i.stamps c.meet_all.new.self (bytes_of c.args.body) c.loop-i.i c.bid_at-bid.result c.in-Some.kept.now c.bid_at-bid.ensures kept
    (λ before met. rw (← c.deref.ensures.value) (c.in_default-meet_all.ensures refl before met))
    are (c.loop-i.invariant t are)

pub returns : goal.returns
returns c is t are =
    let last : c.loop-i.i ≡ count_in (bytes_of c.args.body) = omega arith in
    rw (← last) (met_distinct c.args.numbers.now c.loop-i.stamps (join_below (leaf_subs t (bytes_of c.args.body)) c.loop-i.i) (c.loop-i.invariant t are))
