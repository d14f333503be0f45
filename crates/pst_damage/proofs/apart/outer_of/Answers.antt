use Rattle.pst_damage.proofs.PagesLemmas.{stand_next}
use Rattle.pst_damage.proofs.apart.outer_of.Goals as goal

pub loop-page-preserved : goal.loop-page-preserved
loop-page-preserved c = record {
  apart = c.in_ok-add.ensures.apart;
  stand = stand_next c.loop-page.outer.items c.add.new.outer.items c.args.all.now c.loop-page.page-index _ c.loop-page-test.true (c.in_ok-add.ensures.added c.if-not-branch.false) c.loop-page.invariant.stand;
}
