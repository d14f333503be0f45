use Rattle.std.proofs.Common.{refl, ap, subst, ◌∙◌}
use Rattle.pst_intact.specs.View.{table_of_intact, nodes_of_intact}
use Rattle.pst_reach.specs.Levels.{steps_of, steps_from}
use Rattle.pst_reach.specs.Search.{AreTaken, Takes}
use Rattle.pst_reach.proofs.LevelLemmas.{within_next, level_next}
use Rattle.pst_reach.proofs.LoopLemmas.{no_keys, none_yet, counted_one, counted_all}
use Rattle.pst_reach.proofs.StoreLemmas.{all_named, ids_rise}
use Rattle.pst_reach.proofs.SearchLemmas.{all_left, took_more, took_all}
use Rattle.pst_reach.proofs.search.Search.take_level.Goals as goal

pub loop-parent-init : goal.loop-parent-init
loop-parent-init c = record {
  intact = refl;
  taken = c.requires.taken;
  took = all_left c.args.depth _ _ c.args.self.now.found c.new-next.result refl;
  walked = none_yet c.args.level.keys c.args.self.now.walked;
}

pub loop-parent-preserved : goal.loop-parent-preserved
loop-parent-preserved c =
    let before = c.loop-parent.invariant in
    let intact = c.args.self.now.intact in
    let t = table_of_intact intact in
    let nodes = nodes_of_intact intact in
    let parent = c.in-Some.parent in
    let keys = c.pop_first.new.self.keys in record {
      intact = c.take_folder.ensures.intact ∙ before.intact;
      taken = subst (λ s. AreTaken (table_of_intact s) (nodes_of_intact s) c.take_folder.new.self.tables c.take_folder.new.self.found) before.intact c.in_ok-take_folder.ensures.taken;
      took = took_more c.args.depth (steps_of t nodes parent) (steps_from t nodes c.loop-parent.level.keys) (steps_from t nodes keys) (steps_from t nodes c.args.level.keys) c.args.self.now.found c.loop-parent.self.found c.take_folder.new.self.found c.new-next.result c.loop-parent.next c.take_folder.new.next
          (ap (steps_from t nodes) c.in-Some.ensures.removal) before.took
          (subst (λ s. Takes c.args.depth (steps_of (table_of_intact s) (nodes_of_intact s) parent) c.loop-parent.self.found c.loop-parent.next c.take_folder.new.self.found c.take_folder.new.next) before.intact c.in_ok-take_folder.ensures.takes);
      walked = counted_one c.loop-parent.level.keys keys c.args.level.keys parent c.args.self.now.walked c.loop-parent.self.walked c.take_folder.new.self.walked c.in-Some.ensures.removal before.walked
          (λ b is. c.take_folder.ensures.walked ∙ c.count_folder-self.ensures b is);
    }

pub returns-clause-within : goal.returns-clause-within
returns-clause-within c n deep within is =
    let intact = c.args.self.now.intact in
    let t = table_of_intact intact in
    let nodes = nodes_of_intact intact in
    let took = took_all c.args.depth (steps_from t nodes c.loop-parent.level.keys) (steps_from t nodes c.args.level.keys) c.args.self.now.found c.loop-parent.self.found c.new-next.result c.loop-parent.next (ap (steps_from t nodes) (no_keys c.loop-parent.level.keys c.in_default.ensures.variant)) c.loop-parent.invariant.took in
    within_next t nodes n c.args.depth c.args.self.now.found c.loop-parent.self.found c.new-next.result c.loop-parent.next c.args.level.keys deep within is took

pub returns-clause-level : goal.returns-clause-level
returns-clause-level c n deep within is =
    let intact = c.args.self.now.intact in
    let t = table_of_intact intact in
    let nodes = nodes_of_intact intact in
    let rises = ids_rise nodes c.nids_rise.ensures in
    let took = took_all c.args.depth (steps_from t nodes c.loop-parent.level.keys) (steps_from t nodes c.args.level.keys) c.args.self.now.found c.loop-parent.self.found c.new-next.result c.loop-parent.next (ap (steps_from t nodes) (no_keys c.loop-parent.level.keys c.in_default.ensures.variant)) c.loop-parent.invariant.took in
    level_next t nodes n c.args.depth c.args.self.now.found c.loop-parent.self.found c.new-next.result c.loop-parent.next c.args.level.keys (all_named t nodes) rises within is c.new-next.ensures.empty c.len.ensures.ordered took

pub returns-clause-walked : goal.returns-clause-walked
returns-clause-walked c before start = counted_all c.loop-parent.level.keys c.args.level.keys c.args.self.now.walked c.loop-parent.self.walked (no_keys c.loop-parent.level.keys c.in_default.ensures.variant) c.loop-parent.invariant.walked before start
