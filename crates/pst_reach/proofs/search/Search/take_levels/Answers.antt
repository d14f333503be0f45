use Rattle.std.proofs.Common.{◌≡◌, ◌+◌, suc, arith, length, refl, sym, subst, ◌∙◌}
use Rattle.pst_ndb.specs.Roots.{all_roots}
use Rattle.pst_store.specs.pst_msg.Values.{is_folder}
use Rattle.pst_intact.specs.View.{intact_roots}
use Rattle.pst_store.specs.Kind.{of_kind}
use Rattle.pst_intact.specs.View.{table_of_intact, nodes_of_intact, intact_folders_left}
use Rattle.pst_reach.specs.Reach.{folder_ids}
use Rattle.pst_reach.specs.Search.{AreTaken, IsReachedWithin, IsLevel}
use Rattle.pst_reach.proofs.CountLaws.{all_walked, all_walked_at_last}
use Rattle.pst_reach.proofs.LoopLemmas.{no_length, all_to_go, all_rise, one_less, rise_on, stop_here, nothing_below, counted_deeper, counted_in_all, at_last}
use Rattle.pst_store.specs.pst_msg.pst_mail.declared.nid.TheConstants.{ROOT}
use Rattle.pst_reach.proofs.StoreLemmas.{all_named, ids_rise, folder_among}
use Rattle.pst_reach.proofs.search.Search.take_levels.Goals as goal

pub loop-folder-init : goal.loop-folder-init
loop-folder-init c =
    let intact = c.args.self.now.intact in
    let nodes = nodes_of_intact intact in
    let rises = ids_rise nodes c.nids_rise.ensures in
    let all = of_kind is_folder (all_roots nodes) in record {
      intact = refl;
      taken = c.requires.taken;
      within = c.requires.within;
      level = c.requires.level;
      left = all_to_go (intact_folders_left c.folders-rest.result) all c.folders-rest.ensures.left;
      rise = all_rise (intact_folders_left c.folders-rest.result) all c.folders-rest.ensures.left rises;
      walked = λ before is. nothing_below c.args.self.now.walked before is;
    }

pub returns-then-is_empty-clause-within : goal.returns-then-is_empty-clause-within
returns-then-is_empty-clause-within c =
    let intact = c.args.self.now.intact in
    let nodes = nodes_of_intact intact in
    let before = c.loop-folder.invariant in
    stop_here (table_of_intact intact) nodes c.loop-folder.depth (length (intact_folders_left c.loop-folder.rest)) (length (folder_ids nodes)) c.loop-folder.self.found c.loop-folder.level before.left before.within before.level (no_length c.loop-folder.level.keys (c.if-is_empty.ensures.0 refl))

pub returns-then-is_empty-clause-walked : goal.returns-then-is_empty-clause-walked
returns-then-is_empty-clause-walked c b start =
    let intact = c.args.self.now.intact in
    let t = table_of_intact intact in
    let nodes = nodes_of_intact intact in
    let rises = ids_rise nodes c.nids_rise.ensures in
    let before = c.loop-folder.invariant in
    counted_in_all t nodes c.loop-folder.depth b c.loop-folder.self.walked
    (all_walked t nodes (all_named t nodes) rises (folder_among nodes ROOT c.requires.root) c.loop-folder.depth (length (intact_folders_left c.loop-folder.rest)) before.left
    (sym before.level ∙ no_length c.loop-folder.level.keys (c.if-is_empty.ensures.0 refl)))
    (before.walked b start)

pub loop-folder-preserved : goal.loop-folder-preserved
loop-folder-preserved c =
    let intact = c.args.self.now.intact in
    let t = table_of_intact intact in
    let nodes = nodes_of_intact intact in
    let before = c.loop-folder.invariant in
    let depth = c.loop-folder.depth in
    let more : depth + 1 ≡ suc depth = omega arith in
    let within = subst (λ s. IsReachedWithin (table_of_intact s) (nodes_of_intact s) depth c.loop-folder.self.found) (sym before.intact) before.within in
    let level = subst (λ s. IsLevel (table_of_intact s) (nodes_of_intact s) depth c.loop-folder.level) (sym before.intact) before.level in
    let next = c.in_ok-level.ensures in
    let step = c.in-Some.ensures.steps.0 in record {
      intact = c.take_level.ensures.intact ∙ before.intact;
      taken = subst (λ s. AreTaken (table_of_intact s) (nodes_of_intact s) c.take_level.new.self.tables c.take_level.new.self.found) before.intact next.taken;
      within = subst (λ n. IsReachedWithin t nodes n c.take_level.new.self.found) (sym more) (subst (λ s. IsReachedWithin (table_of_intact s) (nodes_of_intact s) (suc depth) c.take_level.new.self.found) before.intact (next.within depth more within level));
      level = subst (λ n. IsLevel t nodes n c.in_ok-level.level) (sym more) (subst (λ s. IsLevel (table_of_intact s) (nodes_of_intact s) (suc depth) c.in_ok-level.level) before.intact (next.level depth more within level));
      left = one_less depth (length (folder_ids nodes)) (intact_folders_left c.loop-folder.rest) (intact_folders_left c.next.new.self) (intact_roots c.in-Some.folder) step before.left;
      rise = rise_on depth (intact_folders_left c.loop-folder.rest) (intact_folders_left c.next.new.self) (intact_roots c.in-Some.folder) step before.rise;
      walked = λ b start. counted_deeper t nodes depth c.loop-folder.level.keys b c.loop-folder.self.walked c.take_level.new.self.walked before.level (before.walked b start) next.walked;
    }

pub returns-clause-walked : goal.returns-clause-walked
returns-clause-walked c b start =
    let intact = c.args.self.now.intact in
    let t = table_of_intact intact in
    let nodes = nodes_of_intact intact in
    let rises = ids_rise nodes c.nids_rise.ensures in
    let before = c.loop-folder.invariant in
    counted_in_all t nodes c.loop-folder.depth b c.loop-folder.self.walked
    (at_last t nodes c.loop-folder.depth (intact_folders_left c.loop-folder.rest) c.in_default.ensures.steps.0.0 before.left (all_walked_at_last t nodes (all_named t nodes) rises (folder_among nodes ROOT c.requires.root)))
    (before.walked b start)
