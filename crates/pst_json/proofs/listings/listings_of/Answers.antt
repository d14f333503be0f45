use Rattle.std.proofs.Common.{◌≡◌, ap, ◌∙◌}
use Rattle.pst_ndb.specs.NodeTable.{table_of_nodes, entries_of_nodes}
use Rattle.pst_intact.specs.View.{table_of_intact, nodes_of_intact, intact_beside, intact_roots}
use Rattle.pst_json.specs.Messages.{lists}
use Rattle.pst_json.proofs.ListingLemmas.{folder_noted}
use Rattle.pst_json.proofs.listings.listings_of.Goals as goal

pub loop-folder-preserved : goal.loop-folder-preserved
loop-folder-preserved c =
    let i = c.loop-folder.invariant in
    let t = table_of_intact c.args.intact.now in
    let nodes = nodes_of_intact c.args.intact.now in
    let steps = c.in-Some.ensures.steps in
    let table : table_of_nodes (intact_beside c.in-Some.folder) ≡ t = ap table_of_nodes steps.2 ∙ i.table in
    let entries : entries_of_nodes (intact_beside c.in-Some.folder) ≡ nodes = ap entries_of_nodes steps.2 ∙ i.nodes in
    record {
      table = ap table_of_nodes steps.1 ∙ i.table;
      nodes = ap entries_of_nodes steps.1 ∙ i.nodes;
      index = rw table at c.in_ok-note_folder.ensures.index;
      rows = rw table at c.in_ok-note_folder.ensures.rows;
      noted = λ nid there. folder_noted (lists t nodes nid) (intact_roots c.in-Some.folder) _ _ _ _ _ steps.0 (rw (table, entries) at (c.in_ok-note_folder.ensures.noted nid there)) (i.noted nid there);
    }
