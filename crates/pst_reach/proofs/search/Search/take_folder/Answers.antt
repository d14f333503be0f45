use Rattle.std.proofs.Common.{sym, ap, ◌∙◌}
use Rattle.pst_ndb.specs.NodeTable.{entries_of_nodes}
use Rattle.pst_ndb.specs.Views.{table_of_node, roots_of}
use Rattle.pst_tc.specs.Tc.{node_of_tc}
use Rattle.pst_tc.specs.Values.{tc_rows}
use Rattle.pst_intact.specs.View.{table_of_intact, nodes_of_intact, intact_beside, intact_roots}
use Rattle.pst_reach.specs.Levels.{steps_named}
use Rattle.pst_reach.specs.Reach.{folders_named}
use Rattle.pst_reach.specs.Search.{table_key}
use Rattle.pst_reach.proofs.FolderLemmas.{no_folder, no_table_in, table_steps_in, takes_nothing, takes_same, known_table, table_taken_by}
use Rattle.pst_reach.proofs.search.Search.take_folder.Goals as goal

pub returns-in_default-clause-takes : goal.returns-in_default-clause-takes
returns-in_default-clause-takes c =
    let intact = c.args.self.now.intact in
    takes_nothing c.args.depth _ c.args.self.now.found c.args.next.now (no_folder (table_of_intact intact) (nodes_of_intact intact) c.args.parent (sym c.in_default.ensures.roots))

pub returns-in_default-hierarchy-clause-takes : goal.returns-in_default-hierarchy-clause-takes
returns-in_default-hierarchy-clause-takes c =
    let intact = c.args.self.now.intact in
    let folder = c.in-Some.folder in
    takes_nothing c.args.depth _ c.args.self.now.found c.args.next.now
    (no_table_in (table_of_intact intact) (nodes_of_intact intact) (entries_of_nodes (intact_beside folder)) c.args.parent (intact_roots folder) c.in-Some.ensures.nodes c.in-Some.ensures.roots c.in_default-hierarchy.ensures.roots)

pub returns-then-contains-clause-takes : goal.returns-then-contains-clause-takes
returns-then-contains-clause-takes c =
    let intact = c.args.self.now.intact in
    let folder = c.in-Some.folder in
    let node = node_of_tc c.in-Some-hierarchy.table in
    let alike = c.in-Some-hierarchy.ensures.table ∙ c.in-Some.ensures.table in
    let steps = table_steps_in (table_of_intact intact) (table_of_node node) (nodes_of_intact intact) (entries_of_nodes (intact_beside folder)) c.args.parent (intact_roots folder) (roots_of node) alike c.in-Some.ensures.nodes c.in-Some.ensures.roots c.in-Some-hierarchy.ensures.roots in
    known_table c.args.depth c.args.parent (table_of_intact intact) (nodes_of_intact intact) (roots_of node) c.key_of-key.result _ c.args.self.now.tables c.args.self.now.found c.args.next.now
    (c.key_of-key.ensures ∙ ap (λ n. table_key (roots_of n)) c.node.ensures) (sym c.contains.ensures ∙ c.if-contains.true) c.requires.taken
    (steps ∙ ap (λ t. steps_named c.args.parent (folders_named (nodes_of_intact intact) (tc_rows t (roots_of node)))) alike)

pub returns-clause-taken : goal.returns-clause-taken
returns-clause-taken c =
    let node = node_of_tc c.in-Some-hierarchy.table in
    table_taken_by c.args.depth c.args.parent (table_of_intact c.args.self.now.intact) (table_of_node node) (nodes_of_intact c.args.self.now.intact) (roots_of node) c.key_of-key.result c.args.self.now.tables c.insert.new.self c.args.self.now.found c.take_table.new.self.found c.args.next.now c.take_table.new.next
    (c.in-Some-hierarchy.ensures.table ∙ c.in-Some.ensures.table) (c.key_of-key.ensures ∙ ap (λ n. table_key (roots_of n)) c.node.ensures)
    (rw c.take_table.ensures.tables at c.in_ok-_new.ensures.updates.0) c.take_table.ensures.keeps c.in_ok-take_table.ensures.takes c.requires.taken

pub returns-clause-takes : goal.returns-clause-takes
returns-clause-takes c =
    let intact = c.args.self.now.intact in
    let folder = c.in-Some.folder in
    let node = node_of_tc c.in-Some-hierarchy.table in
    takes_same c.args.depth _ _ c.args.self.now.found c.take_table.new.self.found c.args.next.now c.take_table.new.next
    (table_steps_in (table_of_intact intact) (table_of_node node) (nodes_of_intact intact) (entries_of_nodes (intact_beside folder)) c.args.parent (intact_roots folder) (roots_of node) (c.in-Some-hierarchy.ensures.table ∙ c.in-Some.ensures.table) c.in-Some.ensures.nodes c.in-Some.ensures.roots c.in-Some-hierarchy.ensures.roots)
    c.in_ok-take_table.ensures.takes
