use Rattle.std.proofs.Common.{refl, ap, ◌∙◌, sym}
use Rattle.pst_ndb.specs.Views.{table_of_node, table_of_ndb, nodes_of, roots_of}
use Rattle.pst_tc.specs.Tc.{node_of_tc}
use Rattle.pst_remembered.specs.Keys.{data_key}
use Rattle.pst_msg.proofs.ListingLemmas.{listed, one_listed}
use Rattle.pst_msg.proofs.folder.check_rows.Goals as goal

pub returns-then-has-clause-exact : goal.returns-then-has-clause-exact
returns-then-has-clause-exact c =
    let named = c.key_of_data-taken.ensures ∙ ap (λ n. data_key n (roots_of c.args.table)) c.role_number.ensures in
    (listed (table_of_ndb c.args.ndb.now) (table_of_node c.args.table) (nodes_of c.args.ndb.now) c.args.items (roots_of c.args.table) c.args.listings.now c.key_of_data-taken.result c.requires.table c.requires.listings named (sym c.has.ensures ∙ c.if-has.true), refl)

pub returns-clause-listings : goal.returns-clause-listings
returns-clause-listings c =
    let named = c.key_of_data-taken.ensures ∙ ap (λ n. data_key n (roots_of c.args.table)) c.role_number.ensures in
    let is = c.known_tc-rows.ensures in
    one_listed (table_of_ndb c.args.ndb.now) (table_of_node (node_of_tc c.known_tc-rows.result)) (nodes_of c.args.ndb.now) c.args.items (roots_of c.args.table) (roots_of (node_of_tc c.known_tc-rows.result)) c.bid_data.result c.args.listings.now c.insert.new.self c.key_of_data-taken.result (ap table_of_node is ∙ c.requires.table) (ap roots_of is) c.bid_data.ensures c.requires.listings c.in_ok-check_items.ensures.exact.0 named c.insert.ensures.only
