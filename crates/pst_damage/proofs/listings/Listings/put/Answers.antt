use Rattle.pst_ndb.specs.Views.{table_of_node, roots_of}
use Rattle.pst_damage.proofs.ListingsLemmas.{one_listed}
use Rattle.pst_damage.proofs.listings.Listings.put.Goals as goal

pub returns : goal.returns
returns c nodes broken none are =
    one_listed (table_of_node c.args.table) nodes broken c.args.items (roots_of c.args.table) c.args.self.now (record { tables = c.insert.new.self }) c.key_of.result c.key_of.ensures c.in_ok-insert.ensures.updates.0 none are
