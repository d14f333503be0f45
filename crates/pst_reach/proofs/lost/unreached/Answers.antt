use Rattle.pst_ndb.specs.Views.{table_of_ndb, nodes_of}
use Rattle.std.specs.List.{filter}
use Rattle.pst_store.specs.Values.{store_in}
use Rattle.pst_store.specs.View.{bytes_of_store, table_of_store, nodes_of_store, folders_left}
use Rattle.pst_reach.specs.Reach.{folder_ids}
use Rattle.pst_reach.specs.Levels.{reaches_of}
use Rattle.pst_reach.specs.Path.{is_lost_in, unreached_of}
use Rattle.pst_reach.proofs.PathLemmas.{kept_all}
use Rattle.pst_reach.proofs.ReachLaws.{reached_rise}
use Rattle.pst_reach.proofs.lost.unreached.Goals as goal

pub find_reach-requires : goal.find_reach-requires
find_reach-requires c =
    let store = c.known-store.result in
    let I = bytes_of_store store in
    let sound = c.is_sound.ensures in
    record { rise = reached_rise I (store_in I) (table_of_store store) (nodes_of_store store) c.args.reached.now sound.store sound.table sound.nodes (rw c.known-store.ensures c.requires.reached) }

pub returns : goal.returns
unfolding unreached_of
returns c =
    let nodes = nodes_of c.args.ndb.now in
    let p = is_lost_in (reaches_of (table_of_ndb c.args.ndb.now) nodes) in
    kept_all p c.loop-folder.lost.items (filter p (folder_ids nodes)) (folders_left c.loop-folder.rest) c.in_default.ensures.steps.0.0 c.loop-folder.invariant
