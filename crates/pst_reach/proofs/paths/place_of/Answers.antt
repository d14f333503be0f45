use Rattle.std.proofs.Common.{rules}
use Rattle.std.proofs.lemmas.List.Sorted.{answers_always}
use Rattle.pst_reach.specs.Path.{reach_nid}
use Rattle.pst_reach.proofs.PathLemmas.{searched}
use Rattle.pst_reach.proofs.paths.place_of.Goals as goal

-- the closure gives a folder's identifier
pub returns : goal.returns
returns c =
    let facts = c.binary_search_by_key.ensures in
    let by_key = facts.position reach_nid (answers_always _ _ _ (λ f a r g called. search rules)) in
    searched c.args.reached.now c.args.nid c.requires.rise _ facts.bound by_key
