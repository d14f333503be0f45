use Rattle.std.proofs.Common.{refl, ◌∙◌}
use Rattle.pst_ndb.proofs.CountLemmas.{expanded_same}
use Rattle.pst_ndb.proofs.check.check_file.Goals as goal

pub returns-clause-checked : goal.returns-clause-checked
returns-clause-checked c =
    let space = c.in_ok-space.ensures in
    record {
      image = c.known-ndb.ensures.image ∙ space.image;
      header = c.known-ndb.ensures.header;
      table = c.known-ndb.ensures.table ∙ space.table;
      nodes = c.known-ndb.ensures.nodes ∙ space.nodes;
      report = space.report;
      marks = space.marks;
      pages = space.pages;
      sums = space.sums;
      expansions = expanded_same _ _ _ _ c.in_ok-expansions.expansions c.known-ndb.ensures.table c.known-ndb.ensures.nodes c.in_ok-expansions.ensures.expansions;
      contexts = refl;
      walked = refl;
    }
