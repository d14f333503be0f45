use Rattle.pst_bytes.specs.Image.{bytes_of}
use Rattle.pst_ndb.proofs.DatabaseLaws.{found_database, not_refused}
use Rattle.pst_ndb.proofs.check.check_ndb.Goals as goal

pub returns-clause-found : goal.returns-clause-found
returns-clause-found c = found_database c.args.image c.check_exactly.result c.check_exactly.ensures.none c.check_exactly.ensures.checked

pub returns-clause-only : goal.returns-clause-only
returns-clause-only c h blocks nodes order d = not_refused (bytes_of c.args.image) h blocks nodes order c.check_exactly.result c.check_exactly.ensures.exact d
