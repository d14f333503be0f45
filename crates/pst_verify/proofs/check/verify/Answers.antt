use Rattle.pst_verify.proofs.VerifyLemmas.{answered, not_refused, tells}
use Rattle.pst_reach.specs.pst_store.Fault.{store_fault}
use Rattle.pst_verify.proofs.check.verify.Goals as goal

pub returns-clause-yes : goal.returns-clause-yes
returns-clause-yes c = answered c.args.bytes c.check_exactly.result c.check_exactly.ensures.none c.check_exactly.ensures.view c.check_exactly.ensures.report

pub returns-clause-no : goal.returns-clause-no
returns-clause-no c s is = not_refused c.args.bytes.now s c.check_exactly.result c.check_exactly.ensures.exact is

pub returns-clause-exact : goal.returns-clause-exact
returns-clause-exact c = tells (store_fault c.args.bytes.now) c.check_exactly.result c.check_exactly.ensures.exact c.check_exactly.ensures.none
