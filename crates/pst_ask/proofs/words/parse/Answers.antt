use Rattle.pst_ask.specs.Words.{texts}
use Rattle.pst_ask.proofs.WordLemmas.{parsed_ok, parsed_err}
use Rattle.pst_ask.proofs.words.parse.Goals as goal

pub returns-in-Ok-clause-ok : goal.returns-in-Ok-clause-ok
returns-in-Ok-clause-ok c = parsed_ok (texts c.args.words.now) c.in-Ok.matches c.order_in.result c.in-Ok.ensures.kinds c.in-Ok.ensures.ok c.order_in.ensures

pub returns-in-Ok-clause-err : goal.returns-in-Ok-clause-err
returns-in-Ok-clause-err c = parsed_err (texts c.args.words.now) c.in-Ok.matches c.order_in.result c.in-Ok.ensures.kinds c.in-Ok.ensures.ok c.order_in.ensures
