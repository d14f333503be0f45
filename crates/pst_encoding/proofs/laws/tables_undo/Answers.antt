use Rattle.pst_encoding.proofs.TableLemmas.{tables_law}
use Rattle.pst_encoding.proofs.laws.tables_undo.Goals as goal

pub returns : goal.returns
returns c = tables_law
