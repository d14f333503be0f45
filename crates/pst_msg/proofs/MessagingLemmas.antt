-- What the check of messaging answers, in the words of the grammar.
use Rattle.std.proofs.Common.{◌≡◌, None, Result, Ok, Err}
use Rattle.std.specs.Prelude.{OnOk, IfErr}
use Rattle.pst_fault.specs.declared.fault.Fault.{Fault}
use Rattle.pst_fault.specs.Fault.{no_memory}
use Rattle.pst_fault.specs.First.{Tells}
use Rattle.pst_fault.proofs.FirstLemmas.{only_memory}
use Rattle.pst_ndb.specs.declared.ndb.Ndb.{Ndb}
use Rattle.pst_ndb.specs.Fault.{nodes_fault}
use Rattle.pst_ndb.specs.Views.{table_of_ndb, nodes_of}
use Rattle.pst_mail.specs.Fault.{messaging_fault}
use Rattle.pst_mail.specs.Grammar.{Contents}
use Rattle.pst_mail.proofs.ContentsLaws.{contents_law}

pub found_contents : (ndb : Ndb) (result : Result (Unit {0}) Fault) → nodes_fault (table_of_ndb ndb) (nodes_of ndb) ≡ None → Tells result (messaging_fault (table_of_ndb ndb) (nodes_of ndb)) tt → OnOk result (Contents (table_of_ndb ndb) (nodes_of ndb))
found_contents ndb (Ok x) trees told = (contents_law (table_of_ndb ndb) (nodes_of ndb) trees).1 told.0
found_contents ndb (Err f) trees told = tt

pub not_refused : (ndb : Ndb) (result : Result (Unit {0}) Fault) → nodes_fault (table_of_ndb ndb) (nodes_of ndb) ≡ None → Contents (table_of_ndb ndb) (nodes_of ndb) → Tells result (messaging_fault (table_of_ndb ndb) (nodes_of ndb)) tt → IfErr result (λ f. f ≡ no_memory)
not_refused ndb (Ok x) trees is told = tt
not_refused ndb (Err f) trees is told = only_memory (messaging_fault (table_of_ndb ndb) (nodes_of ndb)) f ((contents_law (table_of_ndb ndb) (nodes_of ndb) trees).0 is) told
