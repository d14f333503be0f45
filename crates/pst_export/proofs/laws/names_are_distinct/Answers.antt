use Rattle.pst_export.proofs.DistinctLaws.{beside_law}
use Rattle.pst_export.proofs.IntactLaws.{decoded_intact_law, decoded_whole_intact_law, store_intact_law, whole_intact_law}
use Rattle.pst_export.proofs.laws.names_are_distinct.Goals as goal

pub returns-clause-names : goal.returns-clause-names
returns-clause-names c = beside_law

pub returns-clause-stored : goal.returns-clause-stored
returns-clause-stored c = store_intact_law

pub returns-clause-decoded : goal.returns-clause-decoded
returns-clause-decoded c = decoded_intact_law

pub returns-clause-whole : goal.returns-clause-whole
returns-clause-whole c = whole_intact_law

pub returns-clause-whole_decoded : goal.returns-clause-whole_decoded
returns-clause-whole_decoded c = decoded_whole_intact_law
