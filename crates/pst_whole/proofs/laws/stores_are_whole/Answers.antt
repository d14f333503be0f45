use Rattle.pst_whole.proofs.WholeLaws.{store_whole_law, decoded_store_law}
use Rattle.pst_whole.proofs.laws.stores_are_whole.Goals as goal

pub returns : goal.returns
returns c = record { stored = store_whole_law; decoded = decoded_store_law }
