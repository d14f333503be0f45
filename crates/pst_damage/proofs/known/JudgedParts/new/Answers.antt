use Rattle.pst_damage.specs.Rows.{as_it_is, rows_part}
use Rattle.pst_damage.proofs.known.JudgedParts.new.Goals as goal

pub returns : goal.returns
returns c t nodes broken = record { contexts = c.new.ensures t; listings = c.new-2.ensures t nodes broken; rows = c.new-3.ensures as_it_is (rows_part t nodes broken) }
