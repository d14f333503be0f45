-- What is known to a checker that is asked about nodes one by one.
use Rattle.pst_block.specs.Table.{Table}
use Rattle.pst_msg.specs.declared.checker.Checker.{Checker}
use Rattle.pst_msg.specs.Known.{IsTrueOf}

-- all that it remembers is true among these blocks, so it may be asked about nodes that are made of them
abbrev pub IsCheckerOf : Table → Checker → Type 0
IsCheckerOf t c = IsTrueOf t c.known
