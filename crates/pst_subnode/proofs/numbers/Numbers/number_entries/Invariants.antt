use Rattle.pst_bytes.specs.Image.{bytes_of}
use Rattle.pst_fault.specs.First.{join_below}
use Rattle.pst_subnode.specs.Body.{sub_at}
use Rattle.pst_subnode.specs.Numbers.{HaveNumbers, KeepsNumbers}
use Rattle.pst_subnode.proofs.numbers.Numbers.number_entries.Given as goal

abbrev pub invariant-loop-i : goal.invariant-loop-i
invariant-loop-i l = record {
  have : HaveNumbers l.self (join_below (sub_at (bytes_of l.body)) l.i) l.numbers.items;
  keeps : KeepsNumbers l.initial.self l.self;
}
