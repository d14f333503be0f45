use Rattle.pst_names.specs.Index.{HasNoted}
use Rattle.pst_names.proofs.index.NameIndex.put_all.Given as goal

-- the entries so far were gone by
abbrev pub invariant-loop-i : goal.invariant-loop-i
invariant-loop-i l = HasNoted l.initial.self l.self l.bytes l.i
