use Rattle.std.proofs.Common.{◌≡◌, ◌<◌, ◌≤◌, ◌^◌, length, drop}
use Rattle.pst_text.proofs.DigitLemmas.{AreSpelt}
use Rattle.pst_text.proofs.digits.put_number.Given as goal

-- the digits from `first` on are spelt, and there is room for those of what is left
abbrev pub invariant-loop-left : goal.invariant-loop-left
invariant-loop-left l = (0 < l.first) × (l.first ≤ 8) × (length l.digits ≡ 8) × (l.left < 16 ^ l.first) × AreSpelt l.number l.left (drop l.first l.digits)

abbrev pub decreases-loop-left : goal.decreases-loop-left
decreases-loop-left l = l.left
