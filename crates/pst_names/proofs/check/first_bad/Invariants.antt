use Rattle.std.proofs.Common.{◌≡◌, ℕ, ◌<◌, true}
use Rattle.pst_names.specs.Entry.{name_entry_bytes}
use Rattle.pst_names.specs.Known.{allows}
use Rattle.pst_names.specs.Strings.{rule_guids, rule_strings}
use Rattle.pst_names.proofs.check.first_bad.Given as goal

-- the entries so far are good
abbrev pub invariant-loop-i : goal.invariant-loop-i
invariant-loop-i l = (k : ℕ) → k < l.i → allows (rule_guids l.rules) (rule_strings l.rules) (name_entry_bytes l.bytes k) ≡ true
