-- What is known of entries: runs of them, each by the place in the file where its first one begins, in which all keep a rule. Only
-- what is true is known, so what is passed over hides nothing.
use Rattle.std.specs.Prelude.{◌≡◌, ℕ, ◌+◌, ◌*◌, ◌<◌, ◌≤◌, Bool, true, false, List, length, Option, Some, None}
use Rattle.std.specs.Ordering.{nat_cmp}
use Rattle.std.specs.BTreeMap.{get}
use Rattle.pst_bytes.specs.Image.{bytes_at}
use Rattle.pst_names.specs.declared.runs.Runs.{Runs}
use Rattle.pst_names.specs.Entry.{entry_in, name_entry_bytes}
use Rattle.pst_names.specs.Fault.{is_entry}

-- 8 bytes are a good entry, wherever they lie
unfoldable pub allows : ℕ → List ℕ → List ℕ → Bool
allows guids strings bytes = is_entry guids strings (entry_in 0 bytes)

-- a run that begins at a place is known to have so many good entries
unfoldable pub run_at : Runs → ℕ → Option ℕ
run_at r at = get nat_cmp r.runs at

-- all entries keep a rule, as many as are whole
abbrev pub AreAll : (List ℕ → Bool) → List ℕ → Type 0
AreAll good bytes = (j : ℕ) → 8 * j + 8 ≤ length bytes → good (name_entry_bytes bytes j) ≡ true

-- they are good
abbrev pub AreAllowed : ℕ → List ℕ → List ℕ → Type 0
AreAllowed guids strings bytes = AreAll (allows guids strings) bytes

-- so many that begin at a place in the file
abbrev pub IsGoodRun : (List ℕ → Bool) → List ℕ → ℕ → ℕ → Type 0
IsGoodRun good I at n = (j : ℕ) → j < n → good (bytes_at I (record { at = at + 8 * j; len = 8 })) ≡ true

pub record AreRunsTrue (good : List ℕ → Bool) (I : List ℕ) (r : Runs) : Type 0 where
  pub holds : (at n : ℕ) → run_at r at ≡ Some n → IsGoodRun good I at n

-- the number of the first entry that is not good, of those in a run of bytes; none where all are good
abbrev pub IsFirstBad : ℕ → List ℕ → List ℕ → Option ℕ → Type 0
IsFirstBad guids strings bytes None = AreAllowed guids strings bytes
IsFirstBad guids strings bytes (Some j) =
    (8 * j + 8 ≤ length bytes)
    × (allows guids strings (name_entry_bytes bytes j) ≡ false)
    × ((k : ℕ) → k < j → allows guids strings (name_entry_bytes bytes k) ≡ true)
