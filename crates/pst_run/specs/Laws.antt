-- What `--whole` changes, and what it doesn't.
use Rattle.std.specs.Prelude.{◌≡◌, ℕ, true, false, List}
use Rattle.std.specs.List.{All}
use Rattle.pst_encoding.specs.Tables.{IsByte}
use Rattle.pst_json.specs.pst_store.Grammar.{IsStore}
use Rattle.pst_json.specs.pst_store.Parts.{StoreParts}
use Rattle.pst_ask.specs.Ask.{Asked}
use Rattle.pst_run.specs.Answer.{answer_to, bytes_for}

-- Where the bytes of a file are a store, or with `--decode` those of its plain twin, the answer with the option is the answer without.
abbrev pub WholeOptionLaw : Type 0
WholeOptionLaw = (a : Asked) (bytes : List ℕ) (s : StoreParts) → All IsByte bytes → IsStore (bytes_for a.decode bytes) s →
    answer_to (record a { whole = true }) bytes ≡ answer_to (record a { whole = false }) bytes
