-- The law of stores.
use Rattle.std.specs.Prelude.{◌≡◌, ℕ, ◌↔◌, List, None}
use Rattle.pst_store.specs.Parts.{StoreParts}
use Rattle.pst_store.specs.Grammar.{IsStore}
use Rattle.pst_store.specs.Fault.{store_fault}
use Rattle.pst_store.specs.Values.{store_in}

-- A file is a store exactly where it has no first fault; and it is one store at most.
abbrev pub StoreLaw : Type 0
StoreLaw = (I : List ℕ) (s : StoreParts) → IsStore I s ↔ ((store_fault I ≡ None) × (s ≡ store_in I))
