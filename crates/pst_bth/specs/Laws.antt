-- Laws of BTHs.
use Rattle.std.specs.Prelude.{◌≡◌, ℕ, ◌↔◌, List, map, Some, None}
use Rattle.std.specs.List.{Contains}
use Rattle.pst_bytes.specs.declared.span.Span.{Span}
use Rattle.pst_btree.specs.Entries.{first_with}
use Rattle.pst_btree.specs.Order.{Rises}
use Rattle.pst_heap.specs.Values.{HeapData}
use Rattle.pst_bth.specs.declared.sizes.Sizes.{Sizes}
use Rattle.pst_bth.specs.Values.{record_key, bth_records}
use Rattle.pst_bth.specs.Grammar.{IsBth}
use Rattle.pst_bth.specs.Fault.{bth_fault}

-- A heap has a BTH with an identifier exactly where it has no first fault, wherever that is named, and then its records are these.
abbrev pub BthLaw : Type 0
BthLaw = (h : HeapData) (z : Sizes) (named hid : ℕ) (records : List (ℕ × Span)) →
    IsBth h z hid records ↔ ((bth_fault h z named hid ≡ None) × (records ≡ bth_records h z hid))

-- Where it is named at one place without fault, it has none named at another.
abbrev pub BthNameLaw : Type 0
BthNameLaw = (h : HeapData) (z : Sizes) (named other hid : ℕ) → bth_fault h z named hid ≡ None → bth_fault h z other hid ≡ None

-- Its keys rise, so that it is a finite map.
abbrev pub BthRiseLaw : Type 0
BthRiseLaw = (h : HeapData) (z : Sizes) (named hid : ℕ) → bth_fault h z named hid ≡ None → Rises 0 None (map record_key (bth_records h z hid))

-- In it a record is found under a key exactly where it is there and has that key.
abbrev pub BthMapLaw : Type 0
BthMapLaw = (h : HeapData) (z : Sizes) (named hid : ℕ) → bth_fault h z named hid ≡ None → (key : ℕ) (r : ℕ × Span) →
    (first_with record_key key (bth_records h z hid) ≡ Some r) ↔ (Contains (bth_records h z hid) r × (record_key r ≡ key))
