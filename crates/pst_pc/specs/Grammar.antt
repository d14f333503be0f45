-- The grammar of property contexts ([MS-PST] 2.3.3). It speaks of no fault.
use Rattle.std.specs.Prelude.{◌≡◌, ℕ, List}
use Rattle.std.specs.List.{Contains}
use Rattle.pst_bytes.specs.declared.span.Span.{Span}
use Rattle.pst_block.specs.Table.{Table}
use Rattle.pst_ndb.specs.Roots.{Roots}
use Rattle.pst_heap.specs.Values.{client_of, user_root_of, heap_at}
use Rattle.pst_heap.specs.Grammar.{IsHeap}
use Rattle.pst_bth.specs.Grammar.{IsBth}
use Rattle.pst_value.specs.Grammar.{HasValue}
use Rattle.pst_pc.specs.Values.{pc_client, pc_sizes, kind_in, raw_in}

-- a record has a value
abbrev pub HasProperty : Table → Roots → ℕ × Span → Type 0
HasProperty t r x = (spans : List Span) × HasValue t r (kind_in t.image x.1) (raw_in x.1) spans

-- a heap with the client signature of property contexts, whose user root names a BTH, each of whose records has a value
pub record HasPc (t : Table) (r : Roots) (records : List (ℕ × Span)) : Type 0 where
  pub heap : IsHeap (heap_at t r)
  pub client : client_of (heap_at t r) ≡ pc_client
  pub bth : IsBth (heap_at t r) pc_sizes (user_root_of (heap_at t r)) records
  pub values : (x : ℕ × Span) → Contains records x → HasProperty t r x

abbrev pub IsPc : Table → Roots → Type 0
IsPc t r = (records : List (ℕ × Span)) × HasPc t r records
