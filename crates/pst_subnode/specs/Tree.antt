-- The subnodes of a block identifier, and the subnodes of each of them ([MS-PST] 2.2.2.8.3.3): the first fault where so many
-- lists may nest, and the height.
--
-- A list comes first, then its entries in order, for each its data and then its own subnodes. A fault is told of no node
-- here: whoever asks for a node's subnodes sets it.
use Rattle.std.specs.Prelude.{ℕ, zero, suc, ◌+◌, max, Option, Some, None, List, [], ◌∷◌, if◌then◌else◌}
use Rattle.pst_fault.specs.declared.fault.Fault.{Fault}
use Rattle.pst_fault.specs.declared.kind.Kind.{Kind}
use Rattle.pst_fault.specs.declared.kind.Kind.TheVariants.{Nesting, NoMemory}
use Rattle.pst_fault.specs.Fault.{fault_at, at_node}
use Rattle.pst_fault.specs.Each.{first_of}
use Rattle.pst_fault.specs.First.{◌then◌}
use Rattle.pst_block.specs.Table.{Table}
use Rattle.pst_datatree.specs.Bid.{is_no_block}
use Rattle.pst_datatree.specs.Data.{data_fault}
use Rattle.pst_subnode.specs.declared.sub.Sub.{Sub}
use Rattle.pst_subnode.specs.List.{subs_of, list_fault}

-- the greatest height of entries, 0 where there are none
unfoldable pub most_among : (Sub → ℕ) → List Sub → ℕ
most_among height [] = 0
most_among height (s ∷ rest) = max (height s) (most_among height rest)

-- an entry: its data, then its own subnodes
unfoldable pub entry_fault : Table → (ℕ → Option Fault) → Sub → Option Fault
entry_fault t below s = data_fault t s.bid_data then below s.bid_sub

unfoldable pub entry_height : (ℕ → ℕ) → Sub → ℕ
entry_height below s = below s.bid_sub

-- one list too many
abbrev pub nesting : Fault
nesting = fault_at Nesting 0

-- A block identifier, where so many lists may nest: one that names no block has no fault. A list that would begin below the
-- limit is not looked up.
unfoldable pub sub_fault : Table → ℕ → ℕ → Option Fault
sub_fault t zero bid = if is_no_block bid then None else Some nesting
sub_fault t (suc limit) bid =
    if is_no_block bid then None else (list_fault t bid then first_of (entry_fault t (λ b. sub_fault t limit b)) (subs_of t bid))

-- how many lists nest, where nothing is at fault: one more than the most below an entry
unfoldable pub sub_height : Table → ℕ → ℕ → ℕ
sub_height t zero bid = 0
sub_height t (suc limit) bid =
    if is_no_block bid then 0 else (most_among (entry_height (λ b. sub_height t limit b)) (subs_of t bid) + 1)

-- ---- the same under a node

-- a fault of this kind, under a node whose subnodes begin with a block identifier
abbrev pub list_placed : Kind → ℕ → ℕ → Fault → Fault
list_placed Nesting top nid f = record { kind = f.kind; place = record { at = f.place.at; bid = top; nid = nid } }
list_placed NoMemory top nid f = f
list_placed _ top nid f = at_node nid f

-- A fault, found under a node whose subnodes begin with a block identifier: nesting is told of that identifier, and memory
-- that ran out of nothing.
abbrev pub at_top : ℕ → ℕ → Fault → Fault
at_top top nid f = list_placed f.kind top nid f
