-- Nodes that are counted one after another.
use Rattle.std.proofs.Common.{◌≡◌, ℕ, suc, ◌+◌, ◌≤◌, Bool, true, false, List, [], ◌∷◌, length, None, refl, ap, arith}
use Rattle.std.specs.Prelude.{map, if◌then◌else◌}
use Rattle.pst_page.specs.declared.entry.NodeEntry.{NodeEntry}
use Rattle.pst_btree.specs.Entries.{node_key}
use Rattle.pst_btree.specs.Order.{Rises}
use Rattle.pst_ndb.specs.Roots.{Roots, all_roots}
use Rattle.pst_verify.specs.Counts.{count_of}

-- the identifiers of nodes
abbrev pub tops : List Roots → List ℕ
tops nodes = map (λ (r : Roots). r.top) nodes

pub tops_are : (nodes : List NodeEntry) → tops (all_roots nodes) ≡ map node_key nodes
tops_are [] = refl
tops_are (e ∷ rest) = ap (λ xs. e.nid ∷ xs) (tops_are rest)

pub lengths_are : (nodes : List NodeEntry) → length (all_roots nodes) ≡ length nodes
lengths_are [] = refl
lengths_are (e ∷ rest) = ap suc (lengths_are rest)

-- one more node, of a kind or not
abbrev pub one_if : Bool → ℕ
one_if b = if b then 1 else 0

step_by : (kind : ℕ → Bool) (rest : List Roots) (x : Roots) (b : Bool) → kind x.top ≡ b → count_of kind (x ∷ rest) ≡ one_if b + count_of kind rest
step_by kind rest x true e = rw e (omega arith)
step_by kind rest x false e = rw e (omega arith)

pub step : (kind : ℕ → Bool) (xs rest : List Roots) (x : Roots) (n total : ℕ) → xs ≡ x ∷ rest → n + count_of kind xs ≡ total → n + one_if (kind x.top) + count_of kind rest ≡ total
step kind xs rest x n total is so_far =
    let here : n + count_of kind (x ∷ rest) ≡ total = (rw is at so_far) in
    omega (arith, here, step_by kind rest x (kind x.top) refl)

-- the same, where it was asked by the identifier
pub step_told : (kind : ℕ → Bool) (xs rest : List Roots) (x : Roots) (n total nid one : ℕ) (b : Bool) → xs ≡ x ∷ rest → nid ≡ x.top → b ≡ kind nid → one ≡ one_if b → n + count_of kind xs ≡ total → n + one + count_of kind rest ≡ total
step_told kind xs rest x n total nid one b is top of so_far_is so_far = rw (so_far_is, of, top) (step kind xs rest x n total is so_far)

most_one : (b : Bool) → one_if b ≤ 1
most_one true = omega arith
most_one false = omega arith

-- no more of a kind than in all
pub few_told : (n total one : ℕ) (b : Bool) → one ≡ one_if b → n ≤ total → n + one ≤ total + 1
few_told n total one b is few = rw is (omega (arith, few, most_one b))

pub counted : (xs rest : List Roots) (x : Roots) (n total : ℕ) → xs ≡ x ∷ rest → n + length xs ≡ total → n + 1 + length rest ≡ total
counted xs rest x n total is so_far = let here : n + length (x ∷ rest) ≡ total = (rw is at so_far) in omega (arith, here)

-- the identifiers that are left rise from how many were counted
lower : (a b : ℕ) (xs : List ℕ) → a ≤ b → Rises b None xs → Rises a None xs
lower a b [] h r = r
lower a b (x ∷ xs) h r = (omega (arith, h, r.0), r.1, r.2)

pub room : (xs rest : List Roots) (x : Roots) (n : ℕ) → xs ≡ x ∷ rest → Rises n None (tops xs) → n ≤ x.top
room xs rest x n is rises = let here : Rises n None (tops (x ∷ rest)) = (rw is at rises) in here.0

pub rises_on : (xs rest : List Roots) (x : Roots) (n : ℕ) → xs ≡ x ∷ rest → Rises n None (tops xs) → Rises (n + 1) None (tops rest)
rises_on xs rest x n is rises =
    let here : Rises n None (tops (x ∷ rest)) = (rw is at rises) in
    lower (n + 1) (x.top + 1) (tops rest) (omega (arith, here.0)) here.2

pub none_left : (kind : ℕ → Bool) (xs : List Roots) (n total : ℕ) → xs ≡ [] → n + count_of kind xs ≡ total → n ≡ total
none_left kind xs n total is so_far = let here : n + count_of kind [] ≡ total = (rw is at so_far) in omega (arith, here)

pub all_counted : (xs : List Roots) (n total : ℕ) → xs ≡ [] → n + length xs ≡ total → n ≡ total
all_counted xs n total is so_far = let here : n + length {A = Roots} [] ≡ total = (rw is at so_far) in omega (arith, here)

-- nothing is counted yet
pub counted_at_first : (size : List Roots → ℕ) (xs all : List Roots) → xs ≡ all → 0 + size xs ≡ size all
counted_at_first size xs all is = let same : size xs ≡ size all = ap size is in omega (arith, same)

pub rises_at_first : (xs : List Roots) (nodes : List NodeEntry) → xs ≡ all_roots nodes → Rises 0 None (map node_key nodes) → Rises 0 None (tops xs)
rises_at_first xs nodes is rises = rw (is, tops_are nodes) rises
