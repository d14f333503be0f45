-- What is found in a table of good blocks.
use Rattle.std.proofs.Common.{◌≡◌, ℕ, ◌≤◌, Bool, true, false, List, [], ◌∷◌, length, Option, Some, None, refl, sym, arith}
use Rattle.std.proofs.lemmas.Bool.{eqb-true}
use Rattle.std.specs.Prelude.{◌==◌, if◌then◌else◌, IfSome}
use Rattle.pst_fault.proofs.FirstLemmas.{none_then}
use Rattle.pst_page.specs.declared.entry.BlockEntry.{BlockEntry}
use Rattle.pst_btree.specs.Entries.{block_key, block_with, first_with}
use Rattle.pst_block.specs.Block.{bid_key}
use Rattle.pst_block.specs.Fault.{block_fault}
use Rattle.pst_block.specs.Good.{GoodBlock}
use Rattle.pst_block.specs.Table.{Table, entry_of, IsWithin, AreWithin}
use Rattle.pst_block.specs.Walk.{blocks_fault}
use Rattle.pst_block.proofs.BlockLaws.{block_law}
use Rattle.pst_block.proofs.BlockLemmas.{size_large}

abbrev IsFound : ℕ → List ℕ → ℕ → BlockEntry → Type 0
IsFound end I key e = (block_fault end I e ≡ None) × (block_key e ≡ key)

here : (end : ℕ) (I : List ℕ) (key : ℕ) (x e : BlockEntry) → block_fault end I x ≡ None → (block_key x == key) ≡ true → Some x ≡ Some e → IsFound end I key e
here end I key x e none same is =
    let x_is_e : x ≡ e = cc in
    rw (← x_is_e) (none, eqb-true _ _ same)

-- what is found is an entry without fault, and has the key
found : (end : ℕ) (I : List ℕ) (entries : List BlockEntry) (key : ℕ) (e : BlockEntry) → blocks_fault end I entries ≡ None → block_with key entries ≡ Some e → IsFound end I key e
unfolding blocks_fault first_with
found end I [] key e none is = cc
found end I (x ∷ rest) key e none is = by_key (block_key x == key) refl (none_then (block_fault end I x) (blocks_fault end I rest) none).0 (found end I rest key e (none_then (block_fault end I x) (blocks_fault end I rest) none).1) is
  where
    by_key : (b : Bool) → (block_key x == key) ≡ b → block_fault end I x ≡ None → (block_with key rest ≡ Some e → IsFound end I key e) → (if b then Some x else block_with key rest) ≡ Some e → IsFound end I key e
    by_key true same one later h = here end I key x e one same h
    by_key false other one later h = later h

-- ---- under any identifier

pub found_good : (end : ℕ) (I : List ℕ) (entries : List BlockEntry) (key : ℕ) (r : Option BlockEntry) → blocks_fault end I entries ≡ None → r ≡ block_with key entries → IfSome r (GoodBlock I end)
found_good end I entries key None none is = tt
found_good end I entries key (Some e) none is = (block_law I end e).1 (found end I entries key e none (sym is)).0

within : (end : ℕ) (I : List ℕ) (e : BlockEntry) → end ≤ length I → GoodBlock I end e → IsWithin I e
within end I e inside g = omega (arith, g.place.inside, size_large e.cb)

pub found_within : (end : ℕ) (I : List ℕ) (r : Option BlockEntry) → end ≤ length I → IfSome r (GoodBlock I end) → IfSome r (IsWithin I)
found_within end I None inside g = tt
found_within end I (Some e) inside g = within end I e inside g

pub found_same : (t : Table) (end bid : ℕ) (r : Option BlockEntry) → blocks_fault end t.image t.entries ≡ None → r ≡ entry_of t bid → IfSome r (λ e. entry_of t e.bid ≡ Some e)
unfolding entry_of
found_same t end bid None none is = tt
found_same t end bid (Some e) none is =
    let has = found end t.image t.entries (bid_key bid) e none (sym is) in
    rw has.1 (sym is)

pub entry_is : (t : Table) (bid : ℕ) (r : Option BlockEntry) → r ≡ block_with (bid_key bid) t.entries → r ≡ entry_of t bid
unfolding entry_of
entry_is t bid r is = is

pub all_within : (t : Table) (end : ℕ) → end ≤ length t.image → blocks_fault end t.image t.entries ≡ None → AreWithin t
unfolding entry_of
all_within t end inside none bid e is = within end t.image e inside ((block_law t.image end e).1 (found end t.image t.entries (bid_key bid) e none is).0)
