-- Subnodes by their identifiers, and how deep they nest.
use Rattle.std.proofs.Common.{◌≡◌, ℕ, suc, ◌-◌, ◌<◌, ◌≤◌, Option, Some, None, refl, sym, arith}
use Rattle.std.specs.Prelude.{option_map}
use Rattle.pst_block.specs.Table.{Table}
use Rattle.pst_btree.specs.Entries.{first_with}
use Rattle.pst_subnode.specs.declared.sub.Sub.{Sub}
use Rattle.pst_subnode.specs.List.{sub_nid, subs_of}
use Rattle.pst_subnode.specs.Tree.{sub_fault}
use Rattle.pst_subnode.proofs.HeightLaws.{below_law}
use Rattle.pst_ndb.specs.declared.node.Node.{Node}
use Rattle.pst_ndb.specs.Roots.{Roots, sub_roots, subnode_of}
use Rattle.pst_ndb.specs.Views.{sub_bid_of, roots_of}

-- where a subnode is found, a list may nest, and below it one fewer
pub record Below (t : Table) (limit : ℕ) (s : Roots) : Type 0 where
  pub some : 0 < limit
  pub sound : sub_fault t (limit - 1) s.bid_sub ≡ None

mapped_below : (t : Table) (limit nid : ℕ) (r s : Roots) (found : Option Sub) → sub_fault t limit r.bid_sub ≡ None → first_with sub_nid nid (subs_of t r.bid_sub) ≡ found → option_map (sub_roots r) found ≡ Some s → Below t limit s
mapped_below t limit nid r s None h is e = cc
mapped_below t limit nid r s (Some x) h is e =
    let same : sub_roots r x ≡ s = cc in
    let below = below_law t limit r.bid_sub nid x h is in
    rw (← same) (record { some = below.0; sound = below.1 })

pub subnode_below : (t : Table) (limit nid : ℕ) (r s : Roots) → sub_fault t limit r.bid_sub ≡ None → subnode_of t r nid ≡ Some s → Below t limit s
unfolding subnode_of
subnode_below t limit nid r s h e = mapped_below t limit nid r s (first_with sub_nid nid (subs_of t r.bid_sub)) h refl e

-- there is no subnode where no list may nest
pub no_subnode : {P : Type 0} (t : Table) (nid : ℕ) (r s : Roots) → sub_fault t 0 r.bid_sub ≡ None → subnode_of t r nid ≡ Some s → P
no_subnode t nid r s h e = absurd (omega (arith, (subnode_below t 0 nid r s h e).some))

-- a subnode of what may nest one list more
pub subnode_suc : (t : Table) (n nid : ℕ) (r s : Roots) → sub_fault t (suc n) r.bid_sub ≡ None → subnode_of t r nid ≡ Some s → sub_fault t n s.bid_sub ≡ None
subnode_suc t n nid r s h e = let less : suc n - 1 ≡ n = omega arith in rw less at (subnode_below t (suc n) nid r s h e).sound

-- ---- as the code finds it

-- a list may begin there
pub found_limit : (t : Table) (limit nid : ℕ) (r : Roots) (s : Node) → sub_fault t limit r.bid_sub ≡ None → Some (roots_of s) ≡ subnode_of t r nid → 1 ≤ limit
found_limit t limit nid r s h is = omega (arith, (subnode_below t limit nid r (roots_of s) h (sym is)).some)

-- and it has no fault, where one fewer may nest
pub found_sound : (t u : Table) (limit nid : ℕ) (r : Roots) (s : Node) → u ≡ t → sub_fault t limit r.bid_sub ≡ None → Some (roots_of s) ≡ subnode_of t r nid → sub_fault u (limit - 1) (sub_bid_of s) ≡ None
found_sound t u limit nid r s same h is = rw same (subnode_below t limit nid r (roots_of s) h (sym is)).sound
