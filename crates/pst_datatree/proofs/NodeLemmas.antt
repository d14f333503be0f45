-- What holds of each fault that a data tree can have: it is told of no node, and is not that memory ran out.
use Rattle.std.proofs.Common.{◌≡◌, ℕ, zero, suc, Bool, true, false, Option, Some, None, refl, inl, inr}
use Rattle.std.specs.Prelude.{option_map, if◌then◌else◌, nat_eq}
use Rattle.pst_fault.specs.declared.fault.Fault.{Fault}
use Rattle.pst_fault.specs.Fault.{at_node}
use Rattle.pst_fault.specs.First.{◌then◌, holds_or, first_below, IsFirst}
use Rattle.pst_page.specs.declared.entry.BlockEntry.{BlockEntry}
use Rattle.pst_block.specs.Table.{Table, entry_of, body_of}
use Rattle.pst_datatree.specs.declared.named.Named.{Named}
use Rattle.pst_datatree.specs.declared.named.Named.TheVariants.{Nothing, Missing, Data, Xblock, Xxblock}
use Rattle.pst_datatree.specs.Bid.{is_internal}
use Rattle.pst_datatree.specs.List.{count_in, total_in, bid_in, is_block_list}
use Rattle.pst_datatree.specs.Named.{named_by}
use Rattle.pst_datatree.specs.Data.{size_of, block_missing, bad_tree, told_at, data_leaf_fault, xblock_spans, xblock_fault, child_fault, xxblock_spans, xxblock_fault, named_fault, data_fault}
use Rattle.pst_fault.specs.Each.{there_or}

-- a fact of the faults that a data tree can have
module _ (Is : Option Fault → Type 0) (none : Is None) (missing : (bid : ℕ) → Is (Some (block_missing bid))) (bad : (e : BlockEntry) → Is (Some (bad_tree e))) where
  then_is : (a b : Option Fault) → Is a → Is b → Is (a then b)
  then_is None b h k = k
  then_is (Some f) b h k = h

  holds_is : (b : Bool) (e : BlockEntry) → Is (holds_or b (bad_tree e))
  holds_is true e = none
  holds_is false e = bad e

  below_is : (part : ℕ → Option Fault) (n : ℕ) → ((i : ℕ) → Is (part i)) → Is (first_below part n)
  below_is part zero h = none
  below_is part (suc n) h = then_is (first_below part n) (part n) (below_is part n h) (h n)

  or_is : (bid : ℕ) (part : BlockEntry → Option Fault) (o : Option BlockEntry) → ((e : BlockEntry) → Is (part e)) → Is (there_or (block_missing bid) part o)
  or_is bid part None h = missing bid
  or_is bid part (Some e) h = h e

  if_is : (b : Bool) (x y : Option Fault) → Is x → Is y → Is (if b then x else y)
  if_is true x y h k = h
  if_is false x y h k = k

  leaf_is : (t : Table) (e : BlockEntry) (i : ℕ) → Is (data_leaf_fault t e i)
  unfolding data_leaf_fault
  leaf_is t e i = let bid = bid_in (body_of t e) i in or_is bid (λ _. if is_internal bid then Some (bad_tree e) else None) (entry_of t bid) (λ _. if_is (is_internal bid) (Some (bad_tree e)) None (bad e) none)

  xblock_is : (t : Table) (e : BlockEntry) → Is (xblock_fault t e)
  unfolding xblock_fault
  xblock_is t e =
      let body = body_of t e in
      then_is (holds_or (is_block_list 1 body) (bad_tree e)) _ (holds_is (is_block_list 1 body) e)
      (then_is (first_below (data_leaf_fault t e) (count_in body)) _ (below_is (data_leaf_fault t e) (count_in body) (leaf_is t e)) (holds_is (nat_eq (size_of (xblock_spans t e)) (total_in body)) e))

  child_is : (t : Table) (e : BlockEntry) (i : ℕ) → Is (child_fault t e i)
  unfolding child_fault
  child_is t e i =
      let bid = bid_in (body_of t e) i in
      or_is bid (λ e'. if is_internal bid then xblock_fault t e' else Some (bad_tree e)) (entry_of t bid) (λ e'. if_is (is_internal bid) (xblock_fault t e') (Some (bad_tree e)) (xblock_is t e') (bad e))

  xxblock_is : (t : Table) (e : BlockEntry) → Is (xxblock_fault t e)
  unfolding xxblock_fault
  xxblock_is t e =
      let body = body_of t e in
      then_is (holds_or (is_block_list 2 body) (bad_tree e)) _ (holds_is (is_block_list 2 body) e)
      (then_is (first_below (child_fault t e) (count_in body)) _ (below_is (child_fault t e) (count_in body) (child_is t e)) (holds_is (nat_eq (size_of (xxblock_spans t e)) (total_in body)) e))

  named_is : (t : Table) (bid : ℕ) (n : Named) → Is (named_fault t bid n)
  named_is t bid Nothing = none
  named_is t bid Missing = missing bid
  named_is t bid (Data e) = none
  named_is t bid (Xblock e) = xblock_is t e
  named_is t bid (Xxblock e) = xxblock_is t e

  data_is : (t : Table) (bid : ℕ) → Is (data_fault t bid)
  unfolding data_fault
  data_is t bid = named_is t bid (named_by t bid)

pub data_no_node : (t : Table) (bid : ℕ) → option_map (at_node 0) (data_fault t bid) ≡ data_fault t bid
data_no_node t bid = data_is (λ o. option_map (at_node 0) o ≡ o) refl (λ bid. refl) (λ e. refl) t bid

data_told : (t : Table) (bid nid : ℕ) → option_map (told_at nid) (data_fault t bid) ≡ option_map (at_node nid) (data_fault t bid)
data_told t bid nid = data_is (λ o. option_map (told_at nid) o ≡ option_map (at_node nid) o) refl (λ bid. refl) (λ e. refl) t bid

first_told : (o : Option Fault) (nid : ℕ) (f : Fault) → option_map (told_at nid) o ≡ option_map (at_node nid) o → IsFirst o f → IsFirst (option_map (at_node nid) o) (told_at nid f)
first_told o nid f same (inl memory) = inl (rw memory refl)
first_told o nid f same (inr is) = inr (rw (← same) (rw is refl))

-- the first fault, told of a node
pub data_first_told : (t : Table) (bid nid : ℕ) (f : Fault) → IsFirst (data_fault t bid) f → IsFirst (option_map (at_node nid) (data_fault t bid)) (told_at nid f)
data_first_told t bid nid f h = first_told (data_fault t bid) nid f (data_told t bid nid) h
