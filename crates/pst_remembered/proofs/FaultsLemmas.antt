-- What is remembered of faults is true.
use Rattle.std.proofs.Common.{◌≡◌, ℕ, true, false, cond, Bool, Option, Some, None, Result, Ok, Err, inl, inr, refl, sym, ap, ◌∙◌}
use Rattle.std.specs.Prelude.{option_map}
use Rattle.std.specs.BTreeMap.{get, btree_map_len, IsEmpty, IsUnchanged}
use Rattle.std.specs.Ordering.{eq_by_cmp}
use Rattle.std.proofs.lemmas.List.{nil_from_length}
use Rattle.std.proofs.lemmas.Map.Views.{tells_apart}
use Rattle.pst_fault.specs.declared.fault.Fault.{Fault}
use Rattle.pst_fault.specs.Fault.{at_node}
use Rattle.pst_fault.specs.First.{Tells, IsFirst}
use Rattle.pst_block.specs.Table.{Table}
use Rattle.pst_ndb.specs.Roots.{Roots}
use Rattle.pst_pc.specs.pst_heap.Fault.{told_under}
use Rattle.pst_pc.specs.Fault.{untold_pc_fault, pc_fault}
use Rattle.pst_pc.proofs.AlikeLaws.{alike_pc_law}
use Rattle.pst_tc.specs.Fault.{untold_tc_fault, tc_fault}
use Rattle.pst_tc.proofs.AlikeLaws.{alike_tc_law}
use Rattle.pst_remembered.specs.declared.faults.Faults.{Faults}
use Rattle.pst_remembered.specs.declared.role.Role.{Role}
use Rattle.pst_remembered.specs.declared.role.Role.TheVariants.{Properties, Listed, Recipients, Attachments}
use Rattle.pst_remembered.specs.Broken.{roots_at, context_part}
use Rattle.pst_remembered.specs.Faults.{Parts, Retelling, IsFaultOf, fault_kept, AreFaultsOf, IsTold}
use Rattle.pst_remembered.specs.Keys.{Key, key_cmp}
use Rattle.pst_remembered.specs.Roles.{role_number, role_with, role_fault}
use Rattle.pst_remembered.proofs.KeyOrderLemmas.{keys_exact}
use Rattle.pst_remembered.proofs.RoleLemmas.{role_back}

-- ---- none, one more, and as before

pub none_kept : (retell : Retelling) (parts : Parts) (faults : Faults) → IsEmpty faults.faults → AreFaultsOf retell parts faults
unfolding AreFaultsOf fault_kept
none_kept retell parts faults none q f is = let bad : None ≡ Some f = (rw none at is) in cc

-- where none is remembered, of no part one is
pub empty_kept : (faults : Faults) (q : Key) → btree_map_len faults.faults ≡ 0 → None ≡ fault_kept faults q
unfolding fault_kept
empty_kept faults q none = let empty : IsEmpty faults.faults = nil_from_length faults.faults.entries none in rw empty refl

pub one_kept : (retell : Retelling) (parts : Parts) (old new : Faults) (q : Key) (f : Fault)
    → ((p : Key) → get key_cmp new.faults p ≡ cond (eq_by_cmp key_cmp q p) (Some f) (get key_cmp old.faults p))
    → IsFaultOf retell parts q f → AreFaultsOf retell parts old → AreFaultsOf retell parts new
unfolding AreFaultsOf fault_kept
one_kept retell parts old new q f put is are = λ p g found. by_test p g (eq_by_cmp key_cmp q p) refl (sym (put p) ∙ found)
  where
    by_test : (p : Key) (g : Fault) (v : Bool) → eq_by_cmp key_cmp q p ≡ v → cond v (Some f) (get key_cmp old.faults p) ≡ Some g → IsFaultOf retell parts p g
    by_test p g true here found =
        let same : f ≡ g = cc in
        let key : q ≡ p = tells_apart keys_exact q p here in
        rw (← same, ← key) is
    by_test p g false here found = are p g found

pub same_kept : (retell : Retelling) (parts : Parts) (old new : Faults) → IsUnchanged old.faults new.faults → AreFaultsOf retell parts old → AreFaultsOf retell parts new
unfolding AreFaultsOf fault_kept
same_kept retell parts old new same are = λ q f found. are q f (rw same at found)

-- one that is remembered
pub told_kept : (retell : Retelling) (parts : Parts) (faults : Faults) (q : Key) (f : Fault) (nid : ℕ) → AreFaultsOf retell parts faults → Some f ≡ fault_kept faults q → parts q nid ≡ Some (retell nid f)
unfolding AreFaultsOf
told_kept retell parts faults q f nid are is = are q f (sym is) nid

-- the fault that a check answers, where memory was not refused
pub told_some : (answer : Result (Unit {0}) Fault) (first : Option Fault) (f : Fault) → Tells answer first tt → answer ≡ Err f → IsTold f → first ≡ Some f
told_some (Ok x) first f tells e told = absurd cc
told_some (Err g) first f tells e told = by (let same : g ≡ f = cc in same) tells
  where
    by : g ≡ f → IsFirst first g → first ≡ Some f
    by same (inl memory) = absurd (told (ap (λ (h : Fault). h.kind) (sym same ∙ memory)))
    by same (inr is) = is ∙ ap Some same

-- ---- contexts, told of another node

pub properties_retold : (t : Table) (q : Key) (nid : ℕ) (f : Fault) → pc_fault t (roots_at q nid) ≡ Some f → (other : ℕ) → pc_fault t (roots_at q other) ≡ Some (at_node other f)
unfolding pc_fault
properties_retold t q nid f is other = by (untold_pc_fault t (roots_at q nid)) is (untold_pc_fault t (roots_at q other)) ((alike_pc_law t (roots_at q nid) (roots_at q other) (refl, refl)).1)
  where
    by : (o : Option Fault) → option_map (told_under (roots_at q nid)) o ≡ Some f → (p : Option Fault) → o ≡ p → option_map (told_under (roots_at q other)) p ≡ Some (at_node other f)
    by None e p same = absurd cc
    by (Some u) e p same = let told : told_under (roots_at q nid) u ≡ f = cc in rw (← same, ← told) refl

pub table_retold : (t : Table) (q : Key) (nid : ℕ) (f : Fault) → tc_fault t (roots_at q nid) ≡ Some f → (other : ℕ) → tc_fault t (roots_at q other) ≡ Some (at_node other f)
unfolding tc_fault
table_retold t q nid f is other = by (untold_tc_fault t (roots_at q nid)) is (untold_tc_fault t (roots_at q other)) ((alike_tc_law t (roots_at q nid) (roots_at q other) (refl, refl)).3)
  where
    by : (o : Option Fault) → option_map (told_under (roots_at q nid)) o ≡ Some f → (p : Option Fault) → o ≡ p → option_map (told_under (roots_at q other)) p ≡ Some (at_node other f)
    by None e p same = absurd cc
    by (Some u) e p same = let told : told_under (roots_at q nid) u ≡ f = cc in rw (← same, ← told) refl

role_retold : (t : Table) (role : Role) (q : Key) (nid : ℕ) (f : Fault) → role_fault t role (roots_at q nid) ≡ Some f → (other : ℕ) → role_fault t role (roots_at q other) ≡ Some (at_node other f)
role_retold t Properties q nid f is = properties_retold t q nid f is
role_retold t (Listed items) q nid f is = table_retold t q nid f is
role_retold t Recipients q nid f is = table_retold t q nid f is
role_retold t Attachments q nid f is = table_retold t q nid f is

-- a context, as the part with the number of its role
pub role_again : (t : Table) (role : Role) (q : Key) (nid : ℕ) → q.1 ≡ role_number role → context_part t q nid ≡ role_fault t role (roots_at q nid)
role_again t role q nid number = ap (λ (x : Role). role_fault t x (roots_at q nid)) (ap role_with number ∙ role_back role)

pub context_keep : (t : Table) (role : Role) (q : Key) (r : Roots) (answer : Result (Unit {0}) Fault) → roots_at q r.top ≡ r → q.1 ≡ role_number role → Tells answer (role_fault t role r) tt → (f : Fault) → answer ≡ Err f → IsTold f → IsFaultOf at_node (context_part t) q f
context_keep t role q r answer same number tells f e told other =
    role_again t role q other number ∙ role_retold t role q r.top f (ap (role_fault t role) same ∙ told_some answer (role_fault t role r) f tells e told) other

pub context_told : (t : Table) (role : Role) (faults : Faults) (q : Key) (r : Roots) (nid : ℕ) (f g : Fault) → AreFaultsOf at_node (context_part t) faults → roots_at q r.top ≡ r → q.1 ≡ role_number role → Some f ≡ fault_kept faults q
    → nid ≡ r.top → g ≡ at_node nid f → role_fault t role r ≡ Some g
context_told t role faults q r nid f g are same number is top told =
    ap (role_fault t role) (sym same) ∙ sym (role_again t role q r.top number) ∙ told_kept at_node (context_part t) faults q f r.top are is ∙ ap Some (ap (λ (n : ℕ). at_node n f) (sym top) ∙ sym told)
