-- The grammar of an entry, and its first fault, say the same.
use Rattle.std.proofs.Common.{◌≡◌, ℕ, ◌+◌, ◌*◌, ◌/◌, ◌%◌, ◌<◌, Bool, true, false, cond, List, length, None, refl, ◌↔◌, arith}
use Rattle.std.specs.Prelude.{nat_le, nat_lt, ◌&&◌}
use Rattle.std.proofs.lemmas.Bool.{le-leb, leb-true, lt-ltb, ltb-true}
use Rattle.std.proofs.Math.Nat.{mul-mod_right, div-add-mod}
use Rattle.pst_bytes.specs.Image.{num}
use Rattle.pst_fault.specs.declared.kind.Kind.TheVariants.{Property as BadProperty}
use Rattle.pst_fault.specs.Fault.{fault_at}
use Rattle.pst_fault.proofs.FirstLemmas.{holds_or_none, holds_or_true}
use Rattle.pst_names.specs.Entry.{NameEntry, is_text, guid_index}
use Rattle.pst_names.specs.Fault.{has_text, is_entry, name_entry_fault}
use Rattle.pst_names.specs.Grammar.{HasText, IsEntry}

-- so many parts of a width, where nothing is left over
pub whole_law : (width n : ℕ) → 0 < width → ((m : ℕ) × (n ≡ width * m)) ↔ (n % width ≡ 0)
whole_law width n some = (
  (λ w. rw w.1 (mul-mod_right width w.0)),
  (λ e. let all : width * (n / width) + n % width ≡ n = div-add-mod n width in (n / width, omega (arith, all, e))),
)

and_both : (a b : Bool) → (a && b) ≡ true → (a ≡ true) × (b ≡ true)
and_both true b e = (refl, e)
and_both false b e = absurd cc

text_law : (strings : List ℕ) (at : ℕ) → HasText strings at ↔ (has_text strings at ≡ true)
unfolding has_text
text_law strings at = (
  (λ w. rw (le-leb _ _ w.0, le-leb _ _ w.1) refl),
  (λ e.
      let both = and_both (nat_le (at + 4) (length strings)) (nat_le (at + 4 + num strings at 4) (length strings)) e in
      (leb-true _ _ both.0, leb-true _ _ both.1)),
)

-- a condition that is asked only of some
if_law : (asked here : Bool) (Is : Type 0) → Is ↔ (here ≡ true) → (asked ≡ true → Is) ↔ (cond asked here true ≡ true)
if_law true here Is law = ((λ f. law.0 (f refl)), (λ e t. law.1 e))
if_law false here Is law = ((λ f. refl), (λ e t. absurd cc))

pub entry_law : (guids : ℕ) (strings : List ℕ) (e : NameEntry) → IsEntry guids strings e ↔ (name_entry_fault guids strings e ≡ None)
unfolding name_entry_fault is_entry
entry_law guids strings e =
    let there = nat_lt (guid_index e) (3 + guids) in
    let text = cond (is_text e) (has_text strings e.id) true in
    let law = if_law (is_text e) (has_text strings e.id) (HasText strings e.id) (text_law strings e.id) in (
      (λ is. holds_or_true (there && text) (fault_at BadProperty e.at) (rw (lt-ltb _ _ is.set, law.0 is.text) refl)),
      (λ none.
          let both = and_both there text (holds_or_none (there && text) (fault_at BadProperty e.at) none) in
          record { set = ltb-true _ _ both.0; text = law.1 both.1 }),
    )
