-- The indexes of lists that are kept.
use Rattle.std.proofs.Common.{◌≡◌, ℕ, ◌-◌, ◌*◌, ◌≤◌, List, [], ◌∷◌, ◌++◌, length, get_or, Option, Some, sym, ap, ◌∙◌, inl, inr, arith, length-append}
use Rattle.std.specs.List.{AllPairs, slice_get}
use Rattle.std.specs.Option.{option_to_list}
use Rattle.std.proofs.lemmas.Bool.{cases_lt}
use Rattle.std.proofs.lemmas.List.{get_or_append_left}
use Rattle.std.proofs.lemmas.List.Elements.{All-push, All-pop, All-get_or}
use Rattle.std.proofs.lemmas.List.Quantifiers.{all_pairs_push}
use Rattle.std.proofs.lemmas.Option.{get_or_from_slice_get}
use Rattle.pst_block.specs.Table.{Table}
use Rattle.pst_msg.specs.declared.indexes.HeldIndex.{HeldIndex}
use Rattle.pst_msg.specs.declared.indexes.Indexes.{Indexes}
use Rattle.pst_remembered.specs.ListIndex.{IsIndexIn}
use Rattle.pst_msg.specs.Indexes.{HasTwice, IsTwice, AreIndexes, HasRoom}

pairs_before : (xs ys zs : List HeldIndex) → xs ≡ ys ++ zs → AllPairs IsTwice xs → AllPairs IsTwice ys
pairs_before xs ys zs is pairs = λ j k d less within.
    let one : get_or (ys ++ zs) j d ≡ get_or ys j d = get_or_append_left ys zs d j (omega (arith, less, within)) in
    let two : get_or (ys ++ zs) k d ≡ get_or ys k d = get_or_append_left ys zs d k within in
    let whole : AllPairs IsTwice (ys ++ zs) = rw is at pairs in
    let both : IsTwice (get_or (ys ++ zs) j d) (get_or (ys ++ zs) k d) = whole j k d less (omega (arith, within, length-append ys zs)) in
    rw (one, two) at both

-- the last one is given up, if there is one
pub last_given_up : (t : Table) (i j : Indexes) (last : Option HeldIndex) → i.held.items ≡ j.held.items ++ option_to_list last → AreIndexes t i → AreIndexes t j
last_given_up t i j last is were = record {
  each = (All-pop (λ (x : HeldIndex). IsIndexIn t x.index) i.held.items j.held.items last is were.each).0;
  halving = pairs_before i.held.items j.held.items (option_to_list last) is were.halving;
}

-- where the last one leaves room, all do
pub room_before : (t : Table) (i : Indexes) (xs : List HeldIndex) (h : HeldIndex) (entries : ℕ) → AreIndexes t i → xs ≡ i.held.items → Some h ≡ slice_get xs (length xs - 1) → 2 * entries ≤ h.entries → HasRoom entries i
room_before t i xs h entries were same last room = λ k d within.
    let items : List HeldIndex = i.held.items in
    let there : Some h ≡ slice_get items (length items - 1) = rw same at last in
    let here : get_or items (length items - 1) d ≡ h = get_or_from_slice_get items (length items - 1) h d (sym there) in
    elim (cases_lt k (length items - 1)) [
      | inl before ↦
          let both : 2 * (get_or items (length items - 1) d).entries ≤ (get_or items k d).entries = were.halving k (length items - 1) d before (omega (arith, within)) in
          let less : 2 * h.entries ≤ (get_or items k d).entries = rw here at both in
          omega (arith, less, room)
      | inr behind ↦
          let one : k ≡ length items - 1 = omega (arith, behind, within) in
          let is : get_or items k d ≡ h = ap (λ n. get_or items n d) one ∙ here in
          rw is room
    ]

-- one more
pub one_held : (t : Table) (i j : Indexes) (h : HeldIndex) → AreIndexes t i → HasRoom h.entries i → IsIndexIn t h.index → j.held.items ≡ i.held.items ++ (h ∷ []) → AreIndexes t j
one_held t i j h were room index is = record {
  each = rw is (All-push (λ (x : HeldIndex). IsIndexIn t x.index) i.held.items h were.each index);
  halving = rw is (all_pairs_push IsTwice i.held.items h were.halving (λ k d within. All-get_or (HasTwice h.entries) i.held.items k d within room));
}

-- the same ones
pub same_held : (t : Table) (i j : Indexes) → AreIndexes t i → j.held.items ≡ i.held.items → AreIndexes t j
same_held t i j were is = record { each = rw is were.each; halving = rw is were.halving }
