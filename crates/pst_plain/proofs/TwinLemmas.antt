-- The twin, from what the calls leave.
use Rattle.std.proofs.Common.{◌≡◌, ℕ, ◌≤◌, ◌<◌, List, length, Some, None, true, false, refl, ap, ◌∙◌, arith}
use Rattle.std.specs.List.{All, filter}
use Rattle.std.specs.Prelude.{cond}
use Rattle.std.proofs.lemmas.Bool.{leb-true, and_parts}
use Rattle.pst_bytes.specs.Image.{num}
use Rattle.pst_encoding.specs.declared.method.Method.{Method}
use Rattle.pst_encoding.specs.declared.method.Method.TheVariants.{Permute, Cyclic}
use Rattle.pst_encoding.specs.Method.{method_number, method_with}
use Rattle.pst_encoding.specs.Tables.{IsByte}
use Rattle.pst_page.specs.declared.entry.BlockEntry.{BlockEntry}
use Rattle.pst_plain.specs.Blocks.{has_data, data_blocks}
use Rattle.pst_plain.specs.Twin.{is_unicode, method_of, with_method, all_decoded, data_decoded, decoded_blocks, decoded_file, twin_of}
use Rattle.pst_plain.proofs.HeadLemmas.{method_again}
use Rattle.pst_plain.proofs.StepLemmas.{all_data}

pub twin_same : (I : List ℕ) → method_of I ≡ None → I ≡ twin_of I
unfolding twin_of
twin_same I none = rw none refl

pub twin_is : (I : List ℕ) (method : Method) → method_of I ≡ Some method → twin_of I ≡ decoded_file method (with_method 0 I)
unfolding twin_of
twin_is I method is = rw is refl

-- the data blocks among those that are decoded are all of them
data_made : (J : List ℕ) (entries : List BlockEntry) → entries ≡ data_blocks J → filter has_data entries ≡ data_blocks J
data_made J entries blocks = ap (filter has_data) blocks ∙ all_data J

pub twin_made : (I J K : List ℕ) (method : Method) (entries : List BlockEntry) → method_of I ≡ Some method → J ≡ with_method 0 I → entries ≡ data_blocks J
    → K ≡ data_decoded method entries J → K ≡ twin_of I
unfolding twin_of
twin_made I J K method entries is head blocks made =
    rw is (made ∙ ap (λ l. all_decoded method l J) (data_made J entries blocks) ∙ ap (λ X. all_decoded method (data_blocks X) X) head)

pub blocks_made : (I J : List ℕ) (method : Method) (entries : List BlockEntry) → method_of I ≡ Some method → J ≡ with_method 0 I → entries ≡ data_blocks J
    → filter has_data entries ≡ decoded_blocks (method_of I) I
blocks_made I J method entries is head blocks = rw is (data_made J entries blocks ∙ ap data_blocks head)

-- the number of a file's method stands in its header
number_with : (number : ℕ) (method : Method) → method_with number ≡ Some method → number ≡ method_number method
number_with number Permute is = grind arith
number_with number Cyclic is = grind arith

pub number_in : (I : List ℕ) (method : Method) → method_of I ≡ Some method → num I 513 1 ≡ method_number method
unfolding method_of
number_in I method is =
    elim (is_unicode I) as (λ b. cond b (method_with (num I 513 1)) None ≡ Some method → num I 513 1 ≡ method_number method) [
      | true ↦ λ h. number_with (num I 513 1) method h
      | false ↦ λ h. absurd cc
    ] is

pub number_byte : (method : Method) → method_number method < 256
number_byte Permute = omega arith
number_byte Cyclic = omega arith

pub method_restored : (I J K : List ℕ) (method : Method) (number : ℕ) → 564 ≤ length I → All IsByte I → method_of I ≡ Some method → J ≡ with_method 0 I → number ≡ method_number method
    → K ≡ with_method number J → K ≡ I
method_restored I J K method number long all is head value made =
    let stands = number_in I method is in
    let fits = number_byte method in
    rw (made, head, value) (method_again I (method_number method) 0 long all fits (omega arith) stands)

pub method_long : (I : List ℕ) (method : Method) → method_of I ≡ Some method → 564 ≤ length I
unfolding method_of is_unicode
method_long I method is =
    elim (is_unicode I) as (λ b. is_unicode I ≡ b → cond b (method_with (num I 513 1)) None ≡ Some method → 564 ≤ length I) [
      | true ↦ λ h _.
          let a = and_parts _ _ h in
          let b = and_parts _ _ a.0 in
          let c = and_parts _ _ b.0 in
          leb-true _ _ c.0
      | false ↦ λ h no. absurd cc
    ] refl is
