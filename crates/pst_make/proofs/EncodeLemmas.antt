-- What encoding leaves, as the definitions say it.
use Rattle.std.proofs.Common.{◌≡◌, ℕ, ◌+◌, ◌-◌, ◌<◌, ◌≤◌, inl, inr, List, [], ◌∷◌, ◌++◌, length, map, take, drop, get_or, refl, sym, ap, subst, ◌∙◌, arith}
use Rattle.std.specs.List.{filter}
use Rattle.std.proofs.lemmas.List.{length-map, length-take-le, length-drop, take_at, drop_more, drop_all, get_or-map}
use Rattle.std.proofs.lemmas.List.Elements.{filter-append}
use Rattle.byteorder.specs.Endian.{little_number}
use Rattle.pst_bytes.specs.Image.{num, bytes_at}
use Rattle.pst_bytes.specs.declared.span.Span.{Span}
use Rattle.pst_encoding.specs.declared.method.Method.{Method}
use Rattle.pst_encoding.specs.declared.method.Method.TheVariants.{Permute, Cyclic}
use Rattle.pst_encoding.specs.Tables.{r_of}
use Rattle.pst_encoding.specs.Cyclic.{cyclic_key}
use Rattle.pst_encoding.specs.Method.{method_number, encoded}
use Rattle.pst_encoding.proofs.CyclicLemmas.{length-cycled}
use Rattle.pst_make.specs.declared.layout.BlockPlace.{BlockPlace}
use Rattle.pst_make.specs.declared.layout.PlacedBlock.{PlacedBlock}
use Rattle.pst_make.specs.Elsewhere.{overwritten, SameElsewhere, one_field}
use Rattle.pst_make.specs.Encoded.{AreEncoded, IsEncodedBlock, IsEncodedHeader, place_of_body, holds_data}
use Rattle.pst_make.specs.Layout.{place_of_block}
use Rattle.pst_make.specs.Sealed.{SealedBlock, SealedHeader, block_checks, header_checks, sealed_size}
use Rattle.pst_make.proofs.WriteLemmas.{from_place, length_written, bytes_written}

pub length_encoded : (method : Method) (bid : ℕ) (body : List ℕ) → length (encoded method bid body) ≡ length body
unfolding encoded
length_encoded Permute bid body = length-map body r_of
length_encoded Cyclic bid body = length-cycled (cyclic_key bid) body

-- ---- what is left elsewhere

same_then : (I J K : List ℕ) (one : Span) (fields : List Span) → SameElsewhere I J (one ∷ []) → SameElsewhere J K fields → SameElsewhere I K (one ∷ fields)
same_then I J K one fields first second = record {
  length_same = second.length_same ∙ first.length_same;
  others = λ s apart. second.others s apart.1 ∙ first.others s (apart.0, tt);
}

written_elsewhere : (I : List ℕ) (at len : ℕ) (bytes : List ℕ) → length bytes ≡ len → at + len ≤ length I → SameElsewhere I (overwritten I at bytes) (one_field at len)
written_elsewhere I at len bytes size inside = record {
  length_same = length_written I at bytes (rw size inside);
  others = λ s apart. bytes_written I at bytes s (rw size inside) (rw size apart.0);
}

written_here : (I : List ℕ) (at len : ℕ) (bytes : List ℕ) → length bytes ≡ len → at + len ≤ length I → bytes_at (overwritten I at bytes) (record { at = at; len = len }) ≡ bytes
written_here I at len bytes size inside =
    ap (take len) (from_place I at bytes (omega (arith, inside))) ∙ take_at bytes (drop (at + length bytes) I) len size

-- ---- a block

pub block_encoded : (I J K : List ℕ) (method : Method) (block : BlockPlace) → block.ib + sealed_size block.cb ≤ length I → J ≡ overwritten I block.ib (encoded method block.bid (bytes_at I (place_of_body block)))
    → SealedBlock K block.ib block.cb → SameElsewhere J K (block_checks block.ib block.cb) → IsEncodedBlock method block I K
block_encoded I J K method block inside put sealed same =
    let ib = block.ib in
    let cb = block.cb in
    let size = sealed_size cb in
    let large : ib + cb ≤ ib + (size - 16) = omega arith in
    let room : ib + cb ≤ length I = omega (arith, large, inside) in
    let body = bytes_at I (place_of_body block) in
    let left = length-drop ib I in
    let short : length body ≡ cb = length-take-le cb (drop ib I) (omega (arith, left, room)) in
    let long : length (encoded method block.bid body) ≡ cb = length_encoded method block.bid body ∙ short in
    let first : SameElsewhere I J (place_of_body block ∷ []) =
    subst (λ (L : List ℕ). SameElsewhere I L (place_of_body block ∷ [])) (sym put) (written_elsewhere I ib cb (encoded method block.bid body) long room) in
    record {
      body = same.others (place_of_body block) (inl (omega (arith, large)), tt) ∙ ap (λ L. bytes_at L (place_of_body block)) put ∙ written_here I ib cb (encoded method block.bid body) long room;
      sealed = sealed;
      others = same_then I J K (place_of_body block) (block_checks ib cb) first same;
    }

-- ---- the header

pub header_encoded : (I J K : List ℕ) (method : Method) (number : ℕ) → number ≡ method_number method → num J 513 1 ≡ number → SameElsewhere I J (one_field 513 1)
    → SealedHeader K → SameElsewhere J K header_checks → IsEncodedHeader method I K
unfolding num
header_encoded I J K method number is value first sealed second = record {
  method_is = ap (little_number 1) (second.others (record { at = 513; len = 1 }) (inr (omega arith), (inl (omega arith), tt))) ∙ value ∙ is;
  sealed = sealed;
  others = same_then I J K (record { at = 513; len = 1 }) header_checks first second;
}

-- ---- block by block

pub encoded_same : (method : Method) (blocks : List BlockPlace) (I J : List ℕ) → AreEncoded method blocks I J → length J ≡ length I
unfolding AreEncoded
encoded_same method [] I J same = ap length same
encoded_same method (first ∷ rest) I J (between, here, later) = encoded_same method rest between J later ∙ here.others.length_same

encoded_append : (method : Method) (first second : List BlockPlace) (I J K : List ℕ) → AreEncoded method first I J → AreEncoded method second J K → AreEncoded method (first ++ second) I K
unfolding AreEncoded
encoded_append method [] second I J K same later = subst (λ (L : List ℕ). AreEncoded method second L K) same later
encoded_append method (block ∷ first) second I J K (between, here, rest) later = (between, here, encoded_append method first second between J K rest later)

-- the data blocks from one on: that one, if it is one, and those behind it
pub data_next : (method : Method) (blocks : List PlacedBlock) (i : ℕ) (d : PlacedBlock) (block : BlockPlace) (I J K : List ℕ) → i < length blocks → block ≡ place_of_block (get_or blocks i d)
    → AreEncoded method (filter holds_data (block ∷ [])) I J → AreEncoded method (filter holds_data (drop (i + 1) (map place_of_block blocks))) J K
    → AreEncoded method (filter holds_data (drop i (map place_of_block blocks))) I K
data_next method blocks i d block I J K lt is here later =
    let places = map place_of_block blocks in
    let long : i < length places = rw (length-map blocks place_of_block) lt in
    let at_i : get_or places i block ≡ block = get_or-map place_of_block blocks i d block lt ∙ sym is in
    let split : drop i places ≡ (block ∷ []) ++ drop (i + 1) places = drop_more places i block long ∙ ap (λ (b : BlockPlace). b ∷ drop (i + 1) places) at_i in
    let kept : filter holds_data (drop i places) ≡ filter holds_data (block ∷ []) ++ filter holds_data (drop (i + 1) places) =
    ap (filter holds_data) split ∙ filter-append holds_data (block ∷ []) (drop (i + 1) places) in
    subst (λ l. AreEncoded method l I K) (sym kept) (encoded_append method (filter holds_data (block ∷ [])) (filter holds_data (drop (i + 1) places)) I J K here later)

pub data_done : (method : Method) (blocks : List PlacedBlock) (i : ℕ) (I : List ℕ) → length blocks ≤ i → AreEncoded method (filter holds_data (drop i (map place_of_block blocks))) I I
unfolding AreEncoded
data_done method blocks i I past =
    let none : drop i (map place_of_block blocks) ≡ [] = drop_all i (map place_of_block blocks) (rw (length-map blocks place_of_block) past) in
    subst (λ (l : List BlockPlace). AreEncoded method (filter holds_data l) I I) (sym none) refl
