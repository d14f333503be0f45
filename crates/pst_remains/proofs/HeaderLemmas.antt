-- What the mended header says of the space of its file lies in the file.
use Rattle.std.proofs.Common.{◌≡◌, ℕ, ◌+◌, ◌-◌, ◌*◌, ◌/◌, ◌%◌, ◌≤◌, ◌<◌, inl, inr, Bool, true, false, cond, ◌&&◌, eqb, leb, List, length, Option, Some, None, refl, arith}
use Rattle.std.specs.Prelude.{min}
use Rattle.std.proofs.lemmas.Bool.{eqb-true, leb-true, le-leb, lt-leb, and_parts, cases_lt}
use Rattle.pst_bytes.specs.Image.{num}
use Rattle.pst_fault.specs.declared.fault.Fault.{Fault}
use Rattle.pst_header.specs.Header.{amap_place, fields, is_amap_place, is_last_amap}
use Rattle.pst_header.specs.Head.{IsLastMap, IsMapped}
use Rattle.pst_remains.specs.Header.{header_damage, is_astray, end_beside, file_end, last_map_of, last_region, mended, has_maps}

-- ---- the last allocation map

room : (b : Bool) (last eof : ℕ) → last + cond b 1024 512 ≤ eof → last + 512 ≤ eof
room true last eof h = omega arith
room false last eof h = h

more_room : (n last eof : ℕ) → last + cond (eqb n 0) 1024 512 ≤ eof → n ≡ 0 → last + 1024 ≤ eof
more_room n last eof h z = rw z at h

pub is_last : (last eof : ℕ) → (is_amap_place last && is_last_amap last eof) ≡ true → IsLastMap last eof
is_last last eof e =
    let both = and_parts (is_amap_place last) (is_last_amap last eof) e in
    let parts = and_parts (leb 17408 last) (eqb ((last - 17408) % 253952) 0) both.0 in
    let above : 17408 ≤ last = leb-true _ _ parts.0 in
    let whole : (last - 17408) % 253952 ≡ 0 = eqb-true _ _ parts.1 in
    let fits = leb-true _ _ both.1 in
    ((last - 17408) / 253952, omega arith, room _ last eof fits, more_room _ last eof fits)

-- the k-th, where it has room
kth_last : (k eof : ℕ) → is_last_amap (amap_place k) eof ≡ true → IsLastMap (amap_place k) eof
kth_last k eof e =
    let index : (17408 + 253952 * k - 17408) / 253952 ≡ k = omega arith in
    let fits : 17408 + 253952 * k + cond (eqb (k % 8) 0) 1024 512 ≤ eof = rw index at (leb-true _ _ e) in
    (k, refl, room _ _ eof fits, more_room _ _ eof fits)

small : (b : Bool) → cond b 1024 512 ≤ 1024
small true = omega arith
small false = omega arith

no_room : (k eof : ℕ) → is_last_amap (amap_place k) eof ≡ false → eof < amap_place k + 1024
no_room k eof e =
    elim (cases_lt eof (amap_place k + 1024)) [
      | inl lt ↦ lt
      | inr le ↦
          let most = small (eqb ((amap_place k - 17408) / 253952 % 8) 0) in
          let is : is_last_amap (amap_place k) eof ≡ true = le-leb _ _ (omega (arith, most, le)) in
          let impossible : true ≡ false = (rw is at e) in absurd cc
    ]

before_it : (k eof : ℕ) → 18432 ≤ eof → k ≡ (eof - 17408 - 512) / 253952 → eof < amap_place k + 1024 → IsLastMap (amap_place (k - 1)) eof
before_it k eof enough is lt = (k - 1, refl, omega arith, λ _. omega arith)

last_region_is : (eof : ℕ) → 18432 ≤ eof → IsLastMap (amap_place (last_region eof)) eof
last_region_is eof enough = chosen (is_last_amap (amap_place k) eof) refl
  where
    k : ℕ
    k = (eof - 17408 - 512) / 253952

    chosen : (b : Bool) → is_last_amap (amap_place k) eof ≡ b → IsLastMap (amap_place (cond b k (k - 1))) eof
    chosen true e = kth_last k eof e
    chosen false e = before_it k eof enough refl (no_room k eof e)

last_map_is : (last eof : ℕ) → 18432 ≤ eof → IsLastMap (last_map_of last eof) eof
last_map_is last eof enough = chosen (is_amap_place last && is_last_amap last eof) refl
  where
    chosen : (b : Bool) → (is_amap_place last && is_last_amap last eof) ≡ b → IsLastMap (cond b last (amap_place (last_region eof))) eof
    chosen true e = is_last last eof e
    chosen false e = last_region_is eof enough

-- ---- the end

chosen_end : (b : Bool) (I : List ℕ) → cond b (length I) (min (num I 184 8) (length I)) ≤ length I
chosen_end true I = omega arith
chosen_end false I = omega arith

end_inside : (I : List ℕ) (d : Option Fault) → end_beside I d ≤ length I
end_inside I None = omega arith
end_inside I (Some f) = chosen_end (is_astray f.kind) I

pub mended_mapped : (I : List ℕ) → has_maps I ≡ true → IsMapped I (mended I)
unfolding mended file_end
mended_mapped I maps = record {
  eof_inside = end_inside I (header_damage I);
  last_map = last_map_is (fields I).last_amap (file_end I) (leb-true _ _ maps);
}

-- there is room for a map exactly where the mended header says so
pub maps_there : (I : List ℕ) → 18432 ≤ (mended I).eof → has_maps I ≡ true
unfolding mended
maps_there I le = le-leb _ _ le

pub maps_lack : (I : List ℕ) → (mended I).eof < 18432 → has_maps I ≡ false
unfolding mended
maps_lack I lt = lt-leb _ _ lt
