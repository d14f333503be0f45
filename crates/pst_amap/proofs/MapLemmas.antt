-- The allocation maps that a header says of its file lie in it, and so does the byte of each unit.
use Rattle.std.proofs.Common.{◌≡◌, ℕ, ◌+◌, ◌-◌, ◌*◌, ◌/◌, ◌<◌, ◌≤◌, List, length, arith}
use Rattle.pst_header.specs.declared.header.Header.{Header}
use Rattle.pst_header.specs.Header.{amap_place, amap_count_of}
use Rattle.pst_header.specs.Head.{IsMapped}
use Rattle.pst_space.specs.Claimed.{unit_total}
use Rattle.pst_amap.specs.Marks.{mark_place}

pub map_inside : (I : List ℕ) (h : Header) (n : ℕ) → IsMapped I h → n < amap_count_of h → amap_place n + 512 ≤ length I
map_inside I h n g lt =
    let k = g.last_map.0 in
    let is : h.last_amap ≡ 17408 + 253952 * k = g.last_map.1 in
    let count : (h.last_amap - 17408) / 253952 ≡ k = omega arith in
    let le : n ≤ k = omega arith in
    omega (arith, g.last_map.2, g.eof_inside)

pub mark_inside : (I : List ℕ) (h : Header) (unit : ℕ) → IsMapped I h → unit < unit_total h → mark_place unit + 1 ≤ length I
mark_inside I h unit g lt =
    let k = g.last_map.0 in
    let is : h.last_amap ≡ 17408 + 253952 * k = g.last_map.1 in
    let region : unit / 3968 ≤ k = omega arith in
    omega (arith, g.last_map.2, g.eof_inside)
