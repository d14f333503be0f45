-- Blocks that are judged one after another.
use Rattle.std.proofs.Common.{◌≡◌, ℕ, zero, suc, ◌+◌, ◌*◌, ◌<◌, ◌≤◌, ◌&&◌, Bool, true, false, List, [], ◌∷◌, ◌++◌, length, drop, get_or, map, Option, Some, None, Ok, refl, sym, ap, subst, ◌∙◌, arith}
use Rattle.std.proofs.lemmas.Bool.{ltb-true, lt-ltb}
use Rattle.std.proofs.lemmas.List.{drop_more, map-append}
use Rattle.pst_bytes.specs.declared.span.Span.{Span}
use Rattle.pst_fault.specs.declared.fault.Fault.{Fault}
use Rattle.pst_fault.specs.declared.kind.Kind.TheVariants.{BlockTrailer}
use Rattle.pst_fault.specs.Fault.{fault_in}
use Rattle.pst_fault.specs.First.{◌then◌, answer}
use Rattle.pst_fault.proofs.FirstLemmas.{none_then, both_none, answer_ok}
use Rattle.pst_page.specs.declared.entry.BlockEntry.{BlockEntry}
use Rattle.pst_page.specs.declared.kind.PageKind.TheVariants.{Bbt}
use Rattle.pst_page.specs.Entry.{block_entry_at, key_at}
use Rattle.pst_page.specs.Page.{entries_at, entries_from, count_at, width_at}
use Rattle.pst_page.proofs.EntryLemmas.{entries_from_next, block_entry_key}
use Rattle.pst_space.specs.Claimed.{Claimed, is_clear, first_unit, unit_count}
use Rattle.pst_btree.specs.Entries.{block_key}
use Rattle.pst_btree.specs.Order.{Rises}
use Rattle.pst_btree.proofs.RiseLemmas.{rises_join}
use Rattle.pst_block.specs.Block.{block_span}
use Rattle.pst_block.specs.Fault.{block_place_fault, block_trailer_fault, has_block_trailer, block_fault}
use Rattle.pst_block.specs.Walk.{blocks_fault}
use Rattle.pst_remains.specs.Judged.{overlap_fault}
use Rattle.pst_remains.specs.Blocks.{block_damage, is_named_by_trailer, BlocksLeft, blocks_left, blocks_so_far, told_block, with_block, with_blocks}
use Rattle.pst_remains.specs.Pages.{leaf_entries}
use Rattle.pst_remains.proofs.JudgedLemmas.{span_clear}

-- ---- one block

shut : (a b c d : Bool) → (a && b) ≡ false → (a && b && c && d) ≡ false
shut true true c d e = absurd cc
shut true false c d e = refl
shut false b c d e = refl

pub not_named : (I : List ℕ) (e : BlockEntry) → is_named_by_trailer I e ≡ false → block_trailer_fault I e ≡ Some (fault_in BlockTrailer e.ib e.bid)
unfolding block_trailer_fault has_block_trailer
not_named I e n = rw (shut _ _ _ _ n) refl

pub good_clear : (end : ℕ) (I : List ℕ) (claimed : Claimed) (e : BlockEntry) → block_damage end I claimed e ≡ None → is_clear claimed (first_unit (block_span e)) (unit_count (block_span e)) ≡ true
unfolding block_damage
good_clear end I claimed e d = span_clear claimed (block_span e) e.bid (none_then _ _ (none_then _ _ d).1).0

pub judged_clear : (end : ℕ) (I : List ℕ) (claimed : Claimed) (e : BlockEntry) (span : Span) → answer (block_damage end I claimed e) (block_span e) ≡ Ok span → is_clear claimed (first_unit span) (unit_count span) ≡ true
judged_clear end I claimed e span a =
    let p = answer_ok _ _ _ a in
    rw (← p.1) (good_clear end I claimed e p.0)

-- ---- from one to the next

pub blocks_done : (end : ℕ) (I : List ℕ) (b : BlocksLeft) → with_blocks end I b [] ≡ b
unfolding with_blocks
blocks_done end I b = refl

blocks_next : (end : ℕ) (I : List ℕ) (b next : BlocksLeft) (e : BlockEntry) (rest : List BlockEntry) → with_block end I b e ≡ next → with_blocks end I b (e ∷ rest) ≡ with_blocks end I next rest
unfolding with_blocks
blocks_next end I b next e rest h = rw h refl

with_blocks-append : (end : ℕ) (I : List ℕ) (b : BlocksLeft) (xs ys : List BlockEntry) → with_blocks end I b (xs ++ ys) ≡ with_blocks end I (with_blocks end I b xs) ys
unfolding with_blocks
with_blocks-append end I b [] ys = refl
with_blocks-append end I b (x ∷ xs) ys = with_blocks-append end I (with_block end I b x) xs ys

-- the entries of a leaf, from one on
pub leaf_next : (end : ℕ) (I : List ℕ) (b next total : BlocksLeft) (ib i : ℕ) (e : BlockEntry) → i < count_at I ib → e ≡ block_entry_at I (ib + i * width_at I ib) → with_block end I b e ≡ next
    → with_blocks end I b (map (block_entry_at I) (entries_from I ib i)) ≡ total → with_blocks end I next (map (block_entry_at I) (entries_from I ib (i + 1))) ≡ total
leaf_next end I b next total ib i e lt is h so_far =
    let one : with_block end I b (block_entry_at I (ib + i * width_at I ib)) ≡ next = rw (← is) h in
    sym (blocks_next end I b next _ (map (block_entry_at I) (entries_from I ib (i + 1))) one)
    ∙ sym (ap (λ (at : List ℕ). with_blocks end I b (map (block_entry_at I) at)) (entries_from_next I ib i lt)) ∙ so_far

drop_past : (leaves : List ℕ) (i : ℕ) → length leaves ≤ i → drop i leaves ≡ []
drop_past [] zero le = refl
drop_past [] (suc i) le = refl
drop_past (e ∷ rest) zero le = absurd (omega arith)
drop_past (e ∷ rest) (suc i) le = drop_past rest i (omega arith)

-- the leaves, from one on
pub leaves_next : (end : ℕ) (I : List ℕ) (b next total : BlocksLeft) (leaves : List ℕ) (i d : ℕ) → i < length leaves → with_blocks end I b (map (block_entry_at I) (entries_at I (get_or leaves i d))) ≡ next
    → with_blocks end I b (map (block_entry_at I) (leaf_entries I (drop i leaves))) ≡ total → with_blocks end I next (map (block_entry_at I) (leaf_entries I (drop (i + 1) leaves))) ≡ total
leaves_next end I b next total leaves i d lt h so_far =
    let ib = get_or leaves i d in
    let rest = map (block_entry_at I) (leaf_entries I (drop (i + 1) leaves)) in
    let spread : map (block_entry_at I) (leaf_entries I (drop i leaves)) ≡ map (block_entry_at I) (entries_at I ib) ++ rest =
    ap (λ (xs : List ℕ). map (block_entry_at I) (leaf_entries I xs)) (drop_more leaves i d lt) ∙ map-append (block_entry_at I) (entries_at I ib) (leaf_entries I (drop (i + 1) leaves)) in
    sym (ap (λ (x : BlocksLeft). with_blocks end I x rest) h) ∙ sym (with_blocks-append end I b (map (block_entry_at I) (entries_at I ib)) rest) ∙ sym (ap (with_blocks end I b) spread) ∙ so_far

pub leaves_done : (end : ℕ) (I : List ℕ) (b total : BlocksLeft) (leaves : List ℕ) (i : ℕ) → length leaves ≤ i → with_blocks end I b (map (block_entry_at I) (leaf_entries I (drop i leaves))) ≡ total → total ≡ b
leaves_done end I b total leaves i le so_far =
    sym so_far ∙ ap (λ (xs : List ℕ). with_blocks end I b (map (block_entry_at I) (leaf_entries I xs))) (drop_past leaves i le) ∙ blocks_done end I b

-- ---- what is known of the blocks without fault

damage_fault : (end : ℕ) (I : List ℕ) (claimed : Claimed) (e : BlockEntry) → block_damage end I claimed e ≡ None → block_fault end I e ≡ None
unfolding block_damage block_fault
damage_fault end I claimed e d =
    let p = none_then (block_place_fault end e) (overlap_fault claimed (block_span e) e.bid then block_trailer_fault I e) d in
    both_none (block_place_fault end e) (block_trailer_fault I e) p.0 (none_then (overlap_fault claimed (block_span e) e.bid) (block_trailer_fault I e) p.1).1

blocks_fault-append : (end : ℕ) (I : List ℕ) (xs ys : List BlockEntry) → blocks_fault end I xs ≡ None → blocks_fault end I ys ≡ None → blocks_fault end I (xs ++ ys) ≡ None
unfolding blocks_fault
blocks_fault-append end I [] ys a b = b
blocks_fault-append end I (x ∷ xs) ys a b = let p = none_then (block_fault end I x) (blocks_fault end I xs) a in both_none (block_fault end I x) (blocks_fault end I (xs ++ ys)) p.0 (blocks_fault-append end I xs ys p.1 b)

one_fault : (end : ℕ) (I : List ℕ) (e : BlockEntry) → block_fault end I e ≡ None → blocks_fault end I (e ∷ []) ≡ None
unfolding blocks_fault
one_fault end I e h = both_none (block_fault end I e) None h refl

told_sound : (end : ℕ) (I : List ℕ) (d : Option Fault) (b : BlocksLeft) (e : BlockEntry) → block_damage end I b.claimed e ≡ d → blocks_fault end I b.good ≡ None → blocks_fault end I (told_block d b e).good ≡ None
told_sound end I None b e h sound = blocks_fault-append end I b.good (e ∷ []) sound (one_fault end I e (damage_fault end I b.claimed e h))
told_sound end I (Some f) b e h sound = sound

-- they have no fault
pub with_sound : (end : ℕ) (I : List ℕ) (b : BlocksLeft) (entries : List BlockEntry) → blocks_fault end I b.good ≡ None → blocks_fault end I (with_blocks end I b entries).good ≡ None
unfolding with_blocks with_block
with_sound end I b [] sound = sound
with_sound end I b (e ∷ rest) sound = with_sound end I (told_block (block_damage end I b.claimed e) b e) rest (told_sound end I _ b e refl sound)

pub left_sound : (end : ℕ) (I : List ℕ) (claimed : Claimed) (entries : List BlockEntry) → blocks_fault end I (with_blocks end I (blocks_so_far claimed [] []) entries).good ≡ None
unfolding blocks_fault
left_sound end I claimed entries = with_sound end I (blocks_so_far claimed [] []) entries refl

-- their keys rise
raise : (low high more : ℕ) (keys : List ℕ) → high ≤ more → Rises low (Some high) keys → Rises low (Some more) keys
raise low high more [] le r = tt
raise low high more (k ∷ rest) le r = (r.0, lt-ltb _ _ (omega (arith, ltb-true _ _ r.1)), raise (k + 1) high more rest le r.2)

no_bound : (low high : ℕ) (keys : List ℕ) → Rises low (Some high) keys → Rises low None keys
no_bound low high [] r = tt
no_bound low high (k ∷ rest) r = (r.0, refl, no_bound (k + 1) high rest r.2)

told_rises : (d : Option Fault) (b : BlocksLeft) (e : BlockEntry) (low : ℕ) → low ≤ block_key e → Rises 0 (Some low) (map block_key b.good) → Rises 0 (Some (block_key e + 1)) (map block_key (told_block d b e).good)
told_rises None b e low le r =
    subst (λ (keys : List ℕ). Rises 0 (Some (block_key e + 1)) keys) (sym (map-append block_key b.good (e ∷ [])))
    (rises_join 0 low (Some (block_key e + 1)) (map block_key b.good) (block_key e ∷ []) (omega arith) (lt-ltb _ _ (omega (arith, le))) r (le, lt-ltb _ _ (omega arith), tt))
told_rises (Some f) b e low le r = raise 0 low (block_key e + 1) (map block_key b.good) (omega (arith, le)) r

with_rises : (end : ℕ) (I : List ℕ) (b : BlocksLeft) (low : ℕ) (entries : List BlockEntry) → Rises 0 (Some low) (map block_key b.good) → Rises low None (map block_key entries) → Rises 0 None (map block_key (with_blocks end I b entries).good)
unfolding with_blocks with_block
with_rises end I b low [] r s = no_bound 0 low (map block_key b.good) r
with_rises end I b low (e ∷ rest) r s = with_rises end I (told_block (block_damage end I b.claimed e) b e) (block_key e + 1) rest (told_rises _ b e low s.0 r) s.2

keys_at : (I : List ℕ) (places : List ℕ) → map block_key (map (block_entry_at I) places) ≡ map (key_at Bbt I) places
keys_at I [] = refl
keys_at I (at ∷ rest) = rw (block_entry_key I at, keys_at I rest) refl

pub left_rises : (end : ℕ) (I : List ℕ) (claimed : Claimed) (places : List ℕ) → Rises 0 None (map (key_at Bbt I) places) → Rises 0 None (map block_key (with_blocks end I (blocks_so_far claimed [] []) (map (block_entry_at I) places)).good)
left_rises end I claimed places r =
    with_rises end I (blocks_so_far claimed [] []) 0 (map (block_entry_at I) places) tt (subst (λ (keys : List ℕ). Rises 0 None keys) (sym (keys_at I places)) r)

-- ---- the same, of what was found

pub sorted_sound : (end : ℕ) (I : List ℕ) (claimed new : Claimed) (entries : List BlockEntry) (faults : List Fault) (good : List BlockEntry) → blocks_left end I claimed entries ≡ blocks_so_far new faults good → blocks_fault end I good ≡ None
sorted_sound end I claimed new entries faults good e = subst (λ (x : BlocksLeft). blocks_fault end I x.good ≡ None) e (left_sound end I claimed entries)

pub sorted_rises : (end : ℕ) (I : List ℕ) (claimed new : Claimed) (places : List ℕ) (faults : List Fault) (good : List BlockEntry) → blocks_left end I claimed (map (block_entry_at I) places) ≡ blocks_so_far new faults good
    → Rises 0 None (map (key_at Bbt I) places) → Rises 0 None (map block_key good)
sorted_rises end I claimed new places faults good e r = subst (λ (x : BlocksLeft). Rises 0 None (map block_key x.good)) e (left_rises end I claimed places r)
