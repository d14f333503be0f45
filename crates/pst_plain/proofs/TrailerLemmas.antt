-- The trailers of blocks, and the walk over all blocks, once the bodies of the data blocks among them are changed.
use Rattle.std.proofs.Common.{◌≡◌, ℕ, ◌+◌, List, [], ◌∷◌, length, Option, Some, None, Ok, true, false, cond, refl, sym, ap, ◌∙◌, subst, arith}
use Rattle.std.specs.Prelude.{⊤}
use Rattle.std.specs.List.{All, filter}
use Rattle.std.proofs.lemmas.List.Elements.{All-head, All-tail, All-filter}
use Rattle.pst_bytes.specs.Image.{bytes_at}
use Rattle.pst_bytes.specs.Span.{IsApartFromAll}
use Rattle.pst_fault.specs.declared.fault.Fault.{Fault}
use Rattle.pst_fault.proofs.FirstLemmas.{holds_or_none}
use Rattle.pst_page.specs.declared.entry.BlockEntry.{BlockEntry}
use Rattle.pst_space.specs.Claimed.{Claimed, claim_of}
use Rattle.pst_space.specs.Apart.{AreApart}
use Rattle.pst_space.specs.Step.{Step, ◌>>=◌, unless, claimed_or, claim_step}
use Rattle.pst_block.specs.Block.{block_span, trailer_at}
use Rattle.pst_block.specs.Fault.{has_block_trailer, block_place_fault, block_trailer_fault}
use Rattle.pst_block.specs.Walk.{block_spans, block_step, blocks_walk}
use Rattle.pst_block.proofs.BlockLemmas.{size_large}
use Rattle.pst_encoding.specs.Tables.{IsByte}
use Rattle.pst_plain.specs.Blocks.{has_data, block_place, claimed_with, placed, EndsBy}
use Rattle.pst_plain.specs.Twin.{with_body}
use Rattle.pst_plain.proofs.CodingLemmas.{Coding, IsCoding, all_changed}
use Rattle.pst_plain.proofs.LawLemmas.{told, trailer_told, all_kept}
use Rattle.pst_plain.proofs.SameLemmas.{part_same, num_same}
use Rattle.pst_plain.proofs.PlacedLemmas.{filter_from, fields_apart}
use Rattle.pst_plain.proofs.BackLemmas.{body_elsewhere, turned}

-- ---- a block whose bytes are the same has the same trailer

pub block_same : (I T : List ℕ) (e : BlockEntry) → bytes_at T (block_span e) ≡ bytes_at I (block_span e) → has_block_trailer T e ≡ has_block_trailer I e
unfolding has_block_trailer
block_same I T e same =
    let large = size_large e.cb in
    let s = block_span e in
    let t = trailer_at e in
    rw (
      num_same I T s t 2 same (omega (arith, large)) (omega (arith, large)),
      num_same I T s (t + 8) 8 same (omega (arith, large)) (omega (arith, large)),
      num_same I T s (t + 2) 2 same (omega (arith, large)) (omega (arith, large)),
      num_same I T s (t + 4) 4 same (omega (arith, large)) (omega (arith, large)),
      part_same I T s e.ib e.cb same (omega arith) (omega (arith, large)),
    ) refl

-- ---- of all blocks

abbrev pub HaveSameTrailers : List ℕ → List ℕ → List BlockEntry → Type 0
HaveSameTrailers I T [] = ⊤
HaveSameTrailers I T (e ∷ rest) = (has_block_trailer T e ≡ has_block_trailer I e) × HaveSameTrailers I T rest

-- those beside a block that is changed
beside : (I : List ℕ) (coding : Coding) (d : BlockEntry) (entries : List BlockEntry) → IsCoding coding → EndsBy (length I) d → IsApartFromAll (block_span d) (block_spans entries) → HaveSameTrailers I (with_body (coding d.bid) d I) entries
beside I coding d [] is by_end apart = tt
beside I coding d (e ∷ rest) is by_end apart = (
  block_same I (with_body (coding d.bid) d I) e (body_elsewhere (coding d.bid) d I (block_span e) (is.long d.bid) by_end (turned (block_span d) (block_span e) apart.0)),
  beside I coding d rest is by_end apart.1,
)

trailers_then : (I J K : List ℕ) (entries : List BlockEntry) → HaveSameTrailers I J entries → HaveSameTrailers J K entries → HaveSameTrailers I K entries
trailers_then I J K [] first second = tt
trailers_then I J K (e ∷ rest) first second = (second.0 ∙ first.0, trailers_then I J K rest first.1 second.1)

pub filter_ends : (end : ℕ) (entries : List BlockEntry) → All (EndsBy end) entries → All (EndsBy end) (filter has_data entries)
filter_ends end entries all = All-filter has_data (EndsBy end) entries all

-- a block that is apart from those that are changed
apart_trailer : (I : List ℕ) (coding : Coding) (e : BlockEntry) (entries : List BlockEntry) → IsCoding coding → All IsByte I → All (EndsBy (length I)) entries → IsApartFromAll (block_span e) (block_spans entries)
    → has_block_trailer (all_changed coding entries I) e ≡ has_block_trailer I e
apart_trailer I coding e entries is all ends apart =
    block_same I (all_changed coding entries I) e ((all_kept entries I coding is all ends).same.others (block_span e) (fields_apart (block_span e) entries apart))

pub trailers_kept : (entries : List BlockEntry) (I : List ℕ) (coding : Coding) → IsCoding coding → All IsByte I → All (EndsBy (length I)) entries → AreApart (block_spans entries)
    → HaveSameTrailers I (all_changed coding (filter has_data entries) I) entries
unfolding all_changed
trailers_kept [] I coding is all ends apart = tt
trailers_kept (e ∷ rest) I coding is all ends apart =
    let e_end = All-head (EndsBy (length I)) e rest ends in
    let tail = All-tail (EndsBy (length I)) e rest ends in
    let from = filter_from (block_span e) rest apart.0 in
    elim (has_data e) as (λ b. HaveSameTrailers I (all_changed coding (cond b (e ∷ filter has_data rest) (filter has_data rest)) I) (e ∷ rest)) [
      | true ↦
          let J = with_body (coding e.bid) e I in
          let says = told I coding e is all e_end in
          let later : All (EndsBy (length J)) rest = rw says.len tail in
          let K = all_changed coding (filter has_data rest) J in (
            apart_trailer J coding e (filter has_data rest) is says.bytes (filter_ends (length J) rest later) from ∙ trailer_told I J coding e says,
            trailers_then I J K rest (beside I coding e rest is e_end apart.0) (trailers_kept rest J coding is says.bytes later apart.1),
          )
      | false ↦ (
        apart_trailer I coding e (filter has_data rest) is all (filter_ends (length I) rest tail) from,
        trailers_kept rest I coding is all tail apart.1,
      )
    ]

-- ---- the walk over all blocks

place_none : (end : ℕ) (e : BlockEntry) → block_place_fault end e ≡ None → block_place end e ≡ Some (block_span e)
unfolding block_place_fault block_place
place_none end e none = rw (holds_or_none _ _ none) refl

trailer_fault_same : (I T : List ℕ) (e : BlockEntry) → has_block_trailer T e ≡ has_block_trailer I e → block_trailer_fault T e ≡ block_trailer_fault I e
unfolding block_trailer_fault
trailer_fault_same I T e same = rw same refl

-- a block that can be claimed in its place is placed
takes : (end : ℕ) (claimed more : Claimed) (e : BlockEntry) → block_place_fault end e ≡ None → claim_of claimed (block_span e) ≡ Some more → claimed_with end claimed e ≡ Some more
unfolding claimed_with
takes end claimed more e none claims = rw (place_none end e none) claims

placed_first : (end : ℕ) (claimed more : Claimed) (e : BlockEntry) (rest : List BlockEntry) → claimed_with end claimed e ≡ Some more → placed end claimed (e ∷ rest) ≡ e ∷ placed end more rest
unfolding placed
placed_first end claimed more e rest h = rw h refl

-- one step, whose trailer has this fault or none
abbrev step_with : ℕ → Claimed → BlockEntry → Option Fault → Step Claimed
step_with end claimed e fault = unless (block_place_fault end e) claimed (claim_step (block_span e) e.bid claimed >>= λ more. unless fault more (Ok more))

step_is : (end : ℕ) (I : List ℕ) (claimed : Claimed) (e : BlockEntry) → block_step end I claimed e ≡ step_with end claimed e (block_trailer_fault I e)
unfolding block_step
step_is end I claimed e = refl

walk_is : (end : ℕ) (I : List ℕ) (claimed : Claimed) (e : BlockEntry) (rest : List BlockEntry) → blocks_walk end I claimed (e ∷ rest) ≡ (step_with end claimed e (block_trailer_fault I e) >>= λ more. blocks_walk end I more rest)
unfolding blocks_walk block_step
walk_is end I claimed e rest = refl

pub walk_same : (entries : List BlockEntry) (end : ℕ) (I T : List ℕ) (claimed : Claimed) → HaveSameTrailers I T (placed end claimed entries) → blocks_walk end T claimed entries ≡ blocks_walk end I claimed entries
unfolding blocks_walk
walk_same [] end I T claimed same = refl
walk_same (e ∷ rest) end I T claimed same =
    let next : List ℕ → Claimed → Step Claimed = λ L more. blocks_walk end L more rest in
    walk_is end T claimed e rest
    ∙ elim (block_place_fault end e) as (λ o. block_place_fault end e ≡ o
    → (unless o claimed (claim_step (block_span e) e.bid claimed >>= λ more. unless (block_trailer_fault T e) more (Ok more)) >>= next T)
    ≡ (unless o claimed (claim_step (block_span e) e.bid claimed >>= λ more. unless (block_trailer_fault I e) more (Ok more)) >>= next I)) [
      | Some f ↦ λ h. refl
      | None ↦ λ h.
          elim (claim_of claimed (block_span e)) as (λ c. claim_of claimed (block_span e) ≡ c
          → ((claimed_or (block_span e) e.bid claimed c >>= λ more. unless (block_trailer_fault T e) more (Ok more)) >>= next T)
          ≡ ((claimed_or (block_span e) e.bid claimed c >>= λ more. unless (block_trailer_fault I e) more (Ok more)) >>= next I)) [
            | None ↦ λ k. refl
            | Some more ↦ λ k.
                let both = subst (HaveSameTrailers I T) (placed_first end claimed more e rest (takes end claimed more e h k)) same in
                ap (λ o. unless o more (Ok more) >>= next T) (trailer_fault_same I T e both.0)
                ∙ elim (block_trailer_fault I e) as (λ o. (unless o more (Ok more) >>= next T) ≡ (unless o more (Ok more) >>= next I)) [
                  | None ↦ walk_same rest end I T more both.1
                  | Some f ↦ refl
                ]
          ] refl
    ] refl
    ∙ sym (walk_is end I claimed e rest)
