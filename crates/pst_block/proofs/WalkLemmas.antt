-- Steps of the walk of all blocks.
use Rattle.std.proofs.Common.{◌≡◌, ℕ, zero, suc, ◌+◌, ◌<◌, ◌≤◌, List, [], ◌∷◌, length, drop, get_or, None, Ok, Err, refl, sym, ap, ◌∙◌, arith}
use Rattle.std.proofs.lemmas.List.{drop_more}
use Rattle.pst_fault.specs.declared.fault.Fault.{Fault}
use Rattle.pst_page.specs.declared.entry.BlockEntry.{BlockEntry}
use Rattle.pst_space.specs.Claimed.{Claimed}
use Rattle.pst_space.specs.Step.{Step, claim_step}
use Rattle.pst_block.specs.Block.{block_span}
use Rattle.pst_block.specs.Fault.{block_place_fault}
use Rattle.pst_block.specs.Walk.{block_step, blocks_walk}

-- a block in its place whose claim is refused
pub step_refused : (end : ℕ) (I : List ℕ) (old new : Claimed) (e : BlockEntry) (f : Fault) → block_place_fault end e ≡ None → claim_step (block_span e) e.bid old ≡ Err (new, f) → block_step end I old e ≡ Err (new, f)
unfolding block_step
step_refused end I old new e f none c = rw (none, c) refl

-- ---- from one block to the next

pub go_on : (end : ℕ) (I : List ℕ) (now more : Claimed) (e : BlockEntry) (rest : List BlockEntry) → block_step end I now e ≡ Ok more → blocks_walk end I now (e ∷ rest) ≡ blocks_walk end I more rest
unfolding blocks_walk
go_on end I now more e rest h = rw h refl

pub stop : (end : ℕ) (I : List ℕ) (now : Claimed) (e : BlockEntry) (rest : List BlockEntry) (x : Claimed × Fault) → block_step end I now e ≡ Err x → blocks_walk end I now (e ∷ rest) ≡ Err x
unfolding blocks_walk
stop end I now e rest x h = rw h refl

pub done : (end : ℕ) (I : List ℕ) (now : Claimed) → blocks_walk end I now [] ≡ Ok now
unfolding blocks_walk
done end I now = refl

-- ---- what is left of the entries

drop_past : (entries : List BlockEntry) (i : ℕ) → length entries ≤ i → drop i entries ≡ []
drop_past [] zero le = refl
drop_past [] (suc i) le = refl
drop_past (e ∷ rest) zero le = absurd (omega arith)
drop_past (e ∷ rest) (suc i) le = drop_past rest i (omega arith)

pub walk_next : (end : ℕ) (I : List ℕ) (now more : Claimed) (entries : List BlockEntry) (i : ℕ) (d : BlockEntry) (total : Step Claimed) → i < length entries → block_step end I now (get_or entries i d) ≡ Ok more
    → blocks_walk end I now (drop i entries) ≡ total → blocks_walk end I more (drop (i + 1) entries) ≡ total
walk_next end I now more entries i d total lt h so_far =
    sym (go_on end I now more (get_or entries i d) (drop (i + 1) entries) h) ∙ sym (ap (blocks_walk end I now) (drop_more entries i d lt)) ∙ so_far

pub walk_refused : (end : ℕ) (I : List ℕ) (now new : Claimed) (entries : List BlockEntry) (i : ℕ) (d : BlockEntry) (f : Fault) (total : Step Claimed) → i < length entries → block_step end I now (get_or entries i d) ≡ Err (new, f)
    → blocks_walk end I now (drop i entries) ≡ total → total ≡ Err (new, f)
walk_refused end I now new entries i d f total lt h so_far =
    sym so_far ∙ ap (blocks_walk end I now) (drop_more entries i d lt) ∙ stop end I now (get_or entries i d) (drop (i + 1) entries) (new, f) h

pub walk_done : (end : ℕ) (I : List ℕ) (now : Claimed) (entries : List BlockEntry) (i : ℕ) (total : Step Claimed) → length entries ≤ i → blocks_walk end I now (drop i entries) ≡ total → total ≡ Ok now
walk_done end I now entries i total le so_far = sym so_far ∙ ap (blocks_walk end I now) (drop_past entries i le) ∙ done end I now
