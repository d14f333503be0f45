-- Which blocks are encoded: the loop that goes over them, and where they end.
use Rattle.std.proofs.Common.{◌≡◌, ℕ, ◌+◌, ◌<◌, ◌≤◌, List, [], ◌∷◌, ◌++◌, length, drop, get_or, Some, None, refl, sym, ap, subst, ◌∙◌, arith, append-nil, append_assoc}
use Rattle.std.specs.List.{filter, All}
use Rattle.std.proofs.lemmas.List.{drop_more, drop_all}
use Rattle.std.proofs.lemmas.List.Elements.{All-weaker, All-nil, All-cons, All-append, All-filter, filter-append}
use Rattle.pst_page.specs.declared.entry.BlockEntry.{BlockEntry}
use Rattle.pst_space.specs.Claimed.{Claimed}
use Rattle.pst_block.specs.Block.{block_size}
use Rattle.pst_plain.specs.Blocks.{has_data, claimed_with, placed, placed_data, EndsBy}

-- ---- one block, and those behind it

pub placed_more : (end : ℕ) (now more : Claimed) (e : BlockEntry) (rest : List BlockEntry) → claimed_with end now e ≡ Some more → placed end now (e ∷ rest) ≡ e ∷ placed end more rest
unfolding placed
placed_more end now more e rest h = rw h refl

placed_none : (end : ℕ) (now : Claimed) (e : BlockEntry) (rest : List BlockEntry) → claimed_with end now e ≡ None → placed end now (e ∷ rest) ≡ []
unfolding placed
placed_none end now e rest h = rw h refl

-- ---- what is found so far, and what is left, are all of it

pub data_next : (end i : ℕ) (now more : Claimed) (entries found next total : List BlockEntry) (d : BlockEntry) → i < length entries → claimed_with end now (get_or entries i d) ≡ Some more
    → next ≡ found ++ filter has_data (get_or entries i d ∷ []) → found ++ placed_data end now (drop i entries) ≡ total
    → next ++ placed_data end more (drop (i + 1) entries) ≡ total
data_next end i now more entries found next total d lt claims added so_far =
    let e = get_or entries i d in
    let rest = placed end more (drop (i + 1) entries) in
    let left : placed end now (drop i entries) ≡ (e ∷ []) ++ rest = ap (placed end now) (drop_more entries i d lt) ∙ placed_more end now more e (drop (i + 1) entries) claims in
    let kept : filter has_data ((e ∷ []) ++ rest) ≡ filter has_data (e ∷ []) ++ filter has_data rest = filter-append has_data (e ∷ []) rest in
    ap (λ l. l ++ filter has_data rest) added ∙ append_assoc found (filter has_data (e ∷ [])) (filter has_data rest)
    ∙ ap (λ l. found ++ l) (sym (ap (filter has_data) left ∙ kept)) ∙ so_far

pub data_stopped : (end i : ℕ) (now : Claimed) (entries found total : List BlockEntry) (d : BlockEntry) → i < length entries → claimed_with end now (get_or entries i d) ≡ None
    → found ++ placed_data end now (drop i entries) ≡ total → found ≡ total
data_stopped end i now entries found total d lt refused so_far =
    let e = get_or entries i d in
    let left : placed end now (drop i entries) ≡ [] = ap (placed end now) (drop_more entries i d lt) ∙ placed_none end now e (drop (i + 1) entries) refused in
    sym (append-nil found) ∙ ap (λ l. found ++ filter has_data l) (sym left) ∙ so_far

pub data_done : (end i : ℕ) (now : Claimed) (entries found total : List BlockEntry) → length entries ≤ i → found ++ placed_data end now (drop i entries) ≡ total → found ≡ total
unfolding placed
data_done end i now entries found total past so_far =
    sym (append-nil found) ∙ ap (λ l. found ++ placed_data end now l) (sym (drop_all i entries past)) ∙ so_far

-- ---- where they end

pub inside_next : (end : ℕ) (found next : List BlockEntry) (e : BlockEntry) → EndsBy end e → next ≡ found ++ filter has_data (e ∷ []) → All (EndsBy end) found → All (EndsBy end) next
inside_next end found next e here added so_far =
    subst (All (EndsBy end)) (sym added) (All-append (EndsBy end) found (filter has_data (e ∷ [])) so_far
    (All-filter has_data (EndsBy end) (e ∷ []) (All-cons (EndsBy end) e [] here (All-nil (EndsBy end)))))

pub end_later : (end last : ℕ) (entries : List BlockEntry) → end ≤ last → All (EndsBy end) entries → All (EndsBy last) entries
end_later end last entries le by_end = All-weaker (EndsBy end) (EndsBy last) (λ (e : BlockEntry) (h : EndsBy end e). let k : e.ib + block_size e.cb ≤ end = h in omega (arith, k, le)) entries by_end
