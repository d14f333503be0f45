-- The three passes of the cyclic algorithm, and that they are it.
use Rattle.std.proofs.Common.{◌≡◌, ℕ, ◌+◌, ◌-◌, ◌*◌, ◌/◌, ◌%◌, ◌^◌, ◌<◌, ◌≤◌, ◌∙◌, List, [], ◌∷◌, ◌++◌, length, get_or, set, take, drop, map, refl, ap, sym, arith}
use Rattle.std.proofs.lemmas.List.{append_assoc, append-nil, take_more_set, drop_more, drop-set-lt, drop_all, take_all, take-append-drop, drop-drop, length-take-le, length-drop}
use Rattle.pst_encoding.specs.Cyclic.{turned, cycled_byte, cycled, with_low_added, turned_each, lowered, turns_of}
use Rattle.pst_encoding.proofs.TurnLemmas.{turn_at}

-- ---- the passes over single bytes: what is done, and what is left, are all of it

pub raised_on : (low next i b : ℕ) (s done : List ℕ) → i < length s → b ≡ (get_or s i 0 + low) % 256 → next ≡ (low + 1) % 256
    → take i s ++ with_low_added low (drop i s) ≡ done → take (i + 1) (set s i b) ++ with_low_added next (drop (i + 1) (set s i b)) ≡ done
unfolding with_low_added
raised_on low next i b s done lt is more so_far =
    let front = take_more_set s i b lt in
    let rest : drop (i + 1) (set s i b) ≡ drop (i + 1) s = drop-set-lt (i + 1) s i b (omega arith) in
    let left : drop i s ≡ get_or s i 0 ∷ drop (i + 1) s = drop_more s i 0 lt in
    rw (front, rest, more, is, append_assoc) (ap (λ l. take i s ++ with_low_added low l) (sym left) ∙ so_far)

pub raised_all : (low i : ℕ) (s done : List ℕ) → length s ≤ i → take i s ++ with_low_added low (drop i s) ≡ done → s ≡ done
unfolding with_low_added
raised_all low i s done past so_far =
    let all = take_all i s past in
    let none = drop_all i s past in
    sym (append-nil s) ∙ (rw (all, none) at so_far)

pub lowered_on : (low next i b : ℕ) (s done : List ℕ) → i < length s → b ≡ (get_or s i 0 + (256 - low)) % 256 → next ≡ (low + 1) % 256
    → take i s ++ lowered low (drop i s) ≡ done → take (i + 1) (set s i b) ++ lowered next (drop (i + 1) (set s i b)) ≡ done
unfolding lowered
lowered_on low next i b s done lt is more so_far =
    let front = take_more_set s i b lt in
    let rest : drop (i + 1) (set s i b) ≡ drop (i + 1) s = drop-set-lt (i + 1) s i b (omega arith) in
    let left : drop i s ≡ get_or s i 0 ∷ drop (i + 1) s = drop_more s i 0 lt in
    rw (front, rest, more, is, append_assoc) (ap (λ l. take i s ++ lowered low l) (sym left) ∙ so_far)

pub lowered_all : (low i : ℕ) (s done : List ℕ) → length s ≤ i → take i s ++ lowered low (drop i s) ≡ done → s ≡ done
unfolding lowered
lowered_all low i s done past so_far =
    let all = take_all i s past in
    let none = drop_all i s past in
    sym (append-nil s) ∙ (rw (all, none) at so_far)

-- ---- the inner steps, run by run

-- the entry of a byte under a high byte
pub entry_turned : (turns : List ℕ) (high b i entry : ℕ) → turns ≡ turns_of 65536 → high < 256 → b < 256 → i ≡ high * 256 + b → entry ≡ get_or turns i 0 → entry ≡ turned high b
entry_turned turns high b i entry table high_fits fits place is =
    let within : i < 65536 = omega arith in
    let first : i / 256 ≡ high = omega arith in
    let second : i % 256 ≡ b = omega arith in
    is ∙ ap (λ l. get_or l i 0) table ∙ turn_at 65536 i within ∙ ap (turned (i / 256)) second ∙ ap (λ h. turned h b) first

-- under keys with one high byte
one_high : (key : ℕ) (bytes : List ℕ) → key < 65536 → key % 256 + length bytes ≤ 256 → turned_each key bytes ≡ map (turned (key / 256)) bytes
unfolding turned_each
one_high key [] fits short = refl
one_high key (b ∷ []) fits short =
    let high : key / 256 % 256 ≡ key / 256 = omega arith in
    rw high refl
one_high key (b ∷ c ∷ rest) fits short =
    let high : key / 256 % 256 ≡ key / 256 = omega arith in
    let next_fits : (key + 1) % 2 ^ 16 < 65536 = omega arith in
    let next_short : (key + 1) % 2 ^ 16 % 256 + length (c ∷ rest) ≤ 256 = omega (arith, short) in
    let next_high : (key + 1) % 2 ^ 16 / 256 ≡ key / 256 = omega (arith, short) in
    let later = one_high ((key + 1) % 2 ^ 16) (c ∷ rest) next_fits next_short in
    let same : turned_each ((key + 1) % 2 ^ 16) (c ∷ rest) ≡ map (turned (key / 256)) (c ∷ rest) = later ∙ ap (λ h. map (turned h) (c ∷ rest)) next_high in
    rw high (ap (λ l. turned (key / 256) b ∷ l) same)

-- what follows a run
behind_run : (key : ℕ) (first rest : List ℕ) → key < 65536 → turned_each key (first ++ rest) ≡ turned_each key first ++ turned_each ((key + length first) % 2 ^ 16) rest
unfolding turned_each
behind_run key [] rest fits =
    let same : (key + 0) % 2 ^ 16 ≡ key = omega arith in
    rw same refl
behind_run key (b ∷ first) rest fits =
    let next_fits : (key + 1) % 2 ^ 16 < 65536 = omega arith in
    let same : ((key + 1) % 2 ^ 16 + length first) % 2 ^ 16 ≡ (key + length (b ∷ first)) % 2 ^ 16 = omega arith in
    ap (λ l. turned (key / 256 % 256) b ∷ l) (behind_run ((key + 1) % 2 ^ 16) first rest next_fits ∙ ap (λ k. turned_each ((key + 1) % 2 ^ 16) first ++ turned_each k rest) same)

-- A run is turned: what is done, and what is left under the next key, are all of it.
pub run_turned : (key next at run n : ℕ) (s t piece done : List ℕ) → key < 65536 → at + run ≤ length s → key % 256 + run ≤ 256 → n ≡ run → next ≡ (key + run) % 2 ^ 16
    → piece ≡ map (turned (key / 256)) (take n (drop at s)) → take (at + run) t ≡ take at s ++ piece → drop (at + run) t ≡ drop (at + run) s
    → take at s ++ turned_each key (drop at s) ≡ done → take (at + run) t ++ turned_each next (drop (at + run) t) ≡ done
run_turned key next at run n s t piece done fits inside short runs more made first last so_far =
    let body = take run (drop at s) in
    let long : length body ≡ run = let d = length-drop at s in length-take-le run (drop at s) (omega (arith, d)) in
    let turns : turned_each key body ≡ piece = one_high key body fits (rw long short) ∙ sym (made ∙ ap (λ k. map (turned (key / 256)) (take k (drop at s))) runs) in
    let rest : drop run (drop at s) ≡ drop (at + run) s = drop-drop run at s in
    let split = ap (turned_each key) (sym (take-append-drop run (drop at s))) ∙ behind_run key body (drop run (drop at s)) fits in
    let left : turned_each key (drop at s) ≡ piece ++ turned_each next (drop (at + run) s) = split ∙ rw (turns, long, rest, more) refl in
    rw (first, last, append_assoc) (ap (λ l. take at s ++ l) (sym left) ∙ so_far)

pub runs_done : (key at : ℕ) (s done : List ℕ) → length s ≤ at → take at s ++ turned_each key (drop at s) ≡ done → s ≡ done
unfolding turned_each
runs_done key at s done past so_far =
    let all = take_all at s past in
    let none = drop_all at s past in
    sym (append-nil s) ∙ (rw (all, none) at so_far)

-- ---- the passes are the algorithm

pub three_passes : (key low : ℕ) (bytes : List ℕ) → low ≡ key % 256 → lowered low (turned_each key (with_low_added low bytes)) ≡ cycled key bytes
unfolding cycled cycled_byte with_low_added turned_each lowered
three_passes key low [] is = refl
three_passes key low (b ∷ rest) is =
    let next : (low + 1) % 256 ≡ (key + 1) % 2 ^ 16 % 256 = omega (arith, is) in
    let later = three_passes ((key + 1) % 2 ^ 16) ((low + 1) % 256) rest next in
    rw (later, is) refl
