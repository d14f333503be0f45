-- A text that keeps what it had while more is put behind it.
use Rattle.std.proofs.Common.{◌≡◌, ℕ, List, ◌++◌, length, take, drop, sym, ap, ◌∙◌, append_assoc, arith}
use Rattle.std.specs.Prelude.{Result, Ok, Err, OnErr, OnOk}
use Rattle.std.proofs.Math.Seq.{take-append_seam}
use Rattle.std.proofs.lemmas.List.{take-append-drop, take_all}
use Rattle.pst_text.specs.Kept.{BeginsWith}

-- more is put behind it
pub kept_here : (text more put : List ℕ) → put ≡ text ++ more → BeginsWith put text
kept_here text more put is = ap (λ l. take (length text) l) is ∙ take-append_seam text more

-- and what stands there then is kept
pub kept_on : (text more put now : List ℕ) → put ≡ text ++ more → BeginsWith now put → BeginsWith now text
kept_on text more put now is kept =
    ap (λ l. take (length text) l)
    (sym (take-append-drop (length put) now) ∙ ap (λ l. l ++ drop (length put) now) (kept ∙ is) ∙ append_assoc text more (drop (length put) now))
    ∙ take-append_seam text (more ++ drop (length put) now)

-- what is kept of a text that keeps it
pub kept_through : (text put now : List ℕ) → BeginsWith put text → BeginsWith now put → BeginsWith now text
kept_through text put now first then =
    kept_on text (drop (length text) put) put now (sym (take-append-drop (length text) put) ∙ ap (λ l. l ++ drop (length text) put) first) then

-- more is put behind a text that keeps it
pub kept_more : (text put more now : List ℕ) → BeginsWith put text → now ≡ put ++ more → BeginsWith now text
kept_more text put more now first is = kept_through text put now first (kept_here put more now is)

-- nothing is put behind a text that keeps it
pub kept_still : (text put now : List ℕ) → BeginsWith put text → now ≡ put → BeginsWith now text
kept_still text put now first is = ap (λ l. take (length text) l) is ∙ first

-- what comes last leaves it, too
pub kept_end : {A E : Type 0} (result : Result A E) (text put now : List ℕ) → BeginsWith put text → OnErr result (BeginsWith now put) → OnErr result (BeginsWith now text)
kept_end (Ok v) text put now first then = tt
kept_end (Err e) text put now first then = kept_through text put now first then

-- so it is whatever the result is
pub kept_so : {A E : Type 0} (result : Result A E) (text put : List ℕ) → BeginsWith put text → OnErr result (BeginsWith put text)
kept_so (Ok v) text put kept = tt
kept_so (Err e) text put kept = kept

-- what is put behind it leaves it, whatever the result is
pub kept_by : {A E : Type 0} (result : Result A E) (base text more now : List ℕ) → OnOk result (now ≡ text ++ more) → OnErr result (BeginsWith now text) → BeginsWith text base → BeginsWith now base
kept_by (Ok v) base text more now put kept first = kept_more base text more now first put
kept_by (Err e) base text more now put kept first = kept_through base text now first kept

-- a text keeps itself
pub kept_itself : (text : List ℕ) → BeginsWith text text
kept_itself text = take_all (length text) text (omega arith)
