-- Outputs that gain some bytes, and then others.
use Rattle.std.proofs.Common.{◌≡◌, ◌+◌, ◌≤◌, ℕ, List, [], ◌∷◌, ◌++◌, length, take, Option, arith, refl, sym, subst, ◌∙◌, append_assoc, append-nil}
use Rattle.std.specs.Prelude.{min}
use Rattle.std.specs.Io.KnownBytes.{Appends}
use Rattle.std.specs.List.{concat}
use Rattle.std.proofs.KnownBytes.{Appends-nil, Appends-trans}
use Rattle.std.proofs.lemmas.List.{take_min, take-append-le}
use Rattle.std.proofs.Math.Seq.{take-append-add, take-length}
use Rattle.pst_json.specs.Output.{AppendsFront}

-- behind bytes that are written a front of others is a front of both
pub front_behind : (a b c : Option (List ℕ)) (bs cs : List ℕ) → Appends a b bs → AppendsFront b c cs → AppendsFront a c (bs ++ cs)
front_behind a b c bs cs written front =
    (length bs + front.0, subst (Appends a c) (sym (take-append-add bs cs front.0)) (Appends-trans a b c bs (take front.0 cs) written front.1))

-- a front of bytes is one of these and others
pub front_of_more : (a b : Option (List ℕ)) (bs cs : List ℕ) → AppendsFront a b bs → AppendsFront a b (bs ++ cs)
front_of_more a b bs cs front = (min front.0 (length bs), subst (Appends a b) (less front.0 bs cs) front.1)
  where
    less : (n : ℕ) (xs ys : List ℕ) → take n xs ≡ take (min n (length xs)) (xs ++ ys)
    less n xs ys = let inside : min n (length xs) ≤ length xs = omega arith in sym (take_min n xs) ∙ sym (take-append-le (min n (length xs)) xs ys inside)

-- nothing is written yet
pub front_of_none : (a : Option (List ℕ)) (bs : List ℕ) → AppendsFront a a bs
front_of_none a bs = (0, Appends-nil a)

-- ---- bytes that are written piece by piece

-- a front of them is written, and these are left
pub record Written (old now : Option (List ℕ)) (whole rest : List ℕ) : Type 0 where
  pub front : List ℕ
  pub is : Appends old now front
  pub all : front ++ rest ≡ whole

pub written_none : (old : Option (List ℕ)) (whole : List ℕ) → Written old old whole whole
written_none old whole = record { front = []; is = Appends-nil old; all = refl }

-- one piece more
pub written_more : (old now new : Option (List ℕ)) (whole piece rest : List ℕ) → Written old now whole (piece ++ rest) → Appends now new piece → Written old new whole rest
written_more old now new whole piece rest w more = record {
  front = w.front ++ piece;
  is = Appends-trans old now new w.front piece w.is more;
  all = append_assoc w.front piece rest ∙ w.all;
}

-- a piece that failed
pub written_front : (old now new : Option (List ℕ)) (whole piece rest : List ℕ) → Written old now whole (piece ++ rest) → AppendsFront now new piece → AppendsFront old new whole
written_front old now new whole piece rest w front =
    subst (AppendsFront old new) w.all (front_behind old now new w.front (piece ++ rest) w.is (front_of_more now new piece rest front))

-- all of them
pub written_all : (old now : Option (List ℕ)) (whole : List ℕ) → Written old now whole [] → Appends old now whole
written_all old now whole w = subst (Appends old now) (sym (append-nil w.front) ∙ w.all) w.is

-- ---- the slices of a value, one after another

pub slices_begin : (old : Option (List ℕ)) (whole : List ℕ) (left : List (List ℕ)) → concat left ≡ whole → Written old old whole (concat left)
slices_begin old whole left is = subst (Written old old whole) (sym is) (written_none old whole)

pub slice_written : (old now new : Option (List ℕ)) (whole piece : List ℕ) (left behind : List (List ℕ)) → left ≡ piece ∷ behind → Written old now whole (concat left) → Appends now new piece
    → Written old new whole (concat behind)
slice_written old now new whole piece left behind is w more = written_more old now new whole piece (concat behind) (subst (λ l. Written old now whole (concat l)) is w) more

-- one that failed
pub slice_front : (old now new : Option (List ℕ)) (whole piece : List ℕ) (left behind : List (List ℕ)) → left ≡ piece ∷ behind → Written old now whole (concat left) → AppendsFront now new piece
    → AppendsFront old new whole
slice_front old now new whole piece left behind is w front = written_front old now new whole piece (concat behind) (subst (λ l. Written old now whole (concat l)) is w) front

-- none is left
pub slices_end : (old now : Option (List ℕ)) (whole : List ℕ) (left : List (List ℕ)) → left ≡ [] → Written old now whole (concat left) → Appends old now whole
slices_end old now whole left is w = written_all old now whole (subst (λ l. Written old now whole (concat l)) is w)

pub front_of_all : (old new : Option (List ℕ)) (bytes : List ℕ) → Appends old new bytes → AppendsFront old new bytes
front_of_all old new bytes all = (length bytes, subst (Appends old new) (sym (take-length bytes)) all)
