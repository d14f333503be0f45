-- What a command that takes paths finds of its words: the file and the paths, however many.
use Rattle.std.proofs.Common.{◌≡◌, ℕ, Bool, true, false, List, [], ◌∷◌, ◌++◌, Some, refl, sym, ap, subst, ◌∙◌, append_assoc}
use Rattle.std.specs.Prelude.{nat_eq, codes, fold}
use Rattle.clap.specs.Words.{Row, Shape, Text, all_of}
use Rattle.clap.specs.Kinds.{or_else}
use Rattle.clap.specs.Faults.{check_fault, defaults_fault, settle_fault, walk_fault}
use Rattle.clap.specs.Walk.{Walk, finished, positional, settled, walked, with_default}
use Rattle.clap.proofs.OnLiterals.{clap_on_literals}
use Rattle.pst_ask.specs.declared.verb.Takes.TheVariants as takes
use Rattle.pst_ask.specs.Ask.{Flags, is_used}
use Rattle.pst_ask.specs.Words.{IsNoOption, to_file}
use Rattle.pst_ask.proofs.PlainLemmas.{ArePlain}
use Rattle.pst_ask.proofs.RunLaws.{Goes, behind_file, flag_row, flag_rows, found, found_row, holds}
use Rattle.pst_ask.proofs.TakesLaws.{OfFile, with_file}
use Rattle.pst_ask.proofs.TopLaws.{Finds, level}

-- the command of a name
abbrev named : Text → Shape
named n = level takes.Paths n

-- the rows of the flags, and with the file and paths
abbrev used_rows : Bool → Bool → Bool → List Row
used_rows p w d = flag_row p (codes "places") ++ flag_row w (codes "whole") ++ flag_row d (codes "decode")

abbrev file_rows : Bool → Bool → Bool → Text → List Row
file_rows p w d file = with_file (used_rows p w d) file

abbrev path_rows : Bool → Bool → Bool → Text → List Text → List Row
path_rows p w d file words = file_rows p w d file ++ found_row (codes "PATH") words ∷ []

-- behind the last of some paths
abbrev behind_path : List Row → Text → Walk
behind_path rows word = holds rows (codes "PATH") word positional 2

-- ---- the first path, the second, and each one behind it

first_goes : (n : Text) (p w d : Bool) (file : Text) (e : ℕ) (more : List ℕ) → nat_eq e 45 ≡ false
    → Goes (named n) (behind_file (used_rows p w d) file) (e ∷ more) (behind_path (file_rows p w d file) (e ∷ more))
unfolding clap_on_literals
first_goes n false false false file e more other = (rw other (rw other refl), rw other (rw other refl))
first_goes n false false true file e more other = (rw other (rw other refl), rw other (rw other refl))
first_goes n false true false file e more other = (rw other (rw other refl), rw other (rw other refl))
first_goes n false true true file e more other = (rw other (rw other refl), rw other (rw other refl))
first_goes n true false false file e more other = (rw other (rw other refl), rw other (rw other refl))
first_goes n true false true file e more other = (rw other (rw other refl), rw other (rw other refl))
first_goes n true true false file e more other = (rw other (rw other refl), rw other (rw other refl))
first_goes n true true true file e more other = (rw other (rw other refl), rw other (rw other refl))

second_goes : (n : Text) (p w d : Bool) (file word : Text) (e : ℕ) (more : List ℕ) → nat_eq e 45 ≡ false
    → Goes (named n) (behind_path (file_rows p w d file) word) (e ∷ more) (behind_path (path_rows p w d file (word ∷ [])) (e ∷ more))
unfolding clap_on_literals
second_goes n false false false file word e more other = (rw other (rw other refl), rw other (rw other refl))
second_goes n false false true file word e more other = (rw other (rw other refl), rw other (rw other refl))
second_goes n false true false file word e more other = (rw other (rw other refl), rw other (rw other refl))
second_goes n false true true file word e more other = (rw other (rw other refl), rw other (rw other refl))
second_goes n true false false file word e more other = (rw other (rw other refl), rw other (rw other refl))
second_goes n true false true file word e more other = (rw other (rw other refl), rw other (rw other refl))
second_goes n true true false file word e more other = (rw other (rw other refl), rw other (rw other refl))
second_goes n true true true file word e more other = (rw other (rw other refl), rw other (rw other refl))

next_goes : (n : Text) (p w d : Bool) (file : Text) (words : List Text) (word : Text) (e : ℕ) (more : List ℕ) → nat_eq e 45 ≡ false
    → Goes (named n) (behind_path (path_rows p w d file words) word) (e ∷ more) (behind_path (path_rows p w d file (words ++ word ∷ [])) (e ∷ more))
unfolding clap_on_literals
next_goes n false false false file words word e more other = (rw other (rw other refl), rw other (rw other refl))
next_goes n false false true file words word e more other = (rw other (rw other refl), rw other (rw other refl))
next_goes n false true false file words word e more other = (rw other (rw other refl), rw other (rw other refl))
next_goes n false true true file words word e more other = (rw other (rw other refl), rw other (rw other refl))
next_goes n true false false file words word e more other = (rw other (rw other refl), rw other (rw other refl))
next_goes n true false true file words word e more other = (rw other (rw other refl), rw other (rw other refl))
next_goes n true true false file words word e more other = (rw other (rw other refl), rw other (rw other refl))
next_goes n true true true file words word e more other = (rw other (rw other refl), rw other (rw other refl))

-- ---- the paths, however many

-- where the walk ends from here on
abbrev end_of : Text → Walk → List Text → Walk
end_of n at rest = fold (walked (named n).rules []) at rest

-- from here on the walk ends without a fault, and has found all of these
abbrev Ends : Text → Bool → Bool → Bool → Text → Walk → List Text → List Text → Type 0
Ends n p w d file at all rest =
    (walk_fault (named n) [] at rest ≡ [])
    × (settle_fault (named n).rules (named n).args_override_self (end_of n at rest).held ≡ [])
    × ((settled (named n).rules (end_of n at rest).held).rows ≡ path_rows p w d file all)

goes_on : (n : Text) (p w d : Bool) (file : Text) (all : List Text) (at next : Walk) (x : Text) (rest : List Text) → Goes (named n) at x next → Ends n p w d file next all rest
    → Ends n p w d file at all (x ∷ rest)
unfolding walk_fault
goes_on n p w d file all at next x rest goes ends =
    let moved : Ends n p w d file (walked (named n).rules [] at x) all rest = subst (λ m. Ends n p w d file m all rest) (sym goes.0) ends in
    (ap (λ k. or_else k (walk_fault (named n) [] (walked (named n).rules [] at x) rest)) goes.1 ∙ moved.0, moved.1, moved.2)

one_ends : (n : Text) (p w d : Bool) (file word : Text) → Ends n p w d file (behind_path (file_rows p w d file) word) (word ∷ []) []
unfolding clap_on_literals
one_ends n false false false file word = (refl, refl, refl)
one_ends n false false true file word = (refl, refl, refl)
one_ends n false true false file word = (refl, refl, refl)
one_ends n false true true file word = (refl, refl, refl)
one_ends n true false false file word = (refl, refl, refl)
one_ends n true false true file word = (refl, refl, refl)
one_ends n true true false file word = (refl, refl, refl)
one_ends n true true true file word = (refl, refl, refl)

last_ends : (n : Text) (p w d : Bool) (file : Text) (words : List Text) (word : Text) → Ends n p w d file (behind_path (path_rows p w d file words) word) (words ++ word ∷ []) []
unfolding clap_on_literals
last_ends n false false false file words word = (refl, refl, refl)
last_ends n false false true file words word = (refl, refl, refl)
last_ends n false true false file words word = (refl, refl, refl)
last_ends n false true true file words word = (refl, refl, refl)
last_ends n true false false file words word = (refl, refl, refl)
last_ends n true false true file words word = (refl, refl, refl)
last_ends n true true false file words word = (refl, refl, refl)
last_ends n true true true file words word = (refl, refl, refl)

more_end : (n : Text) (p w d : Bool) (file : Text) (words : List Text) (word : Text) (rest : List Text) → ArePlain rest
    → Ends n p w d file (behind_path (path_rows p w d file words) word) (words ++ word ∷ rest) rest
more_end n p w d file words word [] plain = last_ends n p w d file words word
more_end n p w d file words word ([] ∷ rest) plain = absurd plain.0
more_end n p w d file words word ((e ∷ more) ∷ rest) plain =
    let next = behind_path (path_rows p w d file (words ++ word ∷ [])) (e ∷ more) in
    goes_on n p w d file (words ++ word ∷ (e ∷ more) ∷ rest) (behind_path (path_rows p w d file words) word) next (e ∷ more) rest (next_goes n p w d file words word e more plain.0)
    (subst (λ l. Ends n p w d file next l rest) (append_assoc words (word ∷ []) ((e ∷ more) ∷ rest)) (more_end n p w d file (words ++ word ∷ []) (e ∷ more) rest plain.1))

paths_end : (n : Text) (p w d : Bool) (file word : Text) (rest : List Text) → ArePlain (word ∷ rest) → Ends n p w d file (behind_file (used_rows p w d) file) (word ∷ rest) (word ∷ rest)
paths_end n p w d file [] rest plain = absurd plain.0
paths_end n p w d file (e ∷ more) [] plain =
    goes_on n p w d file ((e ∷ more) ∷ []) (behind_file (used_rows p w d) file) (behind_path (file_rows p w d file) (e ∷ more)) (e ∷ more) [] (first_goes n p w d file e more plain.0)
    (one_ends n p w d file (e ∷ more))
paths_end n p w d file (e ∷ more) ([] ∷ rest) plain = absurd plain.1.0
paths_end n p w d file (e ∷ more) ((f ∷ others) ∷ rest) plain =
    let all = (e ∷ more) ∷ (f ∷ others) ∷ rest in
    let one = behind_path (file_rows p w d file) (e ∷ more) in
    let two = behind_path (path_rows p w d file ((e ∷ more) ∷ [])) (f ∷ others) in
    goes_on n p w d file all (behind_file (used_rows p w d) file) one (e ∷ more) ((f ∷ others) ∷ rest) (first_goes n p w d file e more plain.0)
    (goes_on n p w d file all one two (f ∷ others) rest (second_goes n p w d file (e ∷ more) f others plain.1.0)
    (more_end n p w d file ((e ∷ more) ∷ []) (f ∷ others) rest plain.1.1))

-- ---- what is found

abbrev all_rows : Text → List Row → List Row
all_rows n rows = fold with_default rows (named n).rules

rows_fault : (n : Text) (p w d : Bool) (file : Text) (all : List Text)
    → or_else (defaults_fault (path_rows p w d file all) (named n).rules) (check_fault (named n) (all_rows n (path_rows p w d file all)) false) ≡ []
unfolding clap_on_literals
rows_fault n false false false file all = refl
rows_fault n false false true file all = refl
rows_fault n false true false file all = refl
rows_fault n false true true file all = refl
rows_fault n true false false file all = refl
rows_fault n true false true file all = refl
rows_fault n true true false file all = refl
rows_fault n true true true file all = refl

abbrev pub OfPaths : List Row → Bool → List Text → Type 0
OfPaths rows places words = (is_used (codes "places") rows ≡ places) × (all_of (codes "PATH") rows ≡ Some words)

rows_are : (n : Text) (p w d : Bool) (file : Text) (all : List Text)
    → OfFile (all_rows n (path_rows p w d file all)) d w file × OfPaths (all_rows n (path_rows p w d file all)) p all
unfolding clap_on_literals
rows_are n false false false file all = ((refl, refl, refl), (refl, refl))
rows_are n false false true file all = ((refl, refl, refl), (refl, refl))
rows_are n false true false file all = ((refl, refl, refl), (refl, refl))
rows_are n false true true file all = ((refl, refl, refl), (refl, refl))
rows_are n true false false file all = ((refl, refl, refl), (refl, refl))
rows_are n true false true file all = ((refl, refl, refl), (refl, refl))
rows_are n true true false file all = ((refl, refl, refl), (refl, refl))
rows_are n true true true file all = ((refl, refl, refl), (refl, refl))

pub paths_found : (n : Text) (flags : Flags) (file word : Text) (rest : List Text) → IsNoOption file → ArePlain (word ∷ rest)
    → (rows : List Row) × Finds (named n) (to_file takes.Paths flags file ++ word ∷ rest) rows × OfFile rows flags.decode flags.whole file × OfPaths rows flags.places (word ∷ rest)
paths_found n flags file word rest no_option plain =
    let p = flags.places in
    let w = flags.whole in
    let d = flags.decode in
    let words = word ∷ rest in
    let at = behind_file (flag_rows takes.Paths flags) file in
    let ends = paths_end n p w d file word rest plain in
    let are = rows_are n p w d file words in
    let rows = all_rows n (path_rows p w d file words) in
    let finds : Finds (named n) (to_file takes.Paths flags file ++ words) (finished (named n).rules (end_of n at words).held) =
    found takes.Paths n flags file words (end_of n at words) tt no_option (refl, ends.0) (record {
      settles = ends.1;
      good = ap (λ r. or_else (defaults_fault r (named n).rules) (check_fault (named n) (all_rows n r) false)) ends.2 ∙ rows_fault n p w d file words;
    }) in
    (rows, subst (λ r. Finds (named n) (to_file takes.Paths flags file ++ words) (all_rows n r)) ends.2 finds, are.0, are.1)
