-- What a command finds of its words, by what it takes: a file, flags, and behind the file a node, or a path and a property.
use Rattle.std.proofs.Common.{◌≡◌, ℕ, Bool, true, false, List, [], ◌∷◌, ◌++◌, Some, None, refl}
use Rattle.std.specs.Prelude.{nat_eq, codes}
use Rattle.clap.specs.Words.{Row, Text, first_of}
use Rattle.clap.specs.Walk.{Walk, finished, idle}
use Rattle.clap.proofs.OnLiterals.{clap_on_literals}
use Rattle.pst_ask.specs.declared.verb.Takes.{Takes}
use Rattle.pst_ask.specs.declared.verb.Takes.TheVariants.{File, Report, Digest, Node}
use Rattle.pst_ask.specs.declared.verb.Takes.TheVariants as takes
use Rattle.pst_ask.specs.Ask.{Flags, is_used}
use Rattle.pst_ask.specs.Words.{IsNoOption, to_file}
use Rattle.pst_ask.proofs.PlainLemmas.{IsPlain}
use Rattle.pst_ask.proofs.RunLaws.{Ends, Goes, behind_file, finds, flag_row, flag_rows, found, found_row, goes_on, holds, stays}
use Rattle.pst_ask.proofs.TopLaws.{Finds, level, start}

-- the file of these rows, whether it is decoded first, and whether what is whole of it is read
abbrev pub OfFile : List Row → Bool → Bool → Text → Type 0
OfFile rows decode whole file =
    (is_used (codes "decode") rows ≡ decode) × (is_used (codes "whole") rows ≡ whole) × (first_of (codes "FILE") rows ≡ Some file)

-- the rows at an end
abbrev rows_at : Takes → Text → Walk → List Row
rows_at takes name end = finished (level takes name).rules end.held

-- ---- nothing behind the file

-- the rows that `Report` leaves, with its flags
abbrev report_rows : Bool → Bool → Bool → List Row
report_rows s g d = flag_row s (codes "strict") ++ flag_row g (codes "digest") ++ flag_row d (codes "decode")

abbrev FileEnds : Text → Bool → Text → Type 0
FileEnds n d file =
    let end = behind_file (flag_row d (codes "decode")) file in
    Ends (level File n) end.held × OfFile (rows_at File n end) d false file

file_ends : (n : Text) (d : Bool) (file : Text) → FileEnds n d file
unfolding clap_on_literals
file_ends n false file = (record { settles = refl; good = refl }, (refl, refl, refl))
file_ends n true file = (record { settles = refl; good = refl }, (refl, refl, refl))

abbrev OfReport : List Row → Bool → Bool → Type 0
OfReport rows s g = (is_used (codes "strict") rows ≡ s) × (is_used (codes "digest") rows ≡ g)

abbrev ReportEnds : Text → Bool → Bool → Bool → Text → Type 0
ReportEnds n s g d file =
    let end = behind_file (report_rows s g d) file in
    Ends (level Report n) end.held × OfFile (rows_at Report n end) d false file × OfReport (rows_at Report n end) s g

report_ends : (n : Text) (s g d : Bool) (file : Text) → ReportEnds n s g d file
unfolding clap_on_literals
report_ends n false false false file = (record { settles = refl; good = refl }, (refl, refl, refl), (refl, refl))
report_ends n false false true file = (record { settles = refl; good = refl }, (refl, refl, refl), (refl, refl))
report_ends n false true false file = (record { settles = refl; good = refl }, (refl, refl, refl), (refl, refl))
report_ends n false true true file = (record { settles = refl; good = refl }, (refl, refl, refl), (refl, refl))
report_ends n true false false file = (record { settles = refl; good = refl }, (refl, refl, refl), (refl, refl))
report_ends n true false true file = (record { settles = refl; good = refl }, (refl, refl, refl), (refl, refl))
report_ends n true true false file = (record { settles = refl; good = refl }, (refl, refl, refl), (refl, refl))
report_ends n true true true file = (record { settles = refl; good = refl }, (refl, refl, refl), (refl, refl))

-- the rows that `Digest` leaves, with its flag
abbrev digest_rows : Bool → Bool → List Row
digest_rows g d = flag_row g (codes "digest") ++ flag_row d (codes "decode")

abbrev DigestEnds : Text → Bool → Bool → Text → Type 0
DigestEnds n g d file =
    let end = behind_file (digest_rows g d) file in
    Ends (level Digest n) end.held × OfFile (rows_at Digest n end) d false file × (is_used (codes "digest") (rows_at Digest n end) ≡ g)

digest_ends : (n : Text) (g d : Bool) (file : Text) → DigestEnds n g d file
unfolding clap_on_literals
digest_ends n false false file = (record { settles = refl; good = refl }, (refl, refl, refl), refl)
digest_ends n false true file = (record { settles = refl; good = refl }, (refl, refl, refl), refl)
digest_ends n true false file = (record { settles = refl; good = refl }, (refl, refl, refl), refl)
digest_ends n true true file = (record { settles = refl; good = refl }, (refl, refl, refl), refl)

-- the rows that `Whole` leaves, with its flag; `Node` leaves the same
abbrev whole_rows : Bool → Bool → List Row
whole_rows w d = flag_row w (codes "whole") ++ flag_row d (codes "decode")

abbrev WholeEnds : Text → Bool → Bool → Text → Type 0
WholeEnds n w d file =
    let end = behind_file (whole_rows w d) file in
    Ends (level takes.Whole n) end.held × OfFile (rows_at takes.Whole n end) d w file

whole_ends : (n : Text) (w d : Bool) (file : Text) → WholeEnds n w d file
unfolding clap_on_literals
whole_ends n false false file = (record { settles = refl; good = refl }, (refl, refl, refl))
whole_ends n false true file = (record { settles = refl; good = refl }, (refl, refl, refl))
whole_ends n true false file = (record { settles = refl; good = refl }, (refl, refl, refl))
whole_ends n true true file = (record { settles = refl; good = refl }, (refl, refl, refl))

-- ---- a node behind the file

-- the rows with the file
abbrev pub with_file : List Row → Text → List Row
with_file rows file = rows ++ found_row (codes "FILE") (file ∷ []) ∷ []

abbrev behind_node : Bool → Bool → Text → Text → Walk
behind_node w d file word = holds (with_file (whole_rows w d) file) (codes "NID") word idle 3

node_goes : (n : Text) (w d : Bool) (file : Text) (e : ℕ) (more : List ℕ) → nat_eq e 45 ≡ false
    → Goes (level Node n) (behind_file (whole_rows w d) file) (e ∷ more) (behind_node w d file (e ∷ more))
unfolding clap_on_literals
node_goes n false false file e more other = (rw other (rw other refl), rw other (rw other refl))
node_goes n false true file e more other = (rw other (rw other refl), rw other (rw other refl))
node_goes n true false file e more other = (rw other (rw other refl), rw other (rw other refl))
node_goes n true true file e more other = (rw other (rw other refl), rw other (rw other refl))

abbrev NodeEnds : Text → Bool → Bool → Text → Text → Type 0
NodeEnds n w d file word =
    let end = behind_node w d file word in
    Ends (level Node n) end.held × OfFile (rows_at Node n end) d w file × (first_of (codes "NID") (rows_at Node n end) ≡ Some word)

node_ends : (n : Text) (w d : Bool) (file word : Text) → NodeEnds n w d file word
unfolding clap_on_literals
node_ends n false false file word = (record { settles = refl; good = refl }, (refl, refl, refl), refl)
node_ends n false true file word = (record { settles = refl; good = refl }, (refl, refl, refl), refl)
node_ends n true false file word = (record { settles = refl; good = refl }, (refl, refl, refl), refl)
node_ends n true true file word = (record { settles = refl; good = refl }, (refl, refl, refl), refl)

-- ---- a path and a property behind the file

abbrev property_rows : Bool → Bool → Bool → List Row
property_rows t w d = flag_row t (codes "text") ++ flag_row w (codes "whole") ++ flag_row d (codes "decode")

abbrev behind_path : Bool → Bool → Bool → Text → Text → Walk
behind_path t w d file path = holds (with_file (property_rows t w d) file) (codes "PATH") path idle 3

abbrev behind_property : Bool → Bool → Bool → Text → Text → Text → Walk
behind_property t w d file path id = holds (with_file (property_rows t w d) file ++ found_row (codes "PATH") (path ∷ []) ∷ []) (codes "ID") id idle 4

path_goes : (n : Text) (t w d : Bool) (file : Text) (e : ℕ) (more : List ℕ) → nat_eq e 45 ≡ false
    → Goes (level takes.Property n) (behind_file (property_rows t w d) file) (e ∷ more) (behind_path t w d file (e ∷ more))
unfolding clap_on_literals
path_goes n false false false file e more other = (rw other (rw other refl), rw other (rw other refl))
path_goes n false false true file e more other = (rw other (rw other refl), rw other (rw other refl))
path_goes n false true false file e more other = (rw other (rw other refl), rw other (rw other refl))
path_goes n false true true file e more other = (rw other (rw other refl), rw other (rw other refl))
path_goes n true false false file e more other = (rw other (rw other refl), rw other (rw other refl))
path_goes n true false true file e more other = (rw other (rw other refl), rw other (rw other refl))
path_goes n true true false file e more other = (rw other (rw other refl), rw other (rw other refl))
path_goes n true true true file e more other = (rw other (rw other refl), rw other (rw other refl))

property_goes : (n : Text) (t w d : Bool) (file path : Text) (e : ℕ) (more : List ℕ) → nat_eq e 45 ≡ false
    → Goes (level takes.Property n) (behind_path t w d file path) (e ∷ more) (behind_property t w d file path (e ∷ more))
unfolding clap_on_literals
property_goes n false false false file path e more other = (rw other (rw other refl), rw other (rw other refl))
property_goes n false false true file path e more other = (rw other (rw other refl), rw other (rw other refl))
property_goes n false true false file path e more other = (rw other (rw other refl), rw other (rw other refl))
property_goes n false true true file path e more other = (rw other (rw other refl), rw other (rw other refl))
property_goes n true false false file path e more other = (rw other (rw other refl), rw other (rw other refl))
property_goes n true false true file path e more other = (rw other (rw other refl), rw other (rw other refl))
property_goes n true true false file path e more other = (rw other (rw other refl), rw other (rw other refl))
property_goes n true true true file path e more other = (rw other (rw other refl), rw other (rw other refl))

abbrev OfProperty : List Row → Bool → Text → Text → Type 0
OfProperty rows t path id = (is_used (codes "text") rows ≡ t) × (first_of (codes "PATH") rows ≡ Some path) × (first_of (codes "ID") rows ≡ Some id)

abbrev PropertyEnds : Text → Bool → Bool → Bool → Text → Text → Text → Type 0
PropertyEnds n t w d file path id =
    let end = behind_property t w d file path id in
    Ends (level takes.Property n) end.held × OfFile (rows_at takes.Property n end) d w file × OfProperty (rows_at takes.Property n end) t path id

property_ends : (n : Text) (t w d : Bool) (file path id : Text) → PropertyEnds n t w d file path id
unfolding clap_on_literals
property_ends n false false false file path id = (record { settles = refl; good = refl }, (refl, refl, refl), (refl, refl, refl))
property_ends n false false true file path id = (record { settles = refl; good = refl }, (refl, refl, refl), (refl, refl, refl))
property_ends n false true false file path id = (record { settles = refl; good = refl }, (refl, refl, refl), (refl, refl, refl))
property_ends n false true true file path id = (record { settles = refl; good = refl }, (refl, refl, refl), (refl, refl, refl))
property_ends n true false false file path id = (record { settles = refl; good = refl }, (refl, refl, refl), (refl, refl, refl))
property_ends n true false true file path id = (record { settles = refl; good = refl }, (refl, refl, refl), (refl, refl, refl))
property_ends n true true false file path id = (record { settles = refl; good = refl }, (refl, refl, refl), (refl, refl, refl))
property_ends n true true true file path id = (record { settles = refl; good = refl }, (refl, refl, refl), (refl, refl, refl))

-- ---- what is found

-- of a command that takes a file alone
pub file_found : (n : Text) (flags : Flags) (file : Text) → IsNoOption file
    → (rows : List Row) × Finds (level File n) (to_file File flags file ++ []) rows × OfFile rows flags.decode false file
file_found n flags file no_option =
    let end = behind_file (flag_rows File flags) file in
    let ends = file_ends n flags.decode file in
    (rows_at File n end, found File n flags file [] end tt no_option (stays (level File n) end) ends.0, ends.1)

-- of one that takes the flag of what is whole
pub whole_found : (n : Text) (flags : Flags) (file : Text) → IsNoOption file
    → (rows : List Row) × Finds (level takes.Whole n) (to_file takes.Whole flags file ++ []) rows × OfFile rows flags.decode flags.whole file
whole_found n flags file no_option =
    let end = behind_file (flag_rows takes.Whole flags) file in
    let ends = whole_ends n flags.whole flags.decode file in
    (rows_at takes.Whole n end, found takes.Whole n flags file [] end tt no_option (stays (level takes.Whole n) end) ends.0, ends.1)

-- of one that takes a node
pub node_found : (n : Text) (flags : Flags) (file word : Text) → IsNoOption file → IsPlain word
    → (rows : List Row) × Finds (level Node n) (to_file Node flags file ++ word ∷ []) rows × OfFile rows flags.decode flags.whole file × (first_of (codes "NID") rows ≡ Some word)
node_found n flags file [] no_option plain = absurd plain
node_found n flags file (e ∷ more) no_option plain =
    let s = level Node n in
    let end = behind_node flags.whole flags.decode file (e ∷ more) in
    let ends = node_ends n flags.whole flags.decode file (e ∷ more) in
    let runs = goes_on s (behind_file (flag_rows Node flags) file) end end (e ∷ more) [] (node_goes n flags.whole flags.decode file e more plain) (stays s end) in
    (rows_at Node n end, found Node n flags file ((e ∷ more) ∷ []) end tt no_option runs ends.0, ends.1, ends.2)

-- of one that takes flags of a report
pub report_found : (n : Text) (flags : Flags) (file : Text) → IsNoOption file
    → (rows : List Row) × Finds (level Report n) (to_file Report flags file ++ []) rows × OfFile rows flags.decode false file × OfReport rows flags.strict flags.digest
report_found n flags file no_option =
    let end = behind_file (flag_rows Report flags) file in
    let ends = report_ends n flags.strict flags.digest flags.decode file in
    (rows_at Report n end, found Report n flags file [] end tt no_option (stays (level Report n) end) ends.0, ends.1, ends.2)

-- of one that takes the flag of a digest
pub digest_found : (n : Text) (flags : Flags) (file : Text) → IsNoOption file
    → (rows : List Row) × Finds (level Digest n) (to_file Digest flags file ++ []) rows × OfFile rows flags.decode false file × (is_used (codes "digest") rows ≡ flags.digest)
digest_found n flags file no_option =
    let end = behind_file (flag_rows Digest flags) file in
    let ends = digest_ends n flags.digest flags.decode file in
    (rows_at Digest n end, found Digest n flags file [] end tt no_option (stays (level Digest n) end) ends.0, ends.1, ends.2)

-- of one that takes a path and a property
pub property_found : (n : Text) (flags : Flags) (file path id : Text) → IsNoOption file → IsPlain path → IsPlain id
    → (rows : List Row) × Finds (level takes.Property n) (to_file takes.Property flags file ++ path ∷ id ∷ []) rows × OfFile rows flags.decode flags.whole file × OfProperty rows flags.text path id
property_found n flags file [] id no_option plain plain_id = absurd plain
property_found n flags file (e ∷ more) [] no_option plain plain_id = absurd plain_id
property_found n flags file (e ∷ more) (f ∷ others) no_option plain plain_id =
    let s = level takes.Property n in
    let t = flags.text in
    let w = flags.whole in
    let d = flags.decode in
    let mid = behind_path t w d file (e ∷ more) in
    let end = behind_property t w d file (e ∷ more) (f ∷ others) in
    let ends = property_ends n t w d file (e ∷ more) (f ∷ others) in
    let last = goes_on s mid end end (f ∷ others) [] (property_goes n t w d file (e ∷ more) f others plain_id) (stays s end) in
    let runs = goes_on s (behind_file (flag_rows takes.Property flags) file) mid end (e ∷ more) ((f ∷ others) ∷ []) (path_goes n t w d file e more plain) last in
    (rows_at takes.Property n end, found takes.Property n flags file ((e ∷ more) ∷ (f ∷ others) ∷ []) end tt no_option runs ends.0, ends.1, ends.2)

-- ---- a kind, or nothing, and no file

none_ends : (n : Text) → Ends (level takes.Kind n) start.held × (first_of (codes "KIND") (rows_at takes.Kind n start) ≡ None)
unfolding clap_on_literals
none_ends n = (record { settles = refl; good = refl }, refl)

pub none_found : (n : Text) → (rows : List Row) × Finds (level takes.Kind n) [] rows × (first_of (codes "KIND") rows ≡ None)
none_found n = (rows_at takes.Kind n start, finds (level takes.Kind n) [] start (stays (level takes.Kind n) start) (none_ends n).0, (none_ends n).1)

abbrev behind_kind : Text → Walk
behind_kind word = holds [] (codes "KIND") word idle 2

kind_goes : (n : Text) (e : ℕ) (more : List ℕ) → nat_eq e 45 ≡ false → Goes (level takes.Kind n) start (e ∷ more) (behind_kind (e ∷ more))
unfolding clap_on_literals
kind_goes n e more other = (rw other (rw other refl), rw other (rw other refl))

kind_ends : (n word : Text) → Ends (level takes.Kind n) (behind_kind word).held × (first_of (codes "KIND") (rows_at takes.Kind n (behind_kind word)) ≡ Some word)
unfolding clap_on_literals
kind_ends n word = (record { settles = refl; good = refl }, refl)

pub kind_found : (n word : Text) → IsPlain word → (rows : List Row) × Finds (level takes.Kind n) (word ∷ []) rows × (first_of (codes "KIND") rows ≡ Some word)
kind_found n [] plain = absurd plain
kind_found n (e ∷ more) plain =
    let s = level takes.Kind n in
    let end = behind_kind (e ∷ more) in
    let runs = goes_on s start end end (e ∷ more) [] (kind_goes n e more plain) (stays s end) in
    (rows_at takes.Kind n end, finds s ((e ∷ more) ∷ []) end runs (kind_ends n (e ∷ more)).0, (kind_ends n (e ∷ more)).1)
