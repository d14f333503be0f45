-- The walk of a command over the words behind its name: the flags that are used, and the file.
use Rattle.std.proofs.Common.{◌≡◌, ℕ, Bool, true, false, List, [], ◌∷◌, ◌++◌, Some, None, refl, ap, subst, ◌∙◌, sym}
use Rattle.std.specs.Prelude.{nat_eq, fold, codes}
use Rattle.clap.specs.Words.{Kinds, Row, Rule, Shape, Text}
use Rattle.clap.specs.Kinds.{or_else}
use Rattle.clap.specs.Faults.{check_fault, defaults_fault, level_fault, settle_fault, turn_fault, walk_fault}
use Rattle.clap.specs.Walk.{Held, Names, Waiting, Walk, finished, idle, nothing_held, settled, walk, walked}
use Rattle.clap.specs.declared.builder.value_parser.Reading.TheVariants.{AsWritten}
use Rattle.clap.specs.declared.parser.matches.ValueSource.TheVariants.{CommandLine}
use Rattle.clap.proofs.OnLiterals.{clap_on_literals}
use Rattle.pst_ask.specs.declared.verb.Takes.{Takes}
use Rattle.pst_ask.specs.declared.verb.Takes.TheVariants.{File, Report, Digest, Node}
use Rattle.pst_ask.specs.declared.verb.Takes.TheVariants as takes
use Rattle.pst_ask.specs.Ask.{Flags}
use Rattle.pst_ask.specs.Words.{IsNoOption, flag_if, own_flags, to_file}
use Rattle.pst_ask.proofs.FileLemmas.{by_file}
use Rattle.pst_ask.proofs.TopLaws.{Finds, level, start}

-- ---- one word, and several

abbrev pub Goes : Shape → Walk → Text → Walk → Type 0
Goes s w word next = (walked s.rules [] w word ≡ next) × (turn_fault s [] w word ≡ [])

abbrev pub Runs : Shape → Walk → List Text → Walk → Type 0
Runs s w words end = (fold (walked s.rules []) w words ≡ end) × (walk_fault s [] w words ≡ [])

pub stays : (s : Shape) (w : Walk) → Runs s w [] w
unfolding walk_fault
stays s w = (refl, refl)

pub goes_on : (s : Shape) (w next end : Walk) (word : Text) (rest : List Text) → Goes s w word next → Runs s next rest end → Runs s w (word ∷ rest) end
unfolding walk_fault
goes_on s w next end word rest goes runs =
    let moved : Runs s (walked s.rules [] w word) rest end = subst (λ n. Runs s n rest end) (sym goes.0) runs in
    (moved.0, ap (λ k. or_else k (walk_fault s [] (walked s.rules [] w word) rest)) goes.1 ∙ moved.1)

walk_behind : (c : List Rule) (names : Names) (w : Walk) (xs ys : List Text) → fold (walked c names) w (xs ++ ys) ≡ fold (walked c names) (fold (walked c names) w xs) ys
walk_behind c names w [] ys = refl
walk_behind c names w (x ∷ xs) ys = walk_behind c names (walked c names w x) xs ys

both_none : (kinds rest : Kinds) → or_else kinds rest ≡ [] → (kinds ≡ []) × (rest ≡ [])
both_none [] rest is = (refl, is)
both_none (k ∷ kinds) rest is = absurd cc

fault_behind : (s : Shape) (names : Names) (w : Walk) (xs ys : List Text) → walk_fault s names w xs ≡ [] → walk_fault s names (fold (walked s.rules names) w xs) ys ≡ []
    → walk_fault s names w (xs ++ ys) ≡ []
unfolding walk_fault
fault_behind s names w [] ys good behind = behind
fault_behind s names w (x ∷ xs) ys good behind =
    let parts = both_none (turn_fault s names w x) (walk_fault s names (walked s.rules names w x) xs) good in
    let rest = fault_behind s names (walked s.rules names w x) xs ys parts.1 behind in
    ap (λ k. or_else k (walk_fault s names (walked s.rules names w x) (xs ++ ys))) parts.0 ∙ rest

pub runs_on : (s : Shape) (w mid end : Walk) (xs ys : List Text) → Runs s w xs mid → Runs s mid ys end → Runs s w (xs ++ ys) end
runs_on s w mid end xs ys first then = (
  walk_behind s.rules [] w xs ys ∙ ap (λ m. fold (walked s.rules []) m ys) first.0 ∙ then.0,
  fault_behind s [] w xs ys first.1 (ap (λ m. walk_fault s [] m ys) first.0 ∙ then.1),
)

-- ---- where a walk ends

-- what is held ends well
pub record Ends (s : Shape) (h : Held) : Type 0 where
  pub settles : settle_fault s.rules s.args_override_self h ≡ []
  pub good : or_else (defaults_fault (settled s.rules h).rows s.rules) (check_fault s (finished s.rules h) false) ≡ []

level_good : (s : Shape) (words : List Text) (end : Walk) → Runs s start words end → Ends s end.held → level_fault s [] nothing_held words false [] ≡ []
level_good s words end runs ends =
    ap (λ k. or_else k (or_else (settle_fault s.rules s.args_override_self held) rest)) runs.1
    ∙ ap (λ w. or_else (settle_fault s.rules s.args_override_self w.held)
    (or_else (defaults_fault (settled s.rules w.held).rows s.rules) (check_fault s (finished s.rules w.held) false))) runs.0
    ∙ ap (λ k. or_else k (or_else (defaults_fault (settled s.rules end.held).rows s.rules) (check_fault s (finished s.rules end.held) false))) ends.settles
    ∙ ends.good
  where
    held : Held
    held = (walk s.rules [] nothing_held words).held

    rest : Kinds
    rest = or_else (defaults_fault (settled s.rules held).rows s.rules) (check_fault s (finished s.rules held) false)

pub finds : (s : Shape) (words : List Text) (end : Walk) → Runs s start words end → Ends s end.held → Finds s words (finished s.rules end.held)
finds s words end runs ends = record {
  good = level_good s words end runs ends;
  are = ap (λ w. finished s.rules w.held) runs.0;
}

-- ---- what is found for a flag that is used, and for a word

abbrev pub found_row : Text → List Text → Row
found_row id values = record { id = id; values = values; count = None; source = Some CommandLine; reading = AsWritten }

abbrev pub flag_row : Bool → Text → List Row
flag_row true id = found_row id (codes "true" ∷ []) ∷ []
flag_row false id = []

-- the rows of a command's own flags, and of all its flags
abbrev own_rows : Takes → Flags → List Row
own_rows File flags = []
own_rows Report flags = flag_row flags.strict (codes "strict") ++ flag_row flags.digest (codes "digest")
own_rows Digest flags = flag_row flags.digest (codes "digest")
own_rows takes.Whole flags = flag_row flags.whole (codes "whole")
own_rows Node flags = flag_row flags.whole (codes "whole")
own_rows takes.Paths flags = flag_row flags.places (codes "places") ++ flag_row flags.whole (codes "whole")
own_rows takes.Property flags = flag_row flags.text (codes "text") ++ flag_row flags.whole (codes "whole")
own_rows takes.Kind flags = []

abbrev pub flag_rows : Takes → Flags → List Row
flag_rows takes flags = own_rows takes flags ++ flag_row flags.decode (codes "decode")

-- between two words: rows that were found, and a word that waits to be one
abbrev pub before : List Row → ℕ → Walk
before rows position = record { held = record { rows = rows; pending = None; skip = 0 }; waiting = idle; position = position; is_trailing = false; stopped = None }

abbrev pub holds : List Row → Text → Text → Waiting → ℕ → Walk
holds rows id word waiting position =
    record { held = record { rows = rows; pending = Some (id, word ∷ []); skip = 0 }; waiting = waiting; position = position; is_trailing = false; stopped = None }

abbrev pub behind_file : List Row → Text → Walk
behind_file rows file = holds rows (codes "FILE") file idle 2

-- ---- the flags

abbrev FlagsRun : Takes → Text → Flags → Type 0
FlagsRun takes name flags = Runs (level takes name) start (own_flags takes flags ++ flag_if flags.decode (codes "--decode")) (before (flag_rows takes flags) 1)

abbrev flags_with : Bool → Bool → Bool → Bool → Bool → Bool → Flags
flags_with strict digest places text whole decode =
    record { strict = strict; digest = digest; places = places; text = text; whole = whole; decode = decode }

file_flags : (n : Text) (s g p t w d : Bool) → FlagsRun File n (flags_with s g p t w d)
unfolding clap_on_literals
file_flags n s g p t w false = (refl, refl)
file_flags n s g p t w true = (refl, refl)

whole_flags : (n : Text) (s g p t w d : Bool) → FlagsRun takes.Whole n (flags_with s g p t w d)
unfolding clap_on_literals
whole_flags n s g p t false false = (refl, refl)
whole_flags n s g p t false true = (refl, refl)
whole_flags n s g p t true false = (refl, refl)
whole_flags n s g p t true true = (refl, refl)

node_flags : (n : Text) (s g p t w d : Bool) → FlagsRun Node n (flags_with s g p t w d)
unfolding clap_on_literals
node_flags n s g p t false false = (refl, refl)
node_flags n s g p t false true = (refl, refl)
node_flags n s g p t true false = (refl, refl)
node_flags n s g p t true true = (refl, refl)

report_flags : (n : Text) (s g p t w d : Bool) → FlagsRun Report n (flags_with s g p t w d)
unfolding clap_on_literals
report_flags n false false p t w false = (refl, refl)
report_flags n false false p t w true = (refl, refl)
report_flags n false true p t w false = (refl, refl)
report_flags n false true p t w true = (refl, refl)
report_flags n true false p t w false = (refl, refl)
report_flags n true false p t w true = (refl, refl)
report_flags n true true p t w false = (refl, refl)
report_flags n true true p t w true = (refl, refl)

digest_flags : (n : Text) (s g p t w d : Bool) → FlagsRun Digest n (flags_with s g p t w d)
unfolding clap_on_literals
digest_flags n s false p t w false = (refl, refl)
digest_flags n s false p t w true = (refl, refl)
digest_flags n s true p t w false = (refl, refl)
digest_flags n s true p t w true = (refl, refl)

paths_flags : (n : Text) (s g p t w d : Bool) → FlagsRun takes.Paths n (flags_with s g p t w d)
unfolding clap_on_literals
paths_flags n s g false t false false = (refl, refl)
paths_flags n s g false t false true = (refl, refl)
paths_flags n s g false t true false = (refl, refl)
paths_flags n s g false t true true = (refl, refl)
paths_flags n s g true t false false = (refl, refl)
paths_flags n s g true t false true = (refl, refl)
paths_flags n s g true t true false = (refl, refl)
paths_flags n s g true t true true = (refl, refl)

property_flags : (n : Text) (s g p t w d : Bool) → FlagsRun takes.Property n (flags_with s g p t w d)
unfolding clap_on_literals
property_flags n s g p false false false = (refl, refl)
property_flags n s g p false false true = (refl, refl)
property_flags n s g p false true false = (refl, refl)
property_flags n s g p false true true = (refl, refl)
property_flags n s g p true false false = (refl, refl)
property_flags n s g p true false true = (refl, refl)
property_flags n s g p true true false = (refl, refl)
property_flags n s g p true true true = (refl, refl)

-- ---- the file

abbrev pub HasFile : Takes → Type 0
HasFile takes.Kind = ⊥
HasFile takes = Unit {0}

abbrev FileGoes : Takes → Text → List Row → Text → Type 0
FileGoes takes name rows file = Goes (level takes name) (before rows 1) file (behind_file rows file)

file_other : (takes : Takes) (n : Text) (rows : List Row) → HasFile takes → (b : ℕ) (rest : List ℕ) → nat_eq b 45 ≡ false → FileGoes takes n rows (b ∷ rest)
unfolding clap_on_literals
file_other File n rows has b rest other = (rw other (rw other refl), rw other (rw other refl))
file_other Report n rows has b rest other = (rw other (rw other refl), rw other (rw other refl))
file_other Digest n rows has b rest other = (rw other (rw other refl), rw other (rw other refl))
file_other takes.Whole n rows has b rest other = (rw other (rw other refl), rw other (rw other refl))
file_other Node n rows has b rest other = (rw other (rw other refl), rw other (rw other refl))
file_other takes.Paths n rows has b rest other = (rw other (rw other refl), rw other (rw other refl))
file_other takes.Property n rows has b rest other = (rw other (rw other refl), rw other (rw other refl))
file_other takes.Kind n rows has b rest other = absurd has

file_empty : (takes : Takes) (n : Text) (rows : List Row) → HasFile takes → FileGoes takes n rows []
unfolding clap_on_literals
file_empty File n rows has = (refl, refl)
file_empty Report n rows has = (refl, refl)
file_empty Digest n rows has = (refl, refl)
file_empty takes.Whole n rows has = (refl, refl)
file_empty Node n rows has = (refl, refl)
file_empty takes.Paths n rows has = (refl, refl)
file_empty takes.Property n rows has = (refl, refl)
file_empty takes.Kind n rows has = absurd has

file_hyphen : (takes : Takes) (n : Text) (rows : List Row) → HasFile takes → FileGoes takes n rows (45 ∷ [])
unfolding clap_on_literals
file_hyphen File n rows has = (refl, refl)
file_hyphen Report n rows has = (refl, refl)
file_hyphen Digest n rows has = (refl, refl)
file_hyphen takes.Whole n rows has = (refl, refl)
file_hyphen Node n rows has = (refl, refl)
file_hyphen takes.Paths n rows has = (refl, refl)
file_hyphen takes.Property n rows has = (refl, refl)
file_hyphen takes.Kind n rows has = absurd has

file_goes : (takes : Takes) (n : Text) (rows : List Row) → HasFile takes → (file : Text) → IsNoOption file → FileGoes takes n rows file
file_goes takes n rows has = by_file (FileGoes takes n rows) (file_empty takes n rows has) (file_hyphen takes n rows has) (file_other takes n rows has)

-- ---- the words up to the file, and those behind it

with_file : (takes : Takes) (n : Text) (flags : Flags) (file : Text) → HasFile takes → IsNoOption file → FlagsRun takes n flags
    → Runs (level takes n) start (own_flags takes flags ++ flag_if flags.decode (codes "--decode") ++ file ∷ []) (behind_file (flag_rows takes flags) file)
with_file takes n flags file has no_option runs =
    let s = level takes n in
    let rows = flag_rows takes flags in
    let own = own_flags takes flags in
    let decode = flag_if flags.decode (codes "--decode") in
    let end = behind_file rows file in
    let last = goes_on s (before rows 1) end end file [] (file_goes takes n rows has file no_option) (stays s end) in
    runs_on s start (before rows 1) end (own ++ decode) (file ∷ []) runs last

front : (takes : Takes) (n : Text) (flags : Flags) (file : Text) → HasFile takes → IsNoOption file → Runs (level takes n) start (to_file takes flags file) (behind_file (flag_rows takes flags) file)
front File n f file has no_option = with_file File n f file has no_option (file_flags n f.strict f.digest f.places f.text f.whole f.decode)
front Report n f file has no_option = with_file Report n f file has no_option (report_flags n f.strict f.digest f.places f.text f.whole f.decode)
front Digest n f file has no_option = with_file Digest n f file has no_option (digest_flags n f.strict f.digest f.places f.text f.whole f.decode)
front takes.Whole n f file has no_option = with_file takes.Whole n f file has no_option (whole_flags n f.strict f.digest f.places f.text f.whole f.decode)
front Node n f file has no_option = with_file Node n f file has no_option (node_flags n f.strict f.digest f.places f.text f.whole f.decode)
front takes.Paths n f file has no_option = with_file takes.Paths n f file has no_option (paths_flags n f.strict f.digest f.places f.text f.whole f.decode)
front takes.Property n f file has no_option = with_file takes.Property n f file has no_option (property_flags n f.strict f.digest f.places f.text f.whole f.decode)
front takes.Kind n f file has no_option = absurd has

-- what is found where the words behind the file run on to an end
pub found : (takes : Takes) (n : Text) (flags : Flags) (file : Text) (words : List Text) (end : Walk) → HasFile takes → IsNoOption file
    → Runs (level takes n) (behind_file (flag_rows takes flags) file) words end → Ends (level takes n) end.held
    → Finds (level takes n) (to_file takes flags file ++ words) (finished (level takes n).rules end.held)
found takes n flags file words end has no_option runs ends =
    let s = level takes n in
    finds s (to_file takes flags file ++ words) end
    (runs_on s start (behind_file (flag_rows takes flags) file) end (to_file takes flags file) words (front takes n flags file has no_option) runs) ends
