-- The name of a command, and the words behind it: what the program makes of them is what the command's own level makes of those
-- behind the name.
use Rattle.std.proofs.Common.{◌≡◌, Bool, true, false, List, [], ◌∷◌, ◌++◌, Option, Some, Ok, refl, sym, ap, ◌∙◌, append_assoc, append-nil}
use Rattle.std.specs.Prelude.{find, fold, is_some, option_map}
use Rattle.std.specs.Option.{option_map_or}
use Rattle.clap.specs.Words.{App, Kinds, Row, Rule, Shape, Text, built, fault_of}
use Rattle.clap.specs.Kinds.{or_else}
use Rattle.clap.specs.Faults.{built_fault, check_fault, defaults_fault, entered_fault, level_fault, settle_fault, turn_fault, walk_fault}
use Rattle.clap.specs.Simple.{built_leaf, entered, inherited, label_of, names_of, rows_at, with_leaf_noted}
use Rattle.clap.specs.Walk.{Names, Walk, answers_to, finished, nothing_held, settled, walk, walk_from, walked}
use Rattle.clap.proofs.OnLiterals.{clap_on_literals}
use Rattle.pst_ask.specs.declared.verb.Takes.{Takes}
use Rattle.pst_ask.specs.declared.verb.Verb.{Verb}
use Rattle.pst_ask.specs.declared.verb.Verb.TheVariants.{Check, Damage, Head, Nodes, Folders, Contents, Messages, Props, Value, Export, Explain}
use Rattle.pst_ask.specs.Ask.{Ordered, asked_by, asked_in, asked_with}
use Rattle.pst_ask.specs.Verbs.{name_of, takes_of, verb_of}
use Rattle.pst_ask.specs.Words.{IsAsked, app_taking, asked, show_app}

-- ---- a walk that has met its command takes all words that are left

abbrev stopped_at : Walk → Text → List Text → Walk
stopped_at w name words = record w { stopped = Some (name, words) }

stops : (c : List Rule) (names : Names) (w : Walk) (name : Text) (words rest : List Text) → fold (walked c names) (stopped_at w name words) rest ≡ stopped_at w name (words ++ rest)
unfolding walked
stops c names w name words [] = ap (λ l. stopped_at w name l) (sym (append-nil words))
stops c names w name words (x ∷ rest) =
    stops c names w name (words ++ x ∷ []) rest ∙ ap (λ l. stopped_at w name l) (append_assoc words (x ∷ []) rest)

stops_well : (s : Shape) (names : Names) (w : Walk) (name : Text) (words rest : List Text) → walk_fault s names (stopped_at w name words) rest ≡ []
unfolding walked walk_fault
stops_well s names w name words [] = refl
stops_well s names w name words (x ∷ rest) = stops_well s names w name (words ++ x ∷ []) rest

-- ---- the program, and its commands

abbrev whole : App
whole = built show_app

-- a command of a name, by what stands behind that
abbrev pub level : Takes → Text → Shape
level takes name = built_leaf (inherited (with_leaf_noted show_app.top) (app_taking takes name).top)

abbrev command : Verb → Shape
command v = level (takes_of v) (name_of v)

-- where the walk stands before any word
abbrev pub start : Walk
start = walk_from nothing_held

-- the program meets a command by its name: this is its level, it is no other command, and the walk stops at it, without a fault
record Meets (v : Verb) : Type 0 where
  pub shape : find (λ s. answers_to (name_of v) (label_of s)) whole.subs ≡ Some (command v)
  pub verb : verb_of (command v).name ≡ Some v
  pub walk : walked whole.top.rules (names_of whole) start (name_of v) ≡ stopped_at start (name_of v) []
  pub good : turn_fault whole.top (names_of whole) start (name_of v) ≡ []

meets : (v : Verb) → Meets v
unfolding clap_on_literals
meets Check = record { shape = refl; verb = refl; walk = refl; good = refl }
meets Damage = record { shape = refl; verb = refl; walk = refl; good = refl }
meets Head = record { shape = refl; verb = refl; walk = refl; good = refl }
meets Nodes = record { shape = refl; verb = refl; walk = refl; good = refl }
meets Folders = record { shape = refl; verb = refl; walk = refl; good = refl }
meets Contents = record { shape = refl; verb = refl; walk = refl; good = refl }
meets Messages = record { shape = refl; verb = refl; walk = refl; good = refl }
meets Props = record { shape = refl; verb = refl; walk = refl; good = refl }
meets Value = record { shape = refl; verb = refl; walk = refl; good = refl }
meets Export = record { shape = refl; verb = refl; walk = refl; good = refl }
meets Explain = record { shape = refl; verb = refl; walk = refl; good = refl }

top_stops : (v : Verb) (words : List Text) → fold (walked whole.top.rules (names_of whole)) start (name_of v ∷ words) ≡ stopped_at start (name_of v) words
top_stops v words =
    ap (λ w. fold (walked whole.top.rules (names_of whole)) w words) (meets v).walk ∙ stops whole.top.rules (names_of whole) start (name_of v) [] words

top_good : (v : Verb) (words : List Text) → walk_fault whole.top (names_of whole) start (name_of v ∷ words) ≡ []
unfolding walk_fault
top_good v words =
    ap (λ k. or_else k (walk_fault whole.top (names_of whole) (walked whole.top.rules (names_of whole) start (name_of v)) words)) (meets v).good
    ∙ ap (λ w. walk_fault whole.top (names_of whole) w words) (meets v).walk ∙ stops_well whole.top (names_of whole) start (name_of v) [] words

-- ---- what is made of them

nothing_behind : (kinds : Kinds) → or_else kinds [] ≡ kinds
nothing_behind [] = refl
nothing_behind (k ∷ kinds) = refl

built_is : (a : App) (words : List Text) (w : Walk) → walk a.top.rules (names_of a) nothing_held words ≡ w → walk_fault a.top (names_of a) start words ≡ []
    → built_fault a nothing_held words ≡ or_else (entered_fault a w.stopped) (or_else (settle_fault a.top.rules a.top.args_override_self w.held)
    (or_else (defaults_fault (settled a.top.rules w.held).rows a.top.rules) (check_fault a.top (finished a.top.rules w.held) (is_some (entered a w.stopped)))))
built_is a words w is good = rw (is, good) refl

-- the program itself asks for no more than a command
left_fault : Bool → Kinds
left_fault entered =
    or_else (settle_fault whole.top.rules whole.top.args_override_self nothing_held)
    (or_else (defaults_fault (settled whole.top.rules nothing_held).rows whole.top.rules) (check_fault whole.top (finished whole.top.rules nothing_held) entered))

nothing_left : left_fault true ≡ []
unfolding clap_on_literals left_fault
nothing_left = refl

entered_with : List Text → Option Shape → Kinds
entered_with words found =
    or_else (option_map_or (λ s. level_fault s [] nothing_held words false []) found []) (left_fault (is_some (option_map (λ s. rows_at s words) found)))

top_fault : (v : Verb) (words : List Text) → fault_of show_app (name_of v ∷ words) ≡ level_fault (command v) [] nothing_held words false []
unfolding entered_with left_fault
top_fault v words =
    let there : fault_of show_app (name_of v ∷ words) ≡ entered_with words (find (λ s. answers_to (name_of v) (label_of s)) whole.subs) =
    built_is whole (name_of v ∷ words) (stopped_at start (name_of v) words) (top_stops v words) (top_good v words) in
    there ∙ ap (entered_with words) (meets v).shape ∙ ap (or_else (level_fault (command v) [] nothing_held words false [])) nothing_left
    ∙ nothing_behind (level_fault (command v) [] nothing_held words false [])

top_asked : (v : Verb) (words : List Text) → asked (name_of v ∷ words) ≡ asked_by v (finished (command v).rules (walk (command v).rules [] nothing_held words).held)
unfolding asked
top_asked v words =
    ap (λ w. asked_in (entered whole w.stopped)) (top_stops v words) ∙ ap (λ o. asked_in (option_map (λ s. rows_at s words) o)) (meets v).shape
    ∙ ap (λ o. asked_with o (finished (command v).rules (walk (command v).rules [] nothing_held words).held)) (meets v).verb

-- a level takes these words, and finds these rows
pub record Finds (s : Shape) (words : List Text) (rows : List Row) : Type 0 where
  pub good : level_fault s [] nothing_held words false [] ≡ []
  pub are : finished s.rules (walk s.rules [] nothing_held words).held ≡ rows

-- the words of a command ask for what its rows ask for
pub is_asked : (v : Verb) (words : List Text) (rows : List Row) (order : Ordered) → Finds (level (takes_of v) (name_of v)) words rows → asked_by v rows ≡ Ok order
    → IsAsked (name_of v ∷ words) order
is_asked v words rows order finds asks = record {
  accepted = top_fault v words ∙ finds.good;
  is = top_asked v words ∙ ap (asked_by v) finds.are ∙ asks;
}
