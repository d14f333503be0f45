-- What the matches of the words ask for.
use Rattle.std.proofs.Common.{◌≡◌, ◌+◌, ◌<◌, true, List, [], ◌∷◌, ◌++◌, length, drop, get_or, Option, Some, None, Result, Ok, Err, inl, refl, sym, ap, ◌∙◌, append_assoc, append-nil, ◌≤◌}
use Rattle.std.specs.Prelude.{IfErr, IfOk, option_map, map, ℕ}
use Rattle.std.specs.Borrow.{Bor}
use Rattle.std.proofs.lemmas.List.{at_drop_more, drop_all}
use Rattle.clap.specs.Words.{App, Text, Row, fault_of, all_of, first_of, first_value, found_of, matched_of, raw_values, rows_of, subcommand_name_of, subcommand_rows_of, is_simple, is_simple_and_free, HasMatchesOf}
use Rattle.clap.specs.declared.parser.matches.ArgMatches.{ArgMatches}
use Rattle.clap.specs.declared.parser.matches.ArgMatches.TheViews.{out-ArgMatches}
use Rattle.clap.proofs.OnLiterals.{clap_on_literals}
use Rattle.clap.proofs.WalkLemmas.{first_value-rows, raw_values-rows}
use Rattle.pst_ask.specs.declared.ask.Lack.{Lack}
use Rattle.pst_ask.specs.declared.ask.Lack.TheVariants.{Nid}
use Rattle.pst_ask.specs.Ask.{Reads, asked_in, asked_with, or_lack, order_of}
use Rattle.pst_ask.specs.declared.ask.Order.{Order}
use Rattle.pst_ask.specs.declared.words.NoOrder.{NoOrder}
use Rattle.pst_ask.specs.declared.words.NoOrder.TheVariants.{Words, Lacks}
use Rattle.pst_ask.specs.Nid.{all_named, with_named}
use Rattle.pst_ask.specs.Verbs.{verb_of}
use Rattle.pst_ask.specs.declared.verb.Verb.{Verb}
use Rattle.pst_ask.specs.Words.{Declines, IsAsked, asked, show_app, with_verb, with_verbs}

abbrev paired : {Z : Type 0} → (Z → Text) → (Z → List Row) → Z → Text × List Row
paired f g b = (f b, g b)

both_of : {Z : Type 0} (o : Option Z) (f : Z → Text) (g : Z → List Row) (n : Text) (rows : List Row)
    → Some n ≡ option_map f o → Some rows ≡ option_map (λ (p : Text × List Row). p.1) (option_map (paired f g) o) → option_map (paired f g) o ≡ Some (n, rows)
both_of None f g n rows p q = absurd cc
both_of (Some z) f g n rows p q = cc

-- a command that was used is its name and its rows
pub command_is : (m : ArgMatches) (n : Text) (rows : List Row) → Some n ≡ subcommand_name_of m → Some rows ≡ option_map (λ (p : Text × List Row). p.1) (subcommand_rows_of m)
    → subcommand_rows_of m ≡ Some (n, rows)
command_is m n rows p q = both_of (out-ArgMatches m).subcommand _ _ n rows p q

-- the value of an argument
pub text_is : (m : ArgMatches) (id : Text) → first_value (found_of m) id ≡ first_of id (rows_of (found_of m))
text_is m id = first_value-rows (found_of m) id

-- all values of an argument
pub texts_are : (m : ArgMatches) (id : Text) → option_map raw_values (matched_of (found_of m) id) ≡ all_of id (rows_of (found_of m))
texts_are m id = raw_values-rows (found_of m) id

pub is_free_show : is_simple_and_free show_app ≡ true
unfolding clap_on_literals
is_free_show = refl

is_simple_show : is_simple show_app ≡ true
unfolding clap_on_literals
is_simple_show = refl

-- what the words ask for is what their matches ask for
pub asked_is : (words : List Text) (m : ArgMatches) → HasMatchesOf show_app words m → asked words ≡ asked_in (subcommand_rows_of m)
unfolding asked
asked_is words m h = ap asked_in (sym (h is_simple_show).1)

-- ---- a command by its name

-- what is asked for by the command that was used, with its matches
pub order_is : (m inner : ArgMatches) (n : Text) → Some n ≡ subcommand_name_of m → Some (rows_of (found_of inner)) ≡ option_map (λ (p : Text × List Row). p.1) (subcommand_rows_of m)
    → asked_in (subcommand_rows_of m) ≡ asked_with (verb_of n) (rows_of (found_of inner))
order_is m inner n p q = ap asked_in (command_is m n (rows_of (found_of inner)) p q)

-- one command more
pub verbs_next : (a b : App) (xs : List Verb) (i : ℕ) (d : Verb) (whole : App) → i < length xs → b ≡ with_verb a (get_or xs i d)
    → with_verbs a (drop i xs) ≡ whole → with_verbs b (drop (i + 1) xs) ≡ whole
verbs_next a b xs i d whole inside is so_far =
    ap (λ x. with_verbs x (drop (i + 1) xs)) is ∙ sym (at_drop_more (with_verbs a) xs i d inside) ∙ so_far

-- ---- words that name something, one after another

abbrev texts_of : List (Bor Text) → List Text
texts_of = map (λ w. w.now)

-- one word more
pub named_next : {X : Type 0} (name : Text → Option X) (words : List (Bor Text)) (i : ℕ) (d : Bor Text) (x : X) (so_far : List X) (whole : Option (List X)) → i < length words
    → Some x ≡ name (get_or words i d).now → whole ≡ option_map (λ rest. so_far ++ rest) (all_named name (texts_of (drop i words)))
    → whole ≡ option_map (λ rest. (so_far ++ x ∷ []) ++ rest) (all_named name (texts_of (drop (i + 1) words)))
unfolding all_named
named_next name words i d x so_far whole inside named is =
    let behind = all_named name (texts_of (drop (i + 1) words)) in
    is ∙ ap (option_map (λ rest. so_far ++ rest)) (at_drop_more (λ l. all_named name (texts_of l)) words i d inside)
    ∙ ap (λ o. option_map (λ rest. so_far ++ rest) (with_named o behind)) (sym named) ∙ moved behind so_far x
  where
    moved : {X : Type 0} (o : Option (List X)) (a : List X) (n : X) → option_map (λ rest. a ++ rest) (option_map (λ xs. n ∷ xs) o) ≡ option_map (λ rest. (a ++ n ∷ []) ++ rest) o
    moved None a n = refl
    moved (Some rest) a n = ap (λ l. Some l) (sym (append_assoc a (n ∷ []) rest))

pub mapped_behind : {X Y : Type 0} (f : Y → X) (ys : List Y) (y : Y) → map f (ys ++ y ∷ []) ≡ map f ys ++ f y ∷ []
mapped_behind f [] y = refl
mapped_behind f (z ∷ ys) y = ap (λ l. f z ∷ l) (mapped_behind f ys y)

-- a word that names nothing
pub named_none : {X : Type 0} (name : Text → Option X) (words : List (Bor Text)) (i : ℕ) (d : Bor Text) (so_far : List X) (whole : Option (List X)) → i < length words
    → None ≡ name (get_or words i d).now → whole ≡ option_map (λ rest. so_far ++ rest) (all_named name (texts_of (drop i words))) → whole ≡ None
unfolding all_named
named_none name words i d so_far whole inside named is =
    is ∙ ap (option_map (λ rest. so_far ++ rest)) (at_drop_more (λ l. all_named name (texts_of l)) words i d inside)
    ∙ ap (λ o. option_map (λ rest. so_far ++ rest) (with_named o (all_named name (texts_of (drop (i + 1) words))))) (sym named)

-- no word is left
pub named_end : {X : Type 0} (name : Text → Option X) (words : List (Bor Text)) (i : ℕ) (so_far : List X) (whole : Option (List X)) → length words ≤ i
    → whole ≡ option_map (λ rest. so_far ++ rest) (all_named name (texts_of (drop i words))) → whole ≡ Some so_far
unfolding all_named
named_end name words i so_far whole outside is =
    is ∙ ap (λ l. option_map (λ rest. so_far ++ rest) (all_named name (texts_of l))) (drop_all i words outside) ∙ ap (λ l. Some l) (append-nil so_far)

-- what a word names that does not lack it, and that it names nothing where it does
pub named_there : {X : Type 0} (o : Option X) (x : X) → or_lack Nid o ≡ Ok x → Some x ≡ o
named_there None x is = absurd cc
named_there (Some y) x is = cc

pub named_lacks : {X : Type 0} (o : Option X) (lack : Lack) → or_lack Nid o ≡ Err lack → None ≡ o
named_lacks None lack is = refl
named_lacks (Some x) lack is = absurd cc

-- what is answered where a word is refused
pub named_refused : {X Y Z : Type 0} (name : Text → Option X) (shown : Y → X) (all : Z → List X) (words : List (Bor Text)) (i : ℕ) (d : Bor Text) (so_far : List X) (none : NoOrder)
    (whole : Option (List X)) → i < length words → Reads {X = Y} {Y = X} shown (Err none) (or_lack Nid (name (get_or words i d).now))
    → whole ≡ option_map (λ rest. so_far ++ rest) (all_named name (texts_of (drop i words))) → Reads {X = Z} {Y = List X} all (Err none) (or_lack Nid whole)
named_refused name shown all words i d so_far (Words e) whole inside reads is = reads
named_refused name shown all words i d so_far (Lacks lack) whole inside reads is =
    let o = name (get_or words i d).now in
    ap (or_lack Nid) (named_none name words i d so_far whole inside (named_lacks o lack reads) is) ∙ ap Err (lack_is o lack reads)
  where
    lack_is : {X : Type 0} (o : Option X) (lack : Lack) → or_lack Nid o ≡ Err lack → Nid ≡ lack
    lack_is None lack e = cc
    lack_is (Some x) lack e = absurd cc

-- ---- what is read of the words

pub parsed_ok : (words : List Text) (m : ArgMatches) (r : Result Order NoOrder) → fault_of show_app words ≡ [] → HasMatchesOf show_app words m
    → Reads order_of r (asked_in (subcommand_rows_of m)) → IfOk r (λ order. IsAsked words (order_of order))
parsed_ok words m (Ok order) good has reads = record { accepted = good; is = asked_is words m has ∙ reads }
parsed_ok words m (Err none) good has reads = tt

pub parsed_err : (words : List Text) (m : ArgMatches) (r : Result Order NoOrder) → fault_of show_app words ≡ [] → HasMatchesOf show_app words m
    → Reads order_of r (asked_in (subcommand_rows_of m)) → IfErr r (λ none. Declines words none)
parsed_err words m (Ok order) good has reads = tt
parsed_err words m (Err (Words e)) good has reads = inl reads
parsed_err words m (Err (Lacks lack)) good has reads = (good, asked_is words m has ∙ reads)
