-- The law of the words: by what a command takes, and then a line for each command.
use Rattle.std.proofs.Common.{◌≡◌, ℕ, Bool, false, List, [], ◌∷◌, ◌++◌, Option, Some, None, Ok, refl, sym, ap, subst, ◌∙◌}
use Rattle.std.specs.Prelude.{codes, option_map}
use Rattle.clap.specs.Words.{Row, Text, all_of, first_of}
use Rattle.pst_fault.specs.declared.kind.Kind.{Kind}
use Rattle.pst_explain.specs.Kinds.{kind_in_word}
use Rattle.pst_ask.specs.declared.ask.Lack.TheVariants.{Nid}
use Rattle.pst_ask.specs.declared.ask.Lack.TheVariants as lack
use Rattle.pst_ask.specs.declared.verb.Takes.{Takes}
use Rattle.pst_ask.specs.declared.verb.Takes.TheVariants.{File, Report, Digest, Node}
use Rattle.pst_ask.specs.declared.verb.Takes.TheVariants as takes
use Rattle.pst_ask.specs.declared.verb.Verb.{Verb}
use Rattle.pst_ask.specs.declared.verb.Verb.TheVariants.{Check, Damage, Head, Nodes, Folders, Contents, Messages, Props, Value, Export, Explain}
use Rattle.pst_ask.specs.Ask.{Flags, Ordered, Wanted, asked_by, asked_of, asking, both_named, both_of, contents, damage, explain, export, folders, head, is_used, kind_named, messages, node_named, nodes, of_file, of_named, only_kind, only_node, only_property, or_lack, path_named, paths_named, property_named, props, report, show, shows, some_paths, value}
use Rattle.pst_ask.specs.Nid.{path_of_word}
use Rattle.pst_ask.specs.Property.{property_of_word}
use Rattle.pst_ask.specs.Verbs.{name_of, takes_of}
use Rattle.pst_ask.specs.Words.{IsAsked, IsNoOption, WordsLaw, to_file}
use Rattle.pst_ask.proofs.PathsLaws.{paths_found}
use Rattle.pst_ask.proofs.PlainLemmas.{kind_plain, node_plain, path_plain, paths_plain, property_plain}
use Rattle.pst_ask.proofs.TakesLaws.{OfFile, digest_found, file_found, kind_found, node_found, none_found, property_found, report_found, whole_found}
use Rattle.pst_ask.proofs.TopLaws.{Finds, is_asked, level}

-- ---- what is asked for of something that is there

some_is : {X : Type 0} (a b : X) → Some a ≡ Some b → a ≡ b
some_is a b e = cc

made : {X Y : Type 0} (make : X → Y) (o : Option X) (y : Y) → option_map make o ≡ Some y → (x : X) × (o ≡ Some x) × (make x ≡ y)
made make None y is = absurd cc
made make (Some x) y is = (x, refl, some_is (make x) y is)

-- the words ask for what is made of it
asked_so : {X : Type 0} (words : List Text) (make : X → Ordered) (o : Option X) (order : Ordered) → ((x : X) → o ≡ Some x → IsAsked words (make x)) → option_map make o ≡ Some order
    → IsAsked words order
asked_so words make o order asks is =
    let there = made make o order is in
    subst (IsAsked words) there.2 (asks there.0 there.1)

-- ---- by what a command takes

-- what a command shows of a file
abbrev showing : Flags → Bool → Text → Wanted → Ordered
showing flags whole file ask = show (asked_of ask flags.decode whole file)

-- the words of a command whose rows ask for this
shown : (v : Verb) (t : Takes) (flags : Flags) (whole : Bool) (file : Text) (words : List Text) (rows : List Row) (ask : Wanted) → takes_of v ≡ t
    → Finds (level t (name_of v)) words rows → OfFile rows flags.decode whole file → asked_by v rows ≡ of_file rows (Ok ask)
    → IsAsked (name_of v ∷ words) (showing flags whole file ask)
shown v t flags whole file words rows ask which finds of asks =
    is_asked v words rows (showing flags whole file ask) (subst (λ k. Finds (level k (name_of v)) words rows) (sym which) finds)
    (asks ∙ ap (λ d. of_named ask d (is_used (codes "whole") rows) (first_of (codes "FILE") rows)) of.0
    ∙ ap (λ w. of_named ask flags.decode w (first_of (codes "FILE") rows)) of.1 ∙ ap (of_named ask flags.decode whole) of.2)

by_file : (v : Verb) (ask : Wanted) → takes_of v ≡ File → ((rows : List Row) → asked_by v rows ≡ of_file rows (Ok ask)) → (flags : Flags) (file : Text) → IsNoOption file
    → IsAsked (name_of v ∷ (to_file File flags file ++ [])) (showing flags false file ask)
by_file v ask which asks flags file no_option =
    let found = file_found (name_of v) flags file no_option in
    shown v File flags false file (to_file File flags file ++ []) found.0 ask which found.1 found.2 (asks found.0)

by_report : (v : Verb) (make : Bool → Bool → Wanted) → takes_of v ≡ Report
    → ((rows : List Row) → asked_by v rows ≡ of_file rows (Ok (make (is_used (codes "strict") rows) (is_used (codes "digest") rows)))) → (flags : Flags) (file : Text) → IsNoOption file
    → IsAsked (name_of v ∷ (to_file Report flags file ++ [])) (showing flags false file (make flags.strict flags.digest))
by_report v make which asks flags file no_option =
    let found = report_found (name_of v) flags file no_option in
    let rows = found.0 in
    shown v Report flags false file (to_file Report flags file ++ []) rows (make flags.strict flags.digest) which found.1 found.2
    (asks rows ∙ ap (λ s. of_file rows (Ok (make s (is_used (codes "digest") rows)))) found.3.0 ∙ ap (λ g. of_file rows (Ok (make flags.strict g))) found.3.1)

by_digest : (v : Verb) (make : Bool → Wanted) → takes_of v ≡ Digest → ((rows : List Row) → asked_by v rows ≡ of_file rows (Ok (make (is_used (codes "digest") rows))))
    → (flags : Flags) (file : Text) → IsNoOption file → IsAsked (name_of v ∷ (to_file Digest flags file ++ [])) (showing flags false file (make flags.digest))
by_digest v make which asks flags file no_option =
    let found = digest_found (name_of v) flags file no_option in
    let rows = found.0 in
    shown v Digest flags false file (to_file Digest flags file ++ []) rows (make flags.digest) which found.1 found.2 (asks rows ∙ ap (λ g. of_file rows (Ok (make g))) found.3)

by_whole : (v : Verb) (ask : Wanted) → takes_of v ≡ takes.Whole → ((rows : List Row) → asked_by v rows ≡ of_file rows (Ok ask)) → (flags : Flags) (file : Text) → IsNoOption file
    → IsAsked (name_of v ∷ (to_file takes.Whole flags file ++ [])) (showing flags flags.whole file ask)
by_whole v ask which asks flags file no_option =
    let found = whole_found (name_of v) flags file no_option in
    shown v takes.Whole flags flags.whole file (to_file takes.Whole flags file ++ []) found.0 ask which found.1 found.2 (asks found.0)

by_node : (v : Verb) (make : ℕ → Wanted) → takes_of v ≡ Node → ((rows : List Row) → asked_by v rows ≡ of_file rows (asking make (node_named (first_of (codes "NID") rows))))
    → (flags : Flags) (file : Text) (words : List Text) (nid : ℕ) → IsNoOption file → only_node words ≡ Some nid
    → IsAsked (name_of v ∷ (to_file Node flags file ++ words)) (showing flags flags.whole file (make nid))
by_node v make which asks flags file [] nid no_option named = absurd cc
by_node v make which asks flags file (word ∷ []) nid no_option named =
    let found = node_found (name_of v) flags file word no_option (node_plain word nid named) in
    let rows = found.0 in
    shown v Node flags flags.whole file (to_file Node flags file ++ word ∷ []) rows (make nid) which found.1 found.2
    (asks rows ∙ ap (λ w. of_file rows (asking make (node_named w))) found.3 ∙ ap (λ o. of_file rows (asking make (or_lack Nid o))) named)
by_node v make which asks flags file (word ∷ next ∷ rest) nid no_option named = absurd cc

by_paths : (v : Verb) (make : Bool → List (List ℕ) → Wanted) → takes_of v ≡ takes.Paths
    → ((rows : List Row) → asked_by v rows ≡ of_file rows (asking (make (is_used (codes "places") rows)) (paths_named (all_of (codes "PATH") rows))))
    → (flags : Flags) (file : Text) (words : List Text) (paths : List (List ℕ)) → IsNoOption file → some_paths words ≡ Some paths
    → IsAsked (name_of v ∷ (to_file takes.Paths flags file ++ words)) (showing flags flags.whole file (make flags.places paths))
by_paths v make which asks flags file [] paths no_option named = absurd cc
by_paths v make which asks flags file (word ∷ rest) paths no_option named =
    let found = paths_found (name_of v) flags file word rest no_option (paths_plain (word ∷ rest) paths named) in
    let rows = found.0 in
    shown v takes.Paths flags flags.whole file (to_file takes.Paths flags file ++ word ∷ rest) rows (make flags.places paths) which found.1 found.2
    (asks rows ∙ ap (λ p. of_file rows (asking (make p) (paths_named (all_of (codes "PATH") rows)))) found.3.0
    ∙ ap (λ w. of_file rows (asking (make flags.places) (paths_named w))) found.3.1 ∙ ap (λ o. of_file rows (asking (make flags.places) (or_lack Nid o))) named)

-- the path and the property that two words name
two_named : (p : Option (List ℕ)) (o : Option ℕ) (both : List ℕ × ℕ) → both_named p o ≡ Some both → (p ≡ Some both.0) × (o ≡ Some both.1)
two_named None o both is = absurd cc
two_named (Some path) None both is = absurd cc
two_named (Some path) (Some id) both is =
    let same = some_is (path, id) both is in
    (ap (λ b. Some b.0) same, ap (λ b. Some b.1) same)

by_property : (v : Verb) (make : Bool → List ℕ → ℕ → Wanted) → takes_of v ≡ takes.Property
    → ((rows : List Row) → asked_by v rows ≡ of_file rows (both_of (make (is_used (codes "text") rows)) (path_named (first_of (codes "PATH") rows)) (property_named (first_of (codes "ID") rows))))
    → (flags : Flags) (file : Text) (words : List Text) (both : List ℕ × ℕ) → IsNoOption file → only_property words ≡ Some both
    → IsAsked (name_of v ∷ (to_file takes.Property flags file ++ words)) (showing flags flags.whole file (make flags.text both.0 both.1))
by_property v make which asks flags file [] both no_option named = absurd cc
by_property v make which asks flags file (word ∷ []) both no_option named = absurd cc
by_property v make which asks flags file (path ∷ id ∷ []) both no_option named =
    let two = two_named (path_of_word path) (property_of_word id) both named in
    let found = property_found (name_of v) flags file path id no_option (path_plain path both.0 two.0) (property_plain id both.1 two.1) in
    let rows = found.0 in
    let words = to_file takes.Property flags file ++ path ∷ id ∷ [] in
    shown v takes.Property flags flags.whole file words rows (make flags.text both.0 both.1) which found.1 found.2
    (asks rows ∙ ap (λ t. of_file rows (both_of (make t) (path_named (first_of (codes "PATH") rows)) (property_named (first_of (codes "ID") rows)))) found.3.0
    ∙ ap (λ w. of_file rows (both_of (make flags.text) (path_named w) (property_named (first_of (codes "ID") rows)))) found.3.1
    ∙ ap (λ w. of_file rows (both_of (make flags.text) (path_named (Some path)) (property_named w))) found.3.2
    ∙ ap (λ o. of_file rows (both_of (make flags.text) (or_lack Nid o) (property_named (Some id)))) two.0
    ∙ ap (λ o. of_file rows (both_of (make flags.text) (Ok both.0) (or_lack lack.Property o))) two.1)
by_property v make which asks flags file (path ∷ id ∷ next ∷ rest) both no_option named = absurd cc

by_kind : (words : List Text) (kind : Option Kind) → only_kind words ≡ Some kind → IsAsked (name_of Explain ∷ words) (explain kind)
by_kind [] kind named =
    let found = none_found (name_of Explain) in
    is_asked Explain [] found.0 (explain kind) found.1 (ap (λ w. asking explain (kind_named w)) found.2 ∙ ap (λ k. Ok (explain k)) (some_is None kind named))
by_kind (word ∷ []) kind named =
    let there = made Some (kind_in_word word) kind named in
    let found = kind_found (name_of Explain) word (kind_plain word there.0 there.1) in
    is_asked Explain (word ∷ []) found.0 (explain kind) found.1
    (ap (λ w. asking explain (kind_named w)) found.2 ∙ ap (λ o. asking explain (or_lack lack.Kind (option_map Some o))) there.1 ∙ ap (λ k. Ok (explain k)) there.2)
by_kind (word ∷ next ∷ rest) kind named = absurd cc

-- ---- all commands

-- what is shown of something that is named, or of what is whole of it
abbrev Gives : {X : Type 0} → Verb → Flags → Text → List Text → (X → Wanted) → Option X → Type 0
Gives v flags file words make o = (order : Ordered) → shows flags flags.whole file (option_map make o) ≡ Some order → IsAsked (name_of v ∷ words) order

mapped : {X : Type 0} (flags : Flags) (file : Text) (make : X → Wanted) (o : Option X)
    → option_map (λ x. showing flags flags.whole file (make x)) o ≡ shows flags flags.whole file (option_map make o)
mapped flags file make None = refl
mapped flags file make (Some x) = refl

gives : {X : Type 0} (v : Verb) (flags : Flags) (file : Text) (words : List Text) (make : X → Wanted) (o : Option X)
    → ((x : X) → o ≡ Some x → IsAsked (name_of v ∷ words) (showing flags flags.whole file (make x))) → Gives v flags file words make o
gives v flags file words make o asks order is = asked_so (name_of v ∷ words) (λ x. showing flags flags.whole file (make x)) o order asks (mapped flags file make o ∙ is)

exactly : (words : List Text) (one order : Ordered) → Some one ≡ Some order → IsAsked words one → IsAsked words order
exactly words one order is asks = subst (IsAsked words) (some_is one order is) asks

pub words_law : WordsLaw
words_law Check flags file words order no_option is =
    exactly (name_of Check ∷ (to_file Report flags file ++ [])) _ order is (by_report Check report refl (λ rows. refl) flags file no_option)
words_law Damage flags file words order no_option is =
    exactly (name_of Damage ∷ (to_file Digest flags file ++ [])) _ order is (by_digest Damage damage refl (λ rows. refl) flags file no_option)
words_law Head flags file words order no_option is = exactly (name_of Head ∷ (to_file File flags file ++ [])) _ order is (by_file Head head refl (λ rows. refl) flags file no_option)
words_law Nodes flags file words order no_option is = exactly (name_of Nodes ∷ (to_file File flags file ++ [])) _ order is (by_file Nodes nodes refl (λ rows. refl) flags file no_option)
words_law Folders flags file words order no_option is =
    exactly (name_of Folders ∷ (to_file takes.Whole flags file ++ [])) _ order is (by_whole Folders folders refl (λ rows. refl) flags file no_option)
words_law Messages flags file words order no_option is =
    exactly (name_of Messages ∷ (to_file takes.Whole flags file ++ [])) _ order is (by_whole Messages messages refl (λ rows. refl) flags file no_option)
words_law Contents flags file words order no_option is =
    gives Contents flags file (to_file Node flags file ++ words) contents (only_node words) (λ nid. by_node Contents contents refl (λ rows. refl) flags file words nid no_option) order is
words_law Props flags file words order no_option is =
    gives Props flags file (to_file takes.Paths flags file ++ words) (props flags.places) (some_paths words)
    (λ paths. by_paths Props props refl (λ rows. refl) flags file words paths no_option) order is
words_law Value flags file words order no_option is =
    gives Value flags file (to_file takes.Property flags file ++ words) (λ p. value flags.text p.0 p.1) (only_property words)
    (λ both. by_property Value value refl (λ rows. refl) flags file words both no_option) order is
words_law Export flags file words order no_option is =
    exactly (name_of Export ∷ (to_file takes.Whole flags file ++ [])) _ order is (by_whole Export export refl (λ rows. refl) flags file no_option)
words_law Explain flags file words order no_option is = asked_so (name_of Explain ∷ words) explain (only_kind words) order (by_kind words) is
