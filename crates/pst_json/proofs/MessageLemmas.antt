-- The lines of messages, one after another.
use Rattle.std.proofs.Common.{◌≡◌, ◌==◌, ℕ, Bool, true, false, cond, Option, Some, None, List, [], ◌∷◌, ◌++◌, refl, sym, ap, ◌∙◌, arith, append_assoc, append-nil}
use Rattle.std.specs.Prelude.{◌||◌, is_some, map, option_map}
use Rattle.std.specs.List.{concat}
use Rattle.std.proofs.lemmas.Bool.Decides.{nat_tests}
use Rattle.pst_page.specs.declared.entry.NodeEntry.{NodeEntry}
use Rattle.pst_block.specs.Table.{Table}
use Rattle.pst_btree.specs.Entries.{first_with, node_with}
use Rattle.pst_ndb.specs.Roots.{Roots, all_roots, entry_roots, node_in}
use Rattle.pst_verify.specs.pst_msg.pst_mail.declared.nid.TheConstants.{MESSAGE, ASSOCIATED}
use Rattle.pst_verify.specs.pst_msg.Nid.{is_type}
use Rattle.pst_verify.specs.pst_msg.Values.{is_message}
use Rattle.pst_verify.specs.pst_store.Kind.{of_kind, node_of_kind}
use Rattle.pst_json.specs.Listings.{has_message, AreThere}
use Rattle.pst_json.specs.Messages.{listed_in, messages_text, summary_data, summary_line, summary_lines}
use Rattle.pst_value_json.specs.pst_text.Line.{data_line}

-- those of type 04 are among the messages
among_more : (r : Roots) (rs : List Roots) (m a : Bool) → is_type MESSAGE r.top ≡ m → of_kind (is_type MESSAGE) (of_kind is_message rs) ≡ of_kind (is_type MESSAGE) rs
    → of_kind (is_type MESSAGE) (cond (m || a) (r ∷ of_kind is_message rs) (of_kind is_message rs)) ≡ cond m (r ∷ of_kind (is_type MESSAGE) rs) (of_kind (is_type MESSAGE) rs)
among_more r rs true a e same = rw e (ap (λ l. r ∷ l) same)
among_more r rs false true e same = rw e same
among_more r rs false false e same = same

among : (rs : List Roots) → of_kind (is_type MESSAGE) (of_kind is_message rs) ≡ of_kind (is_type MESSAGE) rs
among [] = refl
among (r ∷ rs) = among_more r rs (is_type MESSAGE r.top) (is_type ASSOCIATED r.top) refl (among rs)

-- all lines are those of the messages
pub lines_are : (t : Table) (nodes : List NodeEntry) → summary_lines t nodes (of_kind is_message (all_roots nodes)) ≡ messages_text t nodes
unfolding messages_text
lines_are t nodes = ap (λ rs. concat (map (summary_line t nodes) rs)) (among (all_roots nodes))

-- the line of a message is put behind the text
pub line_put : (t : Table) (nodes : List NodeEntry) (listed : ℕ → List ℕ) (r : Roots) (old left : List Roots) (had has all : List ℕ)
    → listed r.top ≡ listed_in t nodes r.top → is_type MESSAGE r.top ≡ true → old ≡ r ∷ left → has ≡ had ++ data_line (summary_data t r (listed r.top))
    → had ++ summary_lines t nodes old ≡ all → has ++ summary_lines t nodes left ≡ all
unfolding summary_line
line_put t nodes listed r old left had has all are kind is now so_far =
    let line : has ≡ had ++ summary_line t nodes r = now ∙ ap (λ l. had ++ data_line (summary_data t r l)) are in
    rw line (append_assoc had (summary_line t nodes r) (summary_lines t nodes left) ∙ (rw (is, kind) at so_far))

-- one that belongs to a folder itself is passed over
pub line_passed : (t : Table) (nodes : List NodeEntry) (r : Roots) (old left : List Roots) (has all : List ℕ)
    → is_type MESSAGE r.top ≡ false → old ≡ r ∷ left → has ++ summary_lines t nodes old ≡ all → has ++ summary_lines t nodes left ≡ all
line_passed t nodes r old left has all kind is so_far = rw (is, kind) at so_far

-- no message is left
pub lines_end : (t : Table) (nodes : List NodeEntry) (left : List Roots) (has all : List ℕ) → left ≡ [] → has ++ summary_lines t nodes left ≡ all → has ≡ all
lines_end t nodes left has all is so_far = sym (append-nil has) ∙ (rw is at so_far)

-- ---- messages that are gone through are there

found_behind : (nid : ℕ) (e : NodeEntry) (es : List NodeEntry) → is_some (node_with nid es) ≡ true → is_some (node_with nid (e ∷ es)) ≡ true
unfolding first_with
found_behind nid e es found = by_test (e.nid == nid)
  where
    by_test : (b : Bool) → is_some (cond b (Some e) (node_with nid es)) ≡ true
    by_test true = refl
    by_test false = found

found_here : (e : NodeEntry) (es : List NodeEntry) → is_some (node_with e.nid (e ∷ es)) ≡ true
unfolding first_with
found_here e es = by_test (e.nid == e.nid) (grind (arith, nat_tests))
  where
    by_test : (b : Bool) → b ≡ true → is_some (cond b (Some e) (node_with e.nid es)) ≡ true
    by_test b is = rw is refl

some_mapped : (o : Option NodeEntry) → is_some o ≡ true → is_some (option_map entry_roots o) ≡ true
some_mapped None found = found
some_mapped (Some e) found = refl

has_message_at : (nodes : List NodeEntry) (nid : ℕ) → is_message nid ≡ true → is_some (node_with nid nodes) ≡ true → has_message nodes nid ≡ true
unfolding node_of_kind node_in
has_message_at nodes nid kind found = rw kind (some_mapped (node_with nid nodes) found)

there_in : (nodes es : List NodeEntry) → ((nid : ℕ) → is_some (node_with nid es) ≡ true → is_some (node_with nid nodes) ≡ true) → AreThere nodes (of_kind is_message (all_roots es))
there_in nodes [] more = tt
there_in nodes (e ∷ es) more = by_kind (there_in nodes es (λ nid found. more nid (found_behind nid e es found))) (is_message e.nid) refl
  where
    by_kind : AreThere nodes (of_kind is_message (all_roots es)) → (b : Bool) → is_message e.nid ≡ b → AreThere nodes (cond b (entry_roots e ∷ of_kind is_message (all_roots es)) (of_kind is_message (all_roots es)))
    by_kind later true kind = (has_message_at nodes e.nid kind (more e.nid (found_here e es)), later)
    by_kind later false kind = later

pub all_there : (nodes : List NodeEntry) → AreThere nodes (of_kind is_message (all_roots nodes))
all_there nodes = there_in nodes nodes (λ nid found. found)

pub first_there : (nodes : List NodeEntry) (r : Roots) (old left : List Roots) → old ≡ r ∷ left → AreThere nodes old → (has_message nodes r.top ≡ true) × AreThere nodes left
first_there nodes r old left is are = rw is at are
