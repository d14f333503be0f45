-- The messages of a type among all messages; and what is counted of them.
use Rattle.std.proofs.Common.{◌≡◌, ◌<◌, ◌≤◌, ◌+◌, ◌/◌, ℕ, Ok, Err, Bool, true, false, cond, List, [], ◌∷◌, refl, sym, ap, ◌∙◌, arith}
use Rattle.std.specs.Prelude.{◌||◌, not, nat_lt, Option, Some, None}
use Rattle.std.specs.Option.{is_some}
use Rattle.std.proofs.lemmas.Bool.{false≢true, lt-ltb, le-ltb}
use Rattle.pst_page.specs.declared.entry.NodeEntry.{NodeEntry}
use Rattle.pst_block.specs.Table.{Table}
use Rattle.pst_ndb.specs.Roots.{Roots}
use Rattle.pst_json.specs.pst_props.declared.fault.DocFault.TheVariants.{TooManyPaths}
use Rattle.pst_json.specs.pst_whole.Lost.{LostParts}
use Rattle.pst_verify.specs.pst_msg.pst_mail.declared.nid.TheConstants.{MESSAGE, ASSOCIATED}
use Rattle.pst_verify.specs.pst_msg.Nid.{is_type}
use Rattle.pst_verify.specs.pst_msg.Values.{is_message}
use Rattle.pst_verify.specs.pst_store.Kind.{of_kind}
use Rattle.pst_export.specs.Export.{CountsDown}
use Rattle.pst_export.specs.Store.{archive_text, export_told, path_count}

or_right : (a b : Bool) → b ≡ true → (a || b) ≡ true
or_right true b is = refl
or_right false b is = is

pub message_kind : (nid : ℕ) → is_type MESSAGE nid ≡ true → is_message nid ≡ true
message_kind nid is = rw is refl

pub associated_kind : (nid : ℕ) → is_type ASSOCIATED nid ≡ true → is_message nid ≡ true
associated_kind nid is = or_right (is_type MESSAGE nid) (is_type ASSOCIATED nid) is

among_more : (kind : ℕ) (r : Roots) (rs : List Roots) (k m : Bool) → is_type kind r.top ≡ k → (k ≡ true → m ≡ true)
    → of_kind (is_type kind) (of_kind is_message rs) ≡ of_kind (is_type kind) rs
    → of_kind (is_type kind) (cond m (r ∷ of_kind is_message rs) (of_kind is_message rs)) ≡ cond k (r ∷ of_kind (is_type kind) rs) (of_kind (is_type kind) rs)
among_more kind r rs true true e within same = rw e (ap (λ l. r ∷ l) same)
among_more kind r rs false true e within same = rw e same
among_more kind r rs true false e within same = absurd (false≢true (within refl))
among_more kind r rs false false e within same = same

-- those of a type of messages are among the messages
pub among : (kind : ℕ) (rs : List Roots) → ((nid : ℕ) → is_type kind nid ≡ true → is_message nid ≡ true) → of_kind (is_type kind) (of_kind is_message rs) ≡ of_kind (is_type kind) rs
among kind [] within = refl
among kind (r ∷ rs) within = among_more kind r rs (is_type kind r.top) (is_message r.top) refl (within r.top) (among kind rs within)

-- the next of them
picked : (k : Bool) (r : Roots) (rest : List Roots) → k ≡ true → cond k (r ∷ rest) rest ≡ r ∷ rest
picked true r rest is = refl
picked false r rest is = absurd (false≢true is)

pub kind_next : (kind : ℕ) (r : Roots) (old left : List Roots) → old ≡ r ∷ left → is_type kind r.top ≡ true → of_kind (is_type kind) old ≡ r ∷ of_kind (is_type kind) left
kind_next kind r old left is same = ap (of_kind (is_type kind)) is ∙ picked (is_type kind r.top) r (of_kind (is_type kind) left) same

-- ---- whether there are few

pub few_none : (most a b : ℕ) → most < a → false ≡ not (nat_lt most (a + b))
few_none most a b less = let more : most < a + b = omega arith in rw (lt-ltb most (a + b) more) refl

pub few_counted : (most left a b : ℕ) (o : Option ℕ) → most ≡ left + a → CountsDown left b o → is_some o ≡ not (nat_lt most (a + b))
few_counted most left a b None is less = let more : most < a + b = omega arith in rw (lt-ltb most (a + b) more) refl
few_counted most left a b (Some rest) is counted = let no : a + b ≤ most = omega arith in rw (le-ltb most (a + b) no) refl

-- so an archive is told, or that there are too many paths
not_less : (b : Bool) → true ≡ not b → b ≡ false
not_less true is = absurd cc
not_less false is = refl

is_less : (b : Bool) → false ≡ not b → b ≡ true
is_less true is = refl
is_less false is = absurd cc

pub told_few : (size : ℕ) (damage : Option (List ℕ)) (t : Table) (nodes : List NodeEntry) (lost : LostParts) (few : Bool) → few ≡ not (nat_lt (size / 64) (path_count t nodes)) → few ≡ true
    → export_told size damage t nodes lost ≡ Ok (archive_text damage t nodes lost)
told_few size damage t nodes lost few is held = rw (not_less (nat_lt (size / 64) (path_count t nodes)) (sym held ∙ is)) refl

pub told_many : (size : ℕ) (damage : Option (List ℕ)) (t : Table) (nodes : List NodeEntry) (lost : LostParts) (few : Bool) → few ≡ not (nat_lt (size / 64) (path_count t nodes)) → few ≡ false
    → export_told size damage t nodes lost ≡ Err TooManyPaths
told_many size damage t nodes lost few is failed = rw (is_less (nat_lt (size / 64) (path_count t nodes)) (sym failed ∙ is)) refl
