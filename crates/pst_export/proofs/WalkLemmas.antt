-- What is left of a message that is gone through, as it is taken.
use Rattle.std.proofs.Common.{◌≡◌, ◌-◌, ℕ, zero, suc, List, [], ◌∷◌, ◌++◌, map, Option, Some, None, refl, sym, ap, subst, ◌∙◌, append_assoc, append-nil, arith}
use Rattle.std.specs.Option.{is_some}
use Rattle.std.specs.Prelude.{true, false, option_map, string_bytes, String}
use Rattle.std.proofs.lemmas.Bool.{false≢true}
use Rattle.std.specs.Global.{Global}
use Rattle.pst_block.specs.Table.{Table}
use Rattle.pst_ndb.specs.declared.node.Node.{Node}
use Rattle.pst_ndb.specs.declared.node_indexes.NodeIndexes.{NodeIndexes}
use Rattle.pst_ndb.specs.NodeIndexes.{AreNodeIndexes}
use Rattle.pst_ndb.specs.Views.{table_of_node, nid_of, top_of, roots_of}
use Rattle.pst_json.specs.Path.{message, attachment}
use Rattle.pst_verify.specs.pst_msg.pst_mail.declared.attachment_view.Attachment.{Attachment}
use Rattle.pst_verify.specs.pst_msg.pst_mail.declared.attachments.Attachments.{Attachments}
use Rattle.pst_verify.specs.pst_msg.pst_mail.declared.message_view.Message.{Message}
use Rattle.pst_verify.specs.pst_msg.Shown.{Shown, attachment_rows, object_shown, row_shown}
use Rattle.pst_verify.specs.pst_msg.Values.{embedded_of}
use Rattle.pst_verify.specs.pst_msg.View.{attachment_shown, attachments_left, holder_left, message_roots, message_shown, node_of_attachment, node_of_message}
use Rattle.pst_export.specs.declared.walk.Item.{Item}
use Rattle.pst_export.specs.declared.walk.Task.{Task}
use Rattle.pst_export.specs.declared.walk.Task.TheVariants.{Rest}
use Rattle.pst_export.specs.declared.walk.Task.TheVariants as task
use Rattle.pst_export.specs.declared.walk.TheConstants.{LEVELS}
use Rattle.pst_export.specs.declared.walk.Walk.{Walk}
use Rattle.pst_export.specs.Held.{HeldPlace, embedded_held, folder_in, held_at, held_in_folder, message_held, nested_held, row_held, rows_held}
use Rattle.pst_export.specs.Walk.{AreOver, Begins, IsWalkOver, StaysOver, TakesHeld, task_left, task_node, tasks_left, walk_left}

-- ---- one task more: what is left of it comes first

pub tasks_pushed : (tasks : List Task) (x : Task) → tasks_left (tasks ++ x ∷ []) ≡ task_left x ++ tasks_left tasks
unfolding tasks_left
tasks_pushed [] x = sym (append-nil (task_left x))
tasks_pushed (y ∷ ys) x = ap (λ l. l ++ task_left y) (tasks_pushed ys x) ∙ append_assoc (task_left x) (tasks_left ys) (task_left y)

pub over_pushed : (t : Table) (tasks items : List Task) (x : Task) → items ≡ tasks ++ x ∷ [] → AreOver t tasks → table_of_node (task_node x) ≡ t → AreOver t items
unfolding AreOver
over_pushed t tasks items x is over this = subst (AreOver t) (sym is) (both tasks over)
  where
    both : (ys : List Task) → AreOver t ys → AreOver t (ys ++ x ∷ [])
    both [] all = (tt, this)
    both (y ∷ ys) all = (both ys all.0, all.1)

pub over_rest : (t : Table) (tasks items : List Task) (x : Task) → items ≡ tasks ++ x ∷ [] → AreOver t items → AreOver t tasks
unfolding AreOver
over_rest t tasks items x is over = front tasks (subst (AreOver t) is over)
  where
    front : (ys : List Task) → AreOver t (ys ++ x ∷ []) → AreOver t ys
    front [] all = tt
    front (y ∷ ys) all = (front ys all.0, all.1)

pub over_last : (t : Table) (tasks items : List Task) (x : Task) → items ≡ tasks ++ x ∷ [] → AreOver t items → table_of_node (task_node x) ≡ t
unfolding AreOver
over_last t tasks items x is over = last tasks (subst (AreOver t) is over)
  where
    last : (ys : List Task) → AreOver t (ys ++ x ∷ []) → table_of_node (task_node x) ≡ t
    last [] all = all.1
    last (y ∷ ys) all = last ys all.0

pub one_over : (t : Table) (items : List Task) (x : Task) → items ≡ x ∷ [] → table_of_node (task_node x) ≡ t → AreOver t items
unfolding AreOver
one_over t items x are is = subst (AreOver t) (sym are) (tt, is)

-- indexes are of the same table
pub indexes_of : (t u : Table) (index : NodeIndexes) → u ≡ t → AreNodeIndexes t index → AreNodeIndexes u index
indexes_of t u index same are = rw same are

-- ---- the last task is taken

popped : (tasks items : List Task) (x : Task) → tasks ≡ items ++ x ∷ [] → tasks_left tasks ≡ task_left x ++ tasks_left items
popped tasks items x is = ap tasks_left is ∙ tasks_pushed items x

pub nothing_left : (tasks : List Task) → tasks ≡ [] → tasks_left tasks ≡ []
unfolding tasks_left
nothing_left tasks is = ap tasks_left is

-- it begins with something
pub begun_some : (o : Option Item) (x : Task) (tasks : List Task) (old new : Walk) → is_some o ≡ true → tasks ≡ old.tasks.items ++ x ∷ [] → Begins o x old new
    → TakesHeld o (tasks_left tasks) (walk_left new)
begun_some None x tasks old new some is begins = absurd (false≢true some)
begun_some (Some i) x tasks old new some is begins = popped tasks old.tasks.items x is ∙ begins

-- it had nothing left
pub begun_none : (o : Option Item) (x : Task) (tasks : List Task) (old new : Walk) → is_some o ≡ false → tasks ≡ old.tasks.items ++ x ∷ [] → Begins o x old new
    → tasks_left tasks ≡ walk_left new
begun_none (Some i) x tasks old new none is begins = absurd (false≢true (sym none))
begun_none None x tasks old new none is begins =
    popped tasks old.tasks.items x is ∙ ap (λ l. l ++ walk_left old) begins.0 ∙ ap walk_left (sym begins.1)

pub same_walk : (o : Option Item) (x : Task) (old new : Walk) → is_some o ≡ false → Begins o x old new → new ≡ old
same_walk (Some i) x old new none begins = absurd (false≢true (sym none))
same_walk None x old new none begins = begins.1

pub stays_none : (o : Option Item) (t : Table) (w : Walk) → is_some o ≡ false → StaysOver o t w → IsWalkOver t w
stays_none (Some i) t w none stays = absurd (false≢true (sym none))
stays_none None t w none stays = stays

-- ---- a message begins

pub walk_begun : (folder : String Global) (m : Message) (name : List ℕ) → string_bytes folder ≡ folder_in name (nid_of (node_of_message m))
    → nid_of (node_of_message m) ≡ top_of (node_of_message m)
    → tasks_left (task.Message folder m LEVELS ∷ []) ≡ held_in_folder (table_of_node (node_of_message m)) name (message_roots m)
unfolding tasks_left task_left held_in_folder
walk_begun folder m name is own =
    let n = node_of_message m in
    let t = table_of_node n in
    ap (λ f. message_held t (nested_held t LEVELS) f (nid_of n) (roots_of n)) is ∙ ap (λ k. message_held t (nested_held t LEVELS) (folder_in name k) k (roots_of n)) own

-- what is left of the attachments of a message
rest_left : (folder : String Global) (rest : Attachments) (n : ℕ) (node : Node) (name : List ℕ) (shown : List Shown) → holder_left rest ≡ node → string_bytes folder ≡ name
    → attachments_left rest ≡ shown → task_left (Rest folder rest n) ≡ rows_held (table_of_node node) (nested_held (table_of_node node) n) name shown
unfolding task_left
rest_left folder rest n node name shown holder called left =
    let t = table_of_node node in
    ap (λ x. rows_held (table_of_node x) (nested_held (table_of_node x) n) (string_bytes folder) (attachments_left rest)) holder
    ∙ ap (λ f. rows_held t (nested_held t n) f (attachments_left rest)) called ∙ ap (λ l. rows_held t (nested_held t n) name l) left

-- a message is told, and its attachments are left
pub entered : (folder again : String Global) (m : Message) (n : ℕ) (rest : Attachments) (tasks items : List Task) → string_bytes again ≡ string_bytes folder
    → holder_left rest ≡ node_of_message m
    → attachments_left rest ≡ map (row_shown (table_of_node (node_of_message m)) (message_roots m)) (attachment_rows (table_of_node (node_of_message m)) (message_roots m))
    → items ≡ tasks ++ Rest again rest n ∷ []
    → task_left (task.Message folder m n) ++ tasks_left tasks ≡ held_at (string_bytes folder) (message (nid_of (node_of_message m)) (message_roots m)) ∷ tasks_left items
unfolding task_left message_held
entered folder again m n rest tasks items same holder left pushed =
    let node = node_of_message m in
    let h = held_at (string_bytes folder) (message (nid_of node) (roots_of node)) in
    ap (λ l. h ∷ l) (sym (ap tasks_left pushed ∙ tasks_pushed tasks (Rest again rest n) ∙ ap (λ l. l ++ tasks_left tasks) (rest_left again rest n node (string_bytes folder) _ holder same left)))

-- ---- an attachment is told, and what it embeds and the attachments behind it are left

pub gone_on : (folder inner : String Global) (rest behind : Attachments) (a : Attachment) (n : ℕ) (tasks items : List Task) (new : List HeldPlace)
    → attachments_left rest ≡ attachment_shown a ∷ attachments_left behind → holder_left behind ≡ holder_left rest
    → table_of_node (node_of_attachment a) ≡ table_of_node (holder_left rest) → items ≡ tasks ++ Rest folder behind n ∷ []
    → string_bytes inner ≡ folder_in (string_bytes folder) (nid_of (node_of_attachment a))
    → new ≡ embedded_held (nested_held (table_of_node (node_of_attachment a)) n) (string_bytes inner)
    (option_map (object_shown (table_of_node (node_of_attachment a)) (roots_of (node_of_attachment a))) (embedded_of (table_of_node (node_of_attachment a)) (roots_of (node_of_attachment a))))
    ++ tasks_left items
    → task_left (Rest folder rest n) ++ tasks_left tasks ≡ held_at (string_bytes inner) (attachment (nid_of (node_of_attachment a)) (roots_of (node_of_attachment a))) ∷ new
unfolding row_held
gone_on folder inner rest behind a n tasks items new left holder table pushed called now =
    let t = table_of_node (holder_left rest) in
    let u = table_of_node (node_of_attachment a) in
    let r = roots_of (node_of_attachment a) in
    let nid = nid_of (node_of_attachment a) in
    let name = string_bytes folder in
    let told : Table → List ℕ → List HeldPlace =
    λ x f. held_at f (attachment nid r) ∷ embedded_held (nested_held x n) f (option_map (object_shown x r) (embedded_of x r)) in
    let held = embedded_held (nested_held u n) (string_bytes inner) (option_map (object_shown u r) (embedded_of u r)) in
    let h = held_at (string_bytes inner) (attachment nid r) in
    let others = rows_held t (nested_held t n) name (attachments_left behind) in
    let first : row_held t (nested_held t n) name (attachment_shown a) ≡ h ∷ held = ap (λ x. told x (folder_in name nid)) (sym table) ∙ ap (told u) (sym called) in
    let whole : task_left (Rest folder rest n) ≡ (h ∷ held) ++ others =
    rest_left folder rest n (holder_left rest) name _ refl refl left ∙ ap (λ l. l ++ others) first in
    let after : tasks_left items ≡ others ++ tasks_left tasks =
    ap tasks_left pushed ∙ tasks_pushed tasks (Rest folder behind n) ∙ ap (λ l. l ++ tasks_left tasks) (rest_left folder behind n (holder_left rest) name _ holder refl refl) in
    ap (λ l. l ++ tasks_left tasks) whole ∙ ap (λ l. h ∷ l) (append_assoc held others (tasks_left tasks) ∙ ap (λ l. held ++ l) (sym after) ∙ sym now)

-- no attachment is left
pub gone_past : (folder : String Global) (rest : Attachments) (n : ℕ) → attachments_left rest ≡ [] → task_left (Rest folder rest n) ≡ []
gone_past folder rest n none = rest_left folder rest n (holder_left rest) (string_bytes folder) [] refl refl none

-- ---- the message that an attachment embeds

-- nothing nests below the last
pub none_nested : (t : Table) (n : ℕ) (folder : List ℕ) (o : Option Shown) (left : List HeldPlace) → n ≡ 0 → left ≡ embedded_held (nested_held t n) folder o ++ left
unfolding nested_held
none_nested t n folder None left is = refl
none_nested t n folder (Some s) left is = rw is refl

pub embedded_put : (t : Table) (levels : ℕ) (name : List ℕ) (o : Option Shown) (inner : String Global) (m : Message) (tasks items : List Task) → Some (message_shown m) ≡ o
    → table_of_node (node_of_message m) ≡ t → (levels ≡ 0 → ⊥) → string_bytes inner ≡ folder_in name (nid_of (node_of_message m))
    → items ≡ tasks ++ task.Message inner m (levels - 1) ∷ [] → tasks_left items ≡ embedded_held (nested_held t levels) name o ++ tasks_left tasks
unfolding task_left nested_held
embedded_put t zero name o inner m tasks items is table some called pushed = absurd (some refl)
embedded_put t (suc k) name o inner m tasks items is table some called pushed =
    let n = node_of_message m in
    let one : suc k - 1 ≡ k = omega arith in
    let told : Table → ℕ → List ℕ → List HeldPlace = λ x i f. message_held x (nested_held x i) f (nid_of n) (roots_of n) in
    let left : task_left (task.Message inner m (suc k - 1)) ≡ told t k (folder_in name (nid_of n)) =
    ap (λ i. told (table_of_node n) i (string_bytes inner)) one ∙ ap (λ x. told x k (string_bytes inner)) table ∙ ap (told t k) called in
    ap tasks_left pushed ∙ tasks_pushed tasks (task.Message inner m (suc k - 1)) ∙ ap (λ l. l ++ tasks_left tasks) left
    ∙ ap (λ x. embedded_held (nested_held t (suc k)) name x ++ tasks_left tasks) is
