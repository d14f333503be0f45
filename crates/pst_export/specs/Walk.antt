-- What is left of a message that is gone through.
use Rattle.std.specs.Prelude.{◌≡◌, Option, Some, None, List, [], ◌∷◌, ◌++◌, string_bytes}
use Rattle.pst_block.specs.Table.{Table}
use Rattle.pst_ndb.specs.declared.node.Node.{Node}
use Rattle.pst_ndb.specs.Views.{table_of_node, nid_of, roots_of}
use Rattle.pst_json.specs.Path.{Place, message, attachment}
use Rattle.pst_verify.specs.pst_msg.pst_mail.declared.attachment_view.Attachment.{Attachment}
use Rattle.pst_verify.specs.pst_msg.pst_mail.declared.message_view.Message.{Message}
use Rattle.pst_verify.specs.pst_msg.View.{node_of_message, node_of_attachment, attachments_left, holder_left}
use Rattle.pst_export.specs.declared.walk.Holder.{Holder}
use Rattle.pst_export.specs.declared.walk.Holder.TheVariants as holder
use Rattle.pst_export.specs.declared.walk.Item.{Item}
use Rattle.pst_export.specs.declared.walk.Task.{Task}
use Rattle.pst_export.specs.declared.walk.Task.TheVariants.{Rest}
use Rattle.pst_export.specs.declared.walk.Task.TheVariants as task
use Rattle.pst_export.specs.declared.walk.Walk.{Walk}
use Rattle.pst_export.specs.Held.{HeldPlace, held_at, message_held, rows_held, nested_held}

-- ---- what is told: as a place, in its folder; and its node

abbrev pub of_message : Message → Place
of_message m = let n = node_of_message m in message (nid_of n) (roots_of n)

abbrev pub of_attachment : Attachment → Place
of_attachment a = let n = node_of_attachment a in attachment (nid_of n) (roots_of n)

abbrev pub place_of_holder : Holder → Place
place_of_holder (holder.Message m) = of_message m
place_of_holder (holder.Attachment a) = of_attachment a

abbrev pub node_of_holder : Holder → Node
node_of_holder (holder.Message m) = node_of_message m
node_of_holder (holder.Attachment a) = node_of_attachment a

abbrev pub item_held : Item → HeldPlace
item_held i = held_at (string_bytes i.folder) (place_of_holder i.holder)

-- ---- what is left

abbrev pub task_node : Task → Node
task_node (task.Message folder m levels) = node_of_message m
task_node (Rest folder rest levels) = holder_left rest

unfoldable pub task_left : Task → List HeldPlace
task_left (task.Message folder m levels) =
    let n = node_of_message m in
    let t = table_of_node n in
    message_held t (nested_held t levels) (string_bytes folder) (nid_of n) (roots_of n)
task_left (Rest folder rest levels) =
    let t = table_of_node (holder_left rest) in rows_held t (nested_held t levels) (string_bytes folder) (attachments_left rest)

-- of several: the last of them comes first
unfoldable pub tasks_left : List Task → List HeldPlace
tasks_left [] = []
tasks_left (x ∷ xs) = tasks_left xs ++ task_left x

abbrev pub walk_left : Walk → List HeldPlace
walk_left w = tasks_left w.tasks.items

-- all of them are read from one table of blocks
unfoldable pub AreOver : Table → List Task → Type 0
AreOver t [] = Unit {0}
AreOver t (x ∷ xs) = AreOver t xs × (table_of_node (task_node x) ≡ t)

abbrev pub IsWalkOver : Table → Walk → Type 0
IsWalkOver t w = AreOver t w.tasks.items

abbrev pub IsItemOver : Table → Item → Type 0
IsItemOver t i = table_of_node (node_of_holder i.holder) ≡ t

-- ---- steps

-- the first that is left is told, or none is left
abbrev pub TakesHeld : Option Item → List HeldPlace → List HeldPlace → Type 0
TakesHeld None old new = old ≡ []
TakesHeld (Some i) old new = old ≡ item_held i ∷ new

-- of a task, before others: it has nothing left, or its first is told
abbrev pub Begins : Option Item → Task → Walk → Walk → Type 0
Begins None x old new = (task_left x ≡ []) × (new ≡ old)
Begins (Some i) x old new = task_left x ++ walk_left old ≡ item_held i ∷ walk_left new

abbrev pub StaysOver : Option Item → Table → Walk → Type 0
StaysOver None t w = IsWalkOver t w
StaysOver (Some i) t w = IsWalkOver t w × IsItemOver t i
