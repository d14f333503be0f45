-- What has a folder of its own in an archive: a message, its attachments, and the messages that these embed, each once for each path
-- that leads to it ([MS-PST] 2.4.5, 2.4.6).
use Rattle.std.specs.Prelude.{ℕ, zero, suc, Option, Some, None, option_map, List, [], ◌∷◌, ◌++◌, map, codes}
use Rattle.std.specs.Prelude.{flat_map}
use Rattle.pst_block.specs.Table.{Table}
use Rattle.pst_ndb.specs.Roots.{Roots}
use Rattle.pst_value_json.specs.pst_text.Names.{nid_text}
use Rattle.pst_json.specs.Path.{Place, message, attachment}
use Rattle.pst_verify.specs.pst_msg.Shown.{Shown, row_shown, object_shown, attachment_rows}
use Rattle.pst_verify.specs.pst_msg.Values.{embedded_of}
use Rattle.pst_export.specs.declared.walk.TheConstants.{LEVELS}

-- the name of its folder, and the place that it is
pub record HeldPlace : Type 0 where
  pub folder : List ℕ
  pub place : Place

abbrev pub held_at : List ℕ → Place → HeldPlace
held_at folder place = record { folder = folder; place = place }

-- a folder in another, called as a node
abbrev pub folder_in : List ℕ → ℕ → List ℕ
folder_in folder nid = folder ++ codes "/" ++ nid_text nid

-- what is told of something, where it is there
abbrev pub told_where_there : {X : Type 0} → (Roots → List X) → Option Roots → List X
told_where_there told None = []
told_where_there told (Some r) = told r

-- the message that an attachment embeds, where it does: what holds such a message is told by this
abbrev pub embedded_held : (List ℕ → Shown → List HeldPlace) → List ℕ → Option Shown → List HeldPlace
embedded_held inner folder None = []
embedded_held inner folder (Some s) = inner (folder_in folder s.nid) s

-- an attachment, and what it embeds
abbrev pub attachment_held : Table → (List ℕ → Shown → List HeldPlace) → List ℕ → ℕ → Roots → List HeldPlace
attachment_held t inner folder nid r =
    held_at folder (attachment nid r) ∷ embedded_held inner folder (option_map (object_shown t r) (embedded_of t r))

-- that of a row of the attachment table of a message in this folder
unfoldable pub row_held : Table → (List ℕ → Shown → List HeldPlace) → List ℕ → Shown → List HeldPlace
row_held t inner folder s = told_where_there (attachment_held t inner (folder_in folder s.nid) s.nid) s.roots

-- of rows, in their order
abbrev pub rows_held : Table → (List ℕ → Shown → List HeldPlace) → List ℕ → List Shown → List HeldPlace
rows_held t inner folder rows = flat_map (row_held t inner folder) rows

-- a message, and what it holds
unfoldable pub message_held : Table → (List ℕ → Shown → List HeldPlace) → List ℕ → ℕ → Roots → List HeldPlace
message_held t inner folder nid r =
    held_at folder (message nid r) ∷ rows_held t inner folder (map (row_shown t r) (attachment_rows t r))

-- A message that is embedded, and what it holds, where so many messages may nest from it on. In a file without fault fewer do.
unfoldable pub nested_held : Table → ℕ → List ℕ → Shown → List HeldPlace
nested_held t zero folder s = []
nested_held t (suc n) folder s = told_where_there (message_held t (nested_held t n) folder s.nid) s.roots

-- A message of a store, in a folder of that name, and what it holds.
unfoldable pub held_in_folder : Table → List ℕ → Roots → List HeldPlace
held_in_folder t name r = message_held t (nested_held t LEVELS) (folder_in name r.top) r.top r
