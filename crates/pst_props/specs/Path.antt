-- What a path leads to, through messages and their attachments ([MS-PST] 2.4.5, 2.4.6).
use Rattle.std.specs.Prelude.{ℕ, ◌==◌, Option, Some, None, option_map, Result, Ok, Err, List, [], ◌∷◌, fold, if◌then◌else◌}
use Rattle.pst_fault.specs.declared.fault.Fault.{Fault}
use Rattle.pst_page.specs.declared.entry.NodeEntry.{NodeEntry}
use Rattle.pst_block.specs.Table.{Table}
use Rattle.pst_btree.specs.Entries.{first_with}
use Rattle.pst_ndb.specs.Roots.{Roots, node_in}
use Rattle.pst_value_json.specs.pst_pc.Fault.{pc_fault}
use Rattle.pst_value_json.specs.pst_tc.Values.{row_id_of}
use Rattle.pst_verify.specs.pst_msg.Shown.{Shown, row_shown, object_shown, attachment_rows}
use Rattle.pst_verify.specs.pst_msg.Values.{is_message, embedded_of}
use Rattle.pst_whole.specs.Lost.{LostParts, told_lost}
use Rattle.pst_props.specs.declared.fault.DocFault.{DocFault}
use Rattle.pst_props.specs.declared.fault.DocFault.TheVariants.{NoNode, Bad}

-- a place, by its identifier and what it is read from: a message, an attachment of one, or any other node
pub data Place : Type 0 where
  message : ℕ → Roots → Place
  attachment : ℕ → Roots → Place
  other : ℕ → Roots → Place

-- a subnode as a place, where it is there
abbrev pub place_of_shown : (ℕ → Roots → Place) → Option Shown → Option Place
place_of_shown kind None = None
place_of_shown kind (Some s) = option_map (kind s.nid) s.roots

-- the attachment of a message with an identifier: what the row with that identifier of its attachment table names
abbrev pub attachment_with : Table → Roots → ℕ → Option Shown
attachment_with t r nid = option_map (row_shown t r) (first_with row_id_of nid (attachment_rows t r))

-- the message that an attachment embeds, where it has this identifier
abbrev pub if_named : ℕ → Option Shown → Option Shown
if_named nid None = None
if_named nid (Some s) = if s.nid == nid then Some s else None

abbrev pub embedded_with : Table → Roots → ℕ → Option Shown
embedded_with t r nid = if_named nid (option_map (object_shown t r) (embedded_of t r))

-- one step: from a message to an attachment of it, and from an attachment to the message that it embeds
abbrev pub step_from : Table → Place → ℕ → Option Place
step_from t (message m r) nid = place_of_shown attachment (attachment_with t r nid)
step_from t (attachment a r) nid = place_of_shown message (embedded_with t r nid)
step_from t (other n r) nid = None

abbrev pub step : Table → Option Place → ℕ → Option Place
step t None nid = None
step t (Some place) nid = step_from t place nid

-- where a path begins: at a node
abbrev pub place_of_node : ℕ → Roots → Place
place_of_node nid r = if is_message nid then message nid r else other nid r

abbrev pub first_place : List NodeEntry → ℕ → Option Place
first_place nodes nid = option_map (place_of_node nid) (node_in nodes nid)

-- What a path leads to, step by step; none where one leads nowhere.
unfoldable pub place_at : Table → List NodeEntry → List ℕ → Option Place
place_at t nodes [] = None
place_at t nodes (nid ∷ steps) = fold (step t) (first_place nodes nid) steps

-- what is told of the node with which a path begins
abbrev pub path_told : LostParts → List ℕ → Option Fault
path_told lost [] = None
path_told lost (nid ∷ steps) = told_lost lost nid

-- ---- places that have properties: messages, attachments, and other nodes that are property contexts

abbrev pub unless_bad : Option Fault → Place → Result Place DocFault
unless_bad None place = Ok place
unless_bad (Some f) place = Err (Bad f)

abbrev pub with_properties : Table → Place → Result Place DocFault
with_properties t (message nid r) = Ok (message nid r)
with_properties t (attachment nid r) = Ok (attachment nid r)
with_properties t (other nid r) = unless_bad (pc_fault t r) (other nid r)

abbrev pub or_no_node : Table → Option Place → Result Place DocFault
or_no_node t None = Err NoNode
or_no_node t (Some place) = with_properties t place

-- What a path leads to that has properties. There is none where it leads nowhere, or to a node that is something else.
unfoldable pub found_at : Table → List NodeEntry → List ℕ → Result Place DocFault
found_at t nodes path = or_no_node t (place_at t nodes path)
