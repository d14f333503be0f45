-- What the contexts of folders, messages and attachments name ([MS-PST] 2.4).
use Rattle.std.specs.Prelude.{ℕ, Bool, false, ◌||◌, ◌&&◌, nat_eq, Option, Some, None, option_map, List, if◌then◌else◌}
use Rattle.pst_page.specs.declared.entry.NodeEntry.{NodeEntry}
use Rattle.pst_block.specs.Table.{Table}
use Rattle.pst_btree.specs.Entries.{first_with}
use Rattle.pst_ndb.specs.Roots.{Roots, node_in}
use Rattle.pst_value.specs.Read.{exactly, u32_of, object_of}
use Rattle.pst_pc.specs.Values.{Property, id_of, props_of}
use Rattle.pst_mail.specs.declared.items.Items.{Items}
use Rattle.pst_mail.specs.declared.items.Items.TheVariants.{Subfolders, Messages, Associated}
use Rattle.pst_mail.specs.declared.nid.TheConstants.{FOLDER, SEARCH_FOLDER, MESSAGE, ASSOCIATED, HIERARCHY, CONTENTS, ASSOCIATED_CONTENTS}
use Rattle.pst_mail.specs.declared.object.Object.{Object}
use Rattle.pst_mail.specs.declared.object.TheConstants.{METHOD, EMBEDDED, METHOD_TYPE, CONTENT, CONTENT_TYPE}
use Rattle.pst_mail.specs.Nid.{is_type, with_type}

-- ---- nodes by what they are

-- a folder or a search folder
abbrev pub is_folder : ℕ → Bool
is_folder nid = is_type FOLDER nid || is_type SEARCH_FOLDER nid

-- a message: one that a folder has, or one that belongs to the folder itself
abbrev pub is_message : ℕ → Bool
is_message nid = is_type MESSAGE nid || is_type ASSOCIATED nid

-- ---- folders ([MS-PST] 2.4.4): the table that lists these is the node of this type with the folder's index

abbrev pub type_of_items : Items → ℕ
type_of_items Subfolders = HIERARCHY
type_of_items Messages = CONTENTS
type_of_items Associated = ASSOCIATED_CONTENTS

-- the nodes that it may list
abbrev pub may_list : Items → ℕ → Bool
may_list Subfolders nid = is_folder nid
may_list Messages nid = is_type MESSAGE nid
may_list Associated nid = is_type ASSOCIATED nid

-- that table of a folder, where it is there
abbrev pub listing_of : List NodeEntry → Items → ℕ → Option Roots
listing_of nodes items nid = node_in nodes (with_type nid (type_of_items items))

-- ---- attachments ([MS-PST] 2.4.6.2): the message that one embeds

abbrev is_embedded : Option ℕ → Bool
is_embedded None = false
is_embedded (Some method) = nat_eq method EMBEDDED

-- the method says that there is a message
abbrev pub says_embedded : Option Property → Bool
says_embedded None = false
says_embedded (Some p) = nat_eq p.kind METHOD_TYPE && is_embedded (exactly 4 u32_of p.bytes)

-- the subnode that an object names, and where it does
abbrev pub object_at : ℕ → (ℕ × ℕ) → Object
object_at at x = record { nid = x.0; at = at }

abbrev pub object_in : Option Property → Option Object
object_in None = None
object_in (Some p) = if nat_eq p.kind CONTENT_TYPE then option_map (object_at p.at) (object_of p.bytes) else None

unfoldable pub embedded_of : Table → Roots → Option Object
embedded_of t r =
    if says_embedded (first_with id_of METHOD (props_of t r)) then object_in (first_with id_of CONTENT (props_of t r)) else None
