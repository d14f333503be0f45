-- What a store's messaging is ([MS-PST] 2.4), in plain facts. Nothing here walks, counts or names a fault.
use Rattle.std.specs.Prelude.{◌≡◌, ℕ, true, Some, List}
use Rattle.std.specs.List.{Contains}
use Rattle.pst_page.specs.declared.entry.NodeEntry.{NodeEntry}
use Rattle.pst_block.specs.Table.{Table}
use Rattle.pst_ndb.specs.Roots.{Roots, subnode_of, node_in, all_roots}
use Rattle.pst_pc.specs.Grammar.{IsPc}
use Rattle.pst_tc.specs.Grammar.{IsTc}
use Rattle.pst_tc.specs.Values.{RowParts, tc_rows}
use Rattle.pst_names.specs.declared.name_map.TheConstants.{NAME_MAP}
use Rattle.pst_names.specs.Grammar.{IsNameMap}
use Rattle.pst_mail.specs.declared.items.Items.{Items}
use Rattle.pst_mail.specs.declared.items.Items.TheVariants.{Subfolders, Messages, Associated}
use Rattle.pst_mail.specs.declared.nid.TheConstants.{STORE, ROOT, FOLDER, SEARCH_FOLDER, MESSAGE, ASSOCIATED, ATTACHMENT, ATTACHMENTS, RECIPIENTS}
use Rattle.pst_mail.specs.declared.object.Object.{Object}
use Rattle.pst_mail.specs.Nid.{type_of}
use Rattle.pst_mail.specs.Values.{may_list, listing_of, embedded_of}

-- ---- messages and attachments ([MS-PST] 2.4.5, 2.4.6)

-- a row of the attachment table of a message
abbrev pub IsAttachmentRow : Table → Roots → RowParts → Type 0
IsAttachmentRow t r x = (table : Roots) × (subnode_of t r ATTACHMENTS ≡ Some table) × Contains (tc_rows t table) x

-- what a table names is a subnode
abbrev pub HasSubnode : Table → Roots → ℕ → Type 0
HasSubnode t r nid = (s : Roots) × (subnode_of t r nid ≡ Some s)

-- a subnode is a table, where it is there
abbrev pub MayHaveTable : Table → Roots → ℕ → Type 0
MayHaveTable t r nid = (s : Roots) → subnode_of t r nid ≡ Some s → IsTc t s

mutual
  -- A message has properties, and perhaps a table of recipients and one of attachments; what the latter names are subnodes
  -- of it, of the type of attachments, and are attachments.
  pub data IsMessage (t : Table) : Roots → Type 0 where
    message : (r : Roots) → IsPc t r → MayHaveTable t r RECIPIENTS → MayHaveTable t r ATTACHMENTS →
        ((x : RowParts) → IsAttachmentRow t r x → HasSubnode t r x.id × (type_of x.id ≡ ATTACHMENT)) →
        ((x : RowParts) (s : Roots) → IsAttachmentRow t r x → subnode_of t r x.id ≡ Some s → IsAttachment t s) →
        IsMessage t r

  -- An attachment has properties; a message that it embeds is a subnode of it, and a message.
  pub data IsAttachment (t : Table) : Roots → Type 0 where
    attachment : (r : Roots) → IsPc t r →
        ((o : Object) → embedded_of t r ≡ Some o → HasSubnode t r o.nid) →
        ((o : Object) (s : Roots) → embedded_of t r ≡ Some o → subnode_of t r o.nid ≡ Some s → IsMessage t s) →
        IsAttachment t r

-- ---- folders ([MS-PST] 2.4.4)

-- A table of a folder, where it is there: it is a table, and each row of it names a node of a type that belongs there.
abbrev pub Lists : Table → List NodeEntry → Items → Roots → Type 0
Lists t nodes items r =
    (table : Roots) → listing_of nodes items r.top ≡ Some table →
    IsTc t table
    × ((x : RowParts) → Contains (tc_rows t table) x → ((n : Roots) × (node_in nodes x.id ≡ Some n)) × (may_list items x.id ≡ true))

pub record IsFolder (t : Table) (nodes : List NodeEntry) (r : Roots) : Type 0 where
  pub properties : IsPc t r
  pub subfolders : Lists t nodes Subfolders r
  pub messages : Lists t nodes Messages r
  pub associated : Lists t nodes Associated r

-- ---- the store's messaging

abbrev pub HasProperties : Table → List NodeEntry → ℕ → Type 0
HasProperties t nodes nid = (r : Roots) × (node_in nodes nid ≡ Some r) × IsPc t r

-- the node of the name map ([MS-PST] 2.4.7), where it is there: it has properties, which are a name map
abbrev pub MayHaveNames : Table → List NodeEntry → Type 0
MayHaveNames t nodes = (r : Roots) → node_in nodes NAME_MAP ≡ Some r → IsPc t r × IsNameMap t r

pub record Contents (t : Table) (nodes : List NodeEntry) : Type 0 where
  -- the node of the store itself and that of the root folder
  pub store : HasProperties t nodes STORE
  pub root : HasProperties t nodes ROOT
  -- the names of properties
  pub names : MayHaveNames t nodes
  -- each node, by its type
  pub folders : (r : Roots) → Contains (all_roots nodes) r → type_of r.top ≡ FOLDER → IsFolder t nodes r
  pub searches : (r : Roots) → Contains (all_roots nodes) r → type_of r.top ≡ SEARCH_FOLDER → IsPc t r
  pub messages : (r : Roots) → Contains (all_roots nodes) r → type_of r.top ≡ MESSAGE → IsMessage t r
  pub associated : (r : Roots) → Contains (all_roots nodes) r → type_of r.top ≡ ASSOCIATED → IsMessage t r
