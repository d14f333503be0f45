-- Which contexts a store names, each in its role, and how many they are.
use Rattle.std.specs.Prelude.{◌≡◌, ℕ, ◌+◌, ◌↔◌, true, Some, List, length}
use Rattle.std.specs.List.{Contains}
use Rattle.std.specs.List.Sorted.{IsStrictlySortedBy}
use Rattle.pst_page.specs.declared.entry.NodeEntry.{NodeEntry}
use Rattle.pst_block.specs.Table.{Table}
use Rattle.pst_ndb.specs.Counts.{capped}
use Rattle.pst_ndb.specs.Roots.{Roots, subnode_of, node_in, all_roots}
use Rattle.pst_tc.specs.Values.{RowParts}
use Rattle.pst_names.specs.declared.name_map.TheConstants.{NAME_MAP}
use Rattle.pst_mail.specs.declared.items.Items.{Items}
use Rattle.pst_mail.specs.declared.nid.TheConstants.{STORE, ROOT, FOLDER, SEARCH_FOLDER, ATTACHMENTS, RECIPIENTS}
use Rattle.pst_mail.specs.declared.object.Object.{Object}
use Rattle.pst_remembered.specs.declared.role.Role.{Role}
use Rattle.pst_remembered.specs.declared.role.Role.TheVariants.{Properties, Listed, Recipients, Attachments}
use Rattle.pst_mail.specs.Nid.{type_of}
use Rattle.pst_mail.specs.Values.{is_message, listing_of, embedded_of}
use Rattle.pst_mail.specs.Grammar.{IsAttachmentRow}
use Rattle.pst_remembered.specs.Keys.{Key, key, key_cmp}
use Rattle.pst_remembered.specs.Roles.{role_number}

-- ---- the messages and attachments of a store

mutual
  pub data HasMessage (t : Table) (nodes : List NodeEntry) : Roots → Type 0 where
    node : (r : Roots) → Contains (all_roots nodes) r → is_message r.top ≡ true → HasMessage t nodes r
    embedded : (r s : Roots) (o : Object) → HasAttachment t nodes r → embedded_of t r ≡ Some o → subnode_of t r o.nid ≡ Some s →
        HasMessage t nodes s

  pub data HasAttachment (t : Table) (nodes : List NodeEntry) : Roots → Type 0 where
    attached : (r s : Roots) (x : RowParts) → HasMessage t nodes r → IsAttachmentRow t r x → subnode_of t r x.id ≡ Some s →
        HasAttachment t nodes s

-- ---- its contexts, by their roles

abbrev pub IsNode : List NodeEntry → ℕ → Roots → Type 0
IsNode nodes kind r = Contains (all_roots nodes) r × (type_of r.top ≡ kind)

pub data Names (t : Table) (nodes : List NodeEntry) : Role → Roots → Type 0 where
  of_store : (r : Roots) → node_in nodes STORE ≡ Some r → Names t nodes Properties r
  of_root : (r : Roots) → node_in nodes ROOT ≡ Some r → Names t nodes Properties r
  of_names : (r : Roots) → node_in nodes NAME_MAP ≡ Some r → Names t nodes Properties r
  of_folder : (r : Roots) → IsNode nodes FOLDER r → Names t nodes Properties r
  of_search : (r : Roots) → IsNode nodes SEARCH_FOLDER r → Names t nodes Properties r
  of_message : (r : Roots) → HasMessage t nodes r → Names t nodes Properties r
  of_attachment : (r : Roots) → HasAttachment t nodes r → Names t nodes Properties r
  listed : (r s : Roots) (items : Items) → IsNode nodes FOLDER r → listing_of nodes items r.top ≡ Some s → Names t nodes (Listed items) s
  recipients : (r s : Roots) → HasMessage t nodes r → subnode_of t r RECIPIENTS ≡ Some s → Names t nodes Recipients s
  attachments : (r s : Roots) → HasMessage t nodes r → subnode_of t r ATTACHMENTS ≡ Some s → Names t nodes Attachments s

-- a key is that of a context that is named
abbrev pub IsNamed : Table → List NodeEntry → Key → Type 0
IsNamed t nodes q = (role : Role) × (r : Roots) × Names t nodes role r × (key (role_number role) r ≡ q)

-- ---- how many

-- A count that was `start` is raised by the number of distinct contexts that are named: by their data, their subnodes and their
-- role, bit 0 of block identifiers cleared.
abbrev pub IsRaised : Table → List NodeEntry → ℕ → ℕ → Type 0
IsRaised t nodes start count =
    (ks : List Key) × IsStrictlySortedBy key_cmp ks × ((q : Key) → Contains ks q ↔ IsNamed t nodes q)
    × (count ≡ capped (start + length ks))
