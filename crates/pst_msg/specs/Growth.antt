-- What a step of the check does to what is known: nothing is forgotten, and only what is named is counted.
use Rattle.std.specs.Prelude.{◌≡◌, ℕ, ◌+◌, ◌≤◌, true, Some, List, length}
use Rattle.std.specs.List.{Contains}
use Rattle.pst_page.specs.declared.entry.NodeEntry.{NodeEntry}
use Rattle.pst_block.specs.Table.{Table}
use Rattle.pst_ndb.specs.Roots.{Roots, node_in, all_roots}
use Rattle.pst_names.specs.declared.name_map.TheConstants.{NAME_MAP}
use Rattle.pst_mail.specs.declared.items.Items.{Items}
use Rattle.pst_remembered.specs.declared.keys.NodeSet.{NodeSet}
use Rattle.pst_msg.specs.declared.known.KnownParts.{KnownParts}
use Rattle.pst_mail.specs.declared.nid.TheConstants.{STORE, ROOT, FOLDER, SEARCH_FOLDER}
use Rattle.pst_remembered.specs.declared.role.Role.TheVariants.{Properties, Listed}
use Rattle.pst_mail.specs.Nid.{is_type}
use Rattle.pst_mail.specs.Values.{is_message, listing_of}
use Rattle.pst_remembered.specs.Keys.{Key, keys_in, holds}
use Rattle.pst_msg.specs.Known.{ContextIn, WholeIn}
use Rattle.pst_ndb.specs.Counts.{capped}
use Rattle.pst_msg.specs.Counts.{IsNamed}

abbrev pub AreNamed : Table → List NodeEntry → NodeSet → Type 0
AreNamed t nodes keys = (q : Key) → holds keys q ≡ true → IsNamed t nodes q

-- so many were counted before, and each context that is known since
abbrev pub AreContextsCounted : ℕ → KnownParts → Type 0
AreContextsCounted start k = k.count ≡ capped (start + length (keys_in k.contexts))

-- Nothing is forgotten, the count is right if it was, and only what is named is added, where this holds of the nodes.
pub record Grows (t : Table) (Held : List NodeEntry → Type 0) (old new : KnownParts) : Type 0 where
  pub contexts : (q : Key) → holds old.contexts q ≡ true → holds new.contexts q ≡ true
  pub messages : (q : Key) → holds old.messages q ≡ true → holds new.messages q ≡ true
  pub attachments : (q : Key) → holds old.attachments q ≡ true → holds new.attachments q ≡ true
  pub lists : (q : Key) → holds old.lists q ≡ true → holds new.lists q ≡ true
  pub risen : old.count ≤ new.count
  pub counted : (start : ℕ) → AreContextsCounted start old → AreContextsCounted start new
  pub named : (nodes : List NodeEntry) → Held nodes → AreNamed t nodes old.contexts → AreNamed t nodes new.contexts

-- ---- all that a node names is known

pub record FolderIn (nodes : List NodeEntry) (k : KnownParts) (r : Roots) : Type 0 where
  pub properties : ContextIn k Properties r
  pub tables : (items : Items) (s : Roots) → listing_of nodes items r.top ≡ Some s → ContextIn k (Listed items) s

pub record NodeIn (nodes : List NodeEntry) (k : KnownParts) (r : Roots) : Type 0 where
  pub folders : is_type FOLDER r.top ≡ true → FolderIn nodes k r
  pub searches : is_type SEARCH_FOLDER r.top ≡ true → ContextIn k Properties r
  pub messages : is_message r.top ≡ true → WholeIn k.messages r

abbrev pub PropertiesIn : List NodeEntry → KnownParts → ℕ → Type 0
PropertiesIn nodes k nid = (r : Roots) → node_in nodes nid ≡ Some r → ContextIn k Properties r

pub record AllIn (entries : List NodeEntry) (k : KnownParts) : Type 0 where
  pub store : PropertiesIn entries k STORE
  pub root : PropertiesIn entries k ROOT
  pub names : PropertiesIn entries k NAME_MAP
  pub nodes : (r : Roots) → Contains (all_roots entries) r → NodeIn entries k r
