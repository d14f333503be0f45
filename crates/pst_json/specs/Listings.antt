-- Which folders list each message, as it is kept while they are gone through.
use Rattle.std.specs.Prelude.{◌≡◌, ℕ, Bool, true, false, Option, Some, None, is_some, List, [], ◌∷◌}
use Rattle.std.specs.BTreeMap.{get}
use Rattle.std.specs.Global.{Vec}
use Rattle.std.specs.Ordering.{nat_cmp}
use Rattle.pst_page.specs.declared.entry.NodeEntry.{NodeEntry}
use Rattle.pst_ndb.specs.Roots.{Roots}
use Rattle.pst_verify.specs.pst_msg.Values.{is_message}
use Rattle.pst_verify.specs.pst_store.Kind.{node_of_kind}
use Rattle.pst_json.specs.declared.listings.Listings.{Listings}

-- the folders that are noted
abbrev pub noted_folders : Option (Vec ℕ) → List ℕ
noted_folders None = []
noted_folders (Some folders) = folders.items

-- those of a message
abbrev pub folders_listing : Listings → ℕ → List ℕ
folders_listing l nid = noted_folders (get nat_cmp l.folders nid)

-- a folder, where it lists the message
abbrev pub if_listed : Bool → ℕ → List ℕ
if_listed true folder = folder ∷ []
if_listed false folder = []

-- a message with this identifier is there
abbrev pub has_message : List NodeEntry → ℕ → Bool
has_message nodes nid = is_some (node_of_kind is_message nodes nid)

-- those with these roots are
abbrev pub AreThere : List NodeEntry → List Roots → Type 0
AreThere nodes [] = Unit {0}
AreThere nodes (r ∷ rs) = (has_message nodes r.top ≡ true) × AreThere nodes rs
