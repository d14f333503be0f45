-- What each step of the check adds is named.
use Rattle.std.proofs.Common.{◌≡◌, ℕ, zero, suc, ◌<◌, true, List, [], ◌∷◌, length, Some, sym, ◌⊎◌, inl, inr, arith}
use Rattle.std.specs.List.{Contains, slice_index_or}
use Rattle.std.proofs.lemmas.Bool.Decides.{nat_tests}
use Rattle.pst_page.specs.declared.entry.NodeEntry.{NodeEntry}
use Rattle.pst_block.specs.Table.{Table}
use Rattle.pst_ndb.specs.declared.node.Node.{Node}
use Rattle.pst_mail.specs.declared.object.Object.{Object}
use Rattle.pst_names.specs.declared.name_map.TheConstants.{NAME_MAP}
use Rattle.pst_ndb.specs.Roots.{Roots, subnode_of, node_in, all_roots}
use Rattle.pst_ndb.specs.Views.{roots_of}
use Rattle.pst_mail.specs.Values.{embedded_of, is_message, listing_of}
use Rattle.pst_mail.specs.declared.items.Items.{Items}
use Rattle.pst_msg.specs.declared.known.KnownParts.{KnownParts}
use Rattle.pst_mail.specs.declared.nid.TheConstants.{STORE, ROOT, FOLDER, SEARCH_FOLDER, ATTACHMENTS, RECIPIENTS}
use Rattle.pst_remembered.specs.declared.role.Role.TheVariants.{Properties, Listed, Recipients, Attachments}
use Rattle.pst_mail.specs.Nid.{type_of, is_type}
use Rattle.pst_msg.specs.Counts.{HasMessage, node, embedded, HasAttachment, Names, of_store, of_root, of_names, of_folder, of_search, of_message, of_attachment, listed, recipients, attachments, IsNode}
use Rattle.pst_msg.specs.Frames.{HoldsAttachment}
use Rattle.pst_msg.specs.Growth.{Grows, FolderIn, NodeIn}
use Rattle.pst_msg.proofs.CountLemmas.{grows_then, grows_of}
use Rattle.pst_fault.proofs.EachLemmas.{contains_here, contains_later}

-- ---- messages

pub recipients_grow : (t u : Table) (r : Roots) (s : Node) (a b : KnownParts) → u ≡ t → Some (roots_of s) ≡ subnode_of t r RECIPIENTS → Grows u (λ nodes. Names u nodes Recipients (roots_of s)) a b → Grows t (λ nodes. HasMessage t nodes r) a b
recipients_grow t u r s a b same is g = grows_of t (λ nodes. Names t nodes Recipients (roots_of s)) (λ nodes. HasMessage t nodes r) a b (λ nodes held. recipients r (roots_of s) held (sym is)) (rw same at g)

pub attachments_grow : (t u : Table) (r : Roots) (s : Node) (a b : KnownParts) → u ≡ t → Some (roots_of s) ≡ subnode_of t r ATTACHMENTS → Grows u (λ nodes. Names u nodes Attachments (roots_of s)) a b → Grows t (λ nodes. HasMessage t nodes r) a b
attachments_grow t u r s a b same is g = grows_of t (λ nodes. Names t nodes Attachments (roots_of s)) (λ nodes. HasMessage t nodes r) a b (λ nodes held. attachments r (roots_of s) held (sym is)) (rw same at g)

pub row_grows : (t u : Table) (r : Roots) (nid : ℕ) (s : Node) (a b : KnownParts) → u ≡ t → Some (roots_of s) ≡ subnode_of t r nid → Grows u (λ nodes. HasAttachment u nodes (roots_of s)) a b → Grows t (λ nodes. HoldsAttachment t nodes r nid) a b
row_grows t u r nid s a b same is g = grows_of t (λ nodes. HasAttachment t nodes (roots_of s)) (λ nodes. HoldsAttachment t nodes r nid) a b (λ nodes h. h (roots_of s) (sym is)) (rw same at g)

pub properties_grow : (t : Table) (r : Roots) (a b : KnownParts) → Grows t (λ nodes. Names t nodes Properties r) a b → Grows t (λ nodes. HasMessage t nodes r) a b
properties_grow t r a b g = grows_of t (λ nodes. Names t nodes Properties r) (λ nodes. HasMessage t nodes r) a b (λ nodes held. of_message r held) g

pub attached_grow : (t : Table) (r : Roots) (a b : KnownParts) → Grows t (λ nodes. Names t nodes Properties r) a b → Grows t (λ nodes. HasAttachment t nodes r) a b
attached_grow t r a b g = grows_of t (λ nodes. Names t nodes Properties r) (λ nodes. HasAttachment t nodes r) a b (λ nodes held. of_attachment r held) g

pub object_grows : (t u : Table) (r : Roots) (o : Object) (s : Node) (a b : KnownParts) → u ≡ t → Some (roots_of s) ≡ subnode_of t r o.nid → Grows u (λ nodes. HasMessage u nodes (roots_of s)) a b → Grows t (λ nodes. HasAttachment t nodes r × (embedded_of t r ≡ Some o)) a b
object_grows t u r o s a b same is g = grows_of t (λ nodes. HasMessage t nodes (roots_of s)) (λ nodes. HasAttachment t nodes r × (embedded_of t r ≡ Some o)) a b (λ nodes h. embedded r (roots_of s) o h.0 h.1 (sym is)) (rw same at g)

pub embedded_grows : (t : Table) (r : Roots) (o : Object) (a b : KnownParts) → embedded_of t r ≡ Some o → Grows t (λ nodes. HasAttachment t nodes r × (embedded_of t r ≡ Some o)) a b → Grows t (λ nodes. HasAttachment t nodes r) a b
embedded_grows t r o a b is g = grows_of t (λ nodes. HasAttachment t nodes r × (embedded_of t r ≡ Some o)) (λ nodes. HasAttachment t nodes r) a b (λ nodes held. (held, is)) g

-- ---- nodes

pub required_grows : (t u : Table) (N : List NodeEntry) (nid : ℕ) (s : Node) (a b : KnownParts) → u ≡ t → Some (roots_of s) ≡ node_in N nid → Grows u (λ nodes. Names u nodes Properties (roots_of s)) a b → Grows t (λ nodes. (nodes ≡ N) × ((r : Roots) → node_in nodes nid ≡ Some r → Names t nodes Properties r)) a b
required_grows t u N nid s a b same is g = grows_of t (λ nodes. Names t nodes Properties (roots_of s)) (λ nodes. (nodes ≡ N) × ((r : Roots) → node_in nodes nid ≡ Some r → Names t nodes Properties r)) a b (λ nodes h. h.1 (roots_of s) (rw h.0 (sym is))) (rw same at g)

pub listed_grows : (t u : Table) (N : List NodeEntry) (items : Items) (nid : ℕ) (s : Node) (a b : KnownParts) → u ≡ t → listing_of N items nid ≡ Some (roots_of s) → Grows u (λ nodes. Names u nodes (Listed items) (roots_of s)) a b → Grows t (λ nodes. (nodes ≡ N) × ((r : Roots) × IsNode nodes FOLDER r × (r.top ≡ nid))) a b
listed_grows t u N items nid s a b same is g = grows_of t (λ nodes. Names t nodes (Listed items) (roots_of s)) (λ nodes. (nodes ≡ N) × ((r : Roots) × IsNode nodes FOLDER r × (r.top ≡ nid))) a b (λ nodes h. listed h.1.0 (roots_of s) items h.1.1 (rw (h.0, h.1.2) is)) (rw same at g)

pub folder_grows : (t u : Table) (N : List NodeEntry) (r : Roots) (a b : KnownParts) → u ≡ t → Grows u (λ nodes. Names u nodes Properties r) a b → Grows t (λ nodes. (nodes ≡ N) × IsNode nodes FOLDER r) a b
folder_grows t u N r a b same g = grows_of t (λ nodes. Names t nodes Properties r) (λ nodes. (nodes ≡ N) × IsNode nodes FOLDER r) a b (λ nodes h. of_folder r h.1) (rw same at g)

pub table_grows : (t : Table) (N : List NodeEntry) (r : Roots) (nid : ℕ) (a b c : KnownParts) → nid ≡ r.top → Grows t (λ nodes. (nodes ≡ N) × IsNode nodes FOLDER r) a b → Grows t (λ nodes. (nodes ≡ N) × ((s : Roots) × IsNode nodes FOLDER s × (s.top ≡ nid))) b c → Grows t (λ nodes. (nodes ≡ N) × IsNode nodes FOLDER r) a c
table_grows t N r nid a b c same g h = grows_then t (λ nodes. (nodes ≡ N) × IsNode nodes FOLDER r) a b c g (grows_of t (λ nodes. (nodes ≡ N) × ((s : Roots) × IsNode nodes FOLDER s × (s.top ≡ nid))) (λ nodes. (nodes ≡ N) × IsNode nodes FOLDER r) b c (λ nodes held. (held.0, (r, held.1, sym same))) h)

type_is : (kind nid : ℕ) → is_type kind nid ≡ true → type_of nid ≡ kind
type_is kind nid e = grind (arith, nat_tests)

pub search_grows : (t u : Table) (N : List NodeEntry) (r : Roots) (a b : KnownParts) → u ≡ t → is_type SEARCH_FOLDER r.top ≡ true → Grows u (λ nodes. Names u nodes Properties r) a b → Grows t (λ nodes. (nodes ≡ N) × Contains (all_roots nodes) r) a b
search_grows t u N r a b same is g = grows_of t (λ nodes. Names t nodes Properties r) (λ nodes. (nodes ≡ N) × Contains (all_roots nodes) r) a b (λ nodes h. of_search r (h.1, type_is SEARCH_FOLDER r.top is)) (rw same at g)

pub message_node_grows : (t u : Table) (N : List NodeEntry) (r : Roots) (a b : KnownParts) → u ≡ t → is_message r.top ≡ true → Grows u (λ nodes. HasMessage u nodes r) a b → Grows t (λ nodes. (nodes ≡ N) × Contains (all_roots nodes) r) a b
message_node_grows t u N r a b same is g = grows_of t (λ nodes. HasMessage t nodes r) (λ nodes. (nodes ≡ N) × Contains (all_roots nodes) r) a b (λ nodes h. node r h.1 is) (rw same at g)

pub nodes_grow : (t : Table) (N : List NodeEntry) (r : Roots) (a b c : KnownParts) → Contains (all_roots N) r → Grows t (λ nodes. nodes ≡ N) a b → Grows t (λ nodes. (nodes ≡ N) × Contains (all_roots nodes) r) b c → Grows t (λ nodes. nodes ≡ N) a c
nodes_grow t N r a b c within g h = grows_then t (λ nodes. nodes ≡ N) a b c g (grows_of t (λ nodes. (nodes ≡ N) × Contains (all_roots nodes) r) (λ nodes. nodes ≡ N) b c (λ nodes e. (e, rw e within)) h)

pub store_grows : (t : Table) (N : List NodeEntry) (a b : KnownParts) → Grows t (λ nodes. (nodes ≡ N) × ((r : Roots) → node_in nodes STORE ≡ Some r → Names t nodes Properties r)) a b → Grows t (λ nodes. nodes ≡ N) a b
store_grows t N a b g = grows_of t (λ nodes. (nodes ≡ N) × ((r : Roots) → node_in nodes STORE ≡ Some r → Names t nodes Properties r)) (λ nodes. nodes ≡ N) a b (λ nodes e. (e, λ r is. of_store r is)) g

pub root_grows : (t : Table) (N : List NodeEntry) (a b : KnownParts) → Grows t (λ nodes. (nodes ≡ N) × ((r : Roots) → node_in nodes ROOT ≡ Some r → Names t nodes Properties r)) a b → Grows t (λ nodes. nodes ≡ N) a b
root_grows t N a b g = grows_of t (λ nodes. (nodes ≡ N) × ((r : Roots) → node_in nodes ROOT ≡ Some r → Names t nodes Properties r)) (λ nodes. nodes ≡ N) a b (λ nodes e. (e, λ r is. of_root r is)) g

pub names_grow : (t : Table) (N : List NodeEntry) (a b : KnownParts) → Grows t (λ nodes. (nodes ≡ N) × ((r : Roots) → node_in nodes NAME_MAP ≡ Some r → Names t nodes Properties r)) a b → Grows t (λ nodes. nodes ≡ N) a b
names_grow t N a b g = grows_of t (λ nodes. (nodes ≡ N) × ((r : Roots) → node_in nodes NAME_MAP ≡ Some r → Names t nodes Properties r)) (λ nodes. nodes ≡ N) a b (λ nodes e. (e, λ r is. of_names r is)) g

-- ---- later

pub folder_later : (t : Table) (H : List NodeEntry → Type 0) (N : List NodeEntry) (a b : KnownParts) (r : Roots) → Grows t H a b → FolderIn N a r → FolderIn N b r
folder_later t H N a b r g f = record {
  properties = g.contexts _ f.properties;
  tables = λ items s is. g.contexts _ (f.tables items s is);
}

pub node_later : (t : Table) (H : List NodeEntry → Type 0) (N : List NodeEntry) (a b : KnownParts) (r : Roots) → Grows t H a b → NodeIn N a r → NodeIn N b r
node_later t H N a b r g n = record {
  folders = λ is. folder_later t H N a b r g (n.folders is);
  searches = λ is. g.contexts _ (n.searches is);
  messages = λ is. g.messages _ (n.messages is);
}

-- ---- all that are in a list, one after another

-- what is left is of the list
pub within_later : {X : Type 0} (all xs rest : List X) (x : X) → xs ≡ x ∷ rest → ((y : X) → Contains xs y → Contains all y) → (y : X) → Contains rest y → Contains all y
within_later all xs rest x is within y w = within y (rw is (contains_later x y rest w))

pub within_here : {X : Type 0} (all xs rest : List X) (x : X) → xs ≡ x ∷ rest → ((y : X) → Contains xs y → Contains all y) → Contains all x
within_here all xs rest x is within = within x (rw is (contains_here x rest))

pub by_first : {X : Type 0} (P : X → Type 0) (x y : X) (rest : List X) → P x → Contains (x ∷ rest) y → P y ⊎ Contains rest y
by_first P x y rest one w = by_place w.0 w.1 w.2
  where
    by_place : (k : ℕ) → k < length (x ∷ rest) → slice_index_or (x ∷ rest) k y ≡ y → P y ⊎ Contains rest y
    by_place zero lt is = inl (rw (← is) one)
    by_place (suc k) lt is = inr (k, omega arith, is)

pub step_of : {X : Type 0} (P Q : X → Type 0) (all xs rest : List X) (x : X) → xs ≡ x ∷ rest → ((y : X) → P y → Q y) → Q x → ((y : X) → Contains all y → P y ⊎ Contains xs y) → (y : X) → Contains all y → Q y ⊎ Contains rest y
step_of P Q all xs rest x is later here so_far y w = elim (so_far y w) [
  | inl done ↦ inl (later y done)
  | inr left ↦ by_first Q x y rest here (rw is at left)
]

pub done_of : {X : Type 0} (P : X → Type 0) (all xs : List X) → xs ≡ [] → ((y : X) → Contains all y → P y ⊎ Contains xs y) → (y : X) → Contains all y → P y
done_of P all xs is so_far y w = elim (so_far y w) [
  | inl done ↦ done
  | inr left ↦ let none : Contains [] y = (rw is at left) in absurd (omega (arith, none.1))
]
