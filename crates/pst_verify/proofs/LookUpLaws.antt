-- What each later look-up answers of bytes for which the check of a whole file said yes.
use Rattle.std.proofs.Common.{◌≡◌, Option, Some, None, refl, ap, ◌∙◌, subst}
use Rattle.std.specs.Prelude.{IfSome}
use Rattle.pst_ndb.specs.declared.node.Node.{Node}
use Rattle.pst_ndb.specs.Views.{image_of_node, image_of_ndb, header_of, table_of_node, table_of_ndb, nodes_of}
use Rattle.pst_reach.specs.pst_store.pst_msg.pst_names.declared.name_map.NameMap.{NameMap}
use Rattle.pst_reach.specs.pst_store.pst_msg.pst_names.LookUps.{NameMapLookUps}
use Rattle.pst_reach.specs.pst_store.pst_msg.pst_names.View.{node_of_names, names_roots}
use Rattle.pst_reach.specs.pst_store.pst_msg.pst_mail.declared.folder_view.Folder.{Folder}
use Rattle.pst_reach.specs.pst_store.pst_msg.pst_mail.declared.message_view.Message.{Message}
use Rattle.pst_reach.specs.pst_store.pst_msg.NodeLookUps.{NodeLookUps}
use Rattle.pst_reach.specs.pst_store.pst_msg.LookUps.{FolderLookUps, ViewLookUps}
use Rattle.pst_reach.specs.pst_store.pst_msg.View.{ndb_of_folder, node_of_message}
use Rattle.pst_reach.proofs.pst_store.pst_msg.LookUpLaws.{folder_law, views_law}
use Rattle.pst_reach.specs.pst_store.declared.store.Store.{Store}
use Rattle.pst_reach.specs.pst_store.Parts.{parts_table, parts_entries}
use Rattle.pst_reach.specs.pst_store.Values.{store_in}
use Rattle.pst_reach.specs.pst_store.View.{ndb_of_store, memory_of_store, bytes_of_store, image_of_store, table_of_store, nodes_of_store}
use Rattle.pst_reach.proofs.pst_store.StoreLemmas.{table_is, entries_are}
use Rattle.pst_verify.specs.LookUps.{IsFolderIn, IsMessageIn, StoreLookUps, LookUps, LookUpsLaw}

-- ---- what a look-up found

views_of : (s : Store) → ViewLookUps (image_of_store s) (table_of_store s)
views_of s = views_law (image_of_store s) (table_of_store s)

node_found : (s : Store) (found : Option Node) → IfSome found (λ n. image_of_node n ≡ image_of_store s)
    → IfSome found (λ n. table_of_node n ≡ table_of_store s) → IfSome found (NodeLookUps (image_of_store s) (table_of_store s))
node_found s None image table = tt
node_found s (Some n) image table = (views_of s).node n (image, table)

names_found : (s : Store) (found : Option NameMap) → IfSome found (λ m. image_of_node (node_of_names m) ≡ image_of_store s)
    → IfSome found (λ m. table_of_node (node_of_names m) ≡ table_of_store s)
    → IfSome found (λ m. NameMapLookUps (image_of_store s) (table_of_store s) (names_roots m) m)
names_found s None image table = tt
names_found s (Some m) image table = (views_of s).names m (image, table)

folder_in : (s : Store) (f : Folder) → ndb_of_folder f ≡ ndb_of_store s → IsFolderIn (table_of_store s) (nodes_of_store s) s f
folder_in s f is = (
  subst (λ ndb. FolderLookUps (image_of_ndb ndb) (table_of_ndb ndb) (nodes_of ndb) f) is (folder_law f),
  (f.image ∙ ap image_of_ndb is, f.table ∙ ap table_of_ndb is),
)

folder_found : (s : Store) (found : Option Folder) → IfSome found (λ f. ndb_of_folder f ≡ ndb_of_store s)
    → IfSome found (IsFolderIn (table_of_store s) (nodes_of_store s) s)
folder_found s None is = tt
folder_found s (Some f) is = folder_in s f is

message_found : (s : Store) (found : Option Message) → IfSome found (λ m. image_of_node (node_of_message m) ≡ image_of_store s)
    → IfSome found (λ m. table_of_node (node_of_message m) ≡ table_of_store s) → IfSome found (IsMessageIn (table_of_store s) s)
message_found s None image table = tt
message_found s (Some m) image table = ((views_of s).message m (image, table), (image, table))

-- ---- in the words of the view

own_look_ups : (s : Store) → StoreLookUps (memory_of_store s) (table_of_store s) (nodes_of_store s) s
own_look_ups s = record {
  memory = refl;
  node = λ nid found is. (is.0, node_found s found is.1 is.2, is.4);
  props = λ pc is. (is.0, (views_of s).pc pc (is.1, is.2));
  names = λ found is. (is.0, names_found s found is.1 is.2);
  name = λ id found is. is;
  root = λ f is. (is.0, folder_in s f is.1);
  folder = λ nid found is. (is.0, folder_found s found is.1, is.2);
  folders = λ all is. is;
  next_folder = λ old new taken own is. (
    is.0,
    is.1 ∙ own,
    folder_found s taken (subst (λ ndb. IfSome taken (λ f. ndb_of_folder f ≡ ndb)) own is.2),
  );
  message = λ nid found is. (is.0, message_found s found is.1 is.2, is.3);
  messages = λ all is. is;
  next_message = λ old new taken own is. (
    is.0,
    is.1 ∙ own,
    message_found s taken
        (subst (λ ndb. IfSome taken (λ m. image_of_node (node_of_message m) ≡ image_of_ndb ndb)) own is.3)
        (subst (λ ndb. IfSome taken (λ m. table_of_node (node_of_message m) ≡ table_of_ndb ndb)) own is.2),
  );
  views = views_of s;
}

-- ---- and in those of the store that the bytes are

blocks_are : (s : Store) → table_of_store s ≡ parts_table (bytes_of_store s) (store_in (bytes_of_store s))
blocks_are s = table_is (bytes_of_store s) (header_of s.ndb) (table_of_store s) s.ndb.fields s.ndb.table

nodes_are : (s : Store) → nodes_of_store s ≡ parts_entries (bytes_of_store s) (store_in (bytes_of_store s))
nodes_are s = entries_are (bytes_of_store s) (header_of s.ndb) (nodes_of_store s) s.ndb.fields s.ndb.entries

spelt_look_ups : (s : Store) → LookUps (memory_of_store s) (store_in (bytes_of_store s)) s
spelt_look_ups s =
    subst (λ t. StoreLookUps (memory_of_store s) t (parts_entries (bytes_of_store s) (store_in (bytes_of_store s))) s) (blocks_are s)
    (subst (λ nodes. StoreLookUps (memory_of_store s) (table_of_store s) nodes s) (nodes_are s) (own_look_ups s))

pub look_ups_law : LookUpsLaw
look_ups_law bytes v is = subst (λ b. LookUps b (store_in b.now) v.store) is.view (spelt_look_ups v.store)
