-- The file of a property.
use Rattle.std.proofs.Common.{◌≡◌, ℕ, false, List, [], ◌∷◌, Option, Some, None, Result, Ok, Err, refl, sym, ap, subst, ◌∙◌}
use Rattle.std.specs.Prelude.{codes}
use Rattle.pst_block.specs.Table.{Table}
use Rattle.pst_btree.specs.Entries.{first_with}
use Rattle.pst_ndb.specs.declared.node.Node.{Node}
use Rattle.pst_ndb.specs.Roots.{Roots}
use Rattle.pst_ndb.specs.NodeTable.{table_of_nodes}
use Rattle.pst_ndb.specs.Views.{table_of_node, nid_of, top_of, roots_of}
use Rattle.pst_intact.specs.declared.folder.IntactFolder.{IntactFolder}
use Rattle.pst_intact.specs.View.{intact_beside, intact_node, intact_roots}
use Rattle.pst_json.specs.pst_props.declared.document_indexes.DocumentIndexes.{DocumentIndexes}
use Rattle.pst_json.specs.pst_props.declared.fault.DocFault.{DocFault}
use Rattle.pst_json.specs.pst_props.declared.fault.DocFault.TheVariants.{NoFolder, NoNode, Bad, NoProperty, TooManyPaths, Memory}
use Rattle.pst_json.specs.DocumentIndexes.{AreDocumentIndexes}
use Rattle.pst_json.specs.Node.{node_props_data}
use Rattle.pst_json.specs.Told.{TellsDoc}
use Rattle.pst_value_json.specs.pst_text.Line.{data_line}
use Rattle.pst_value_json.specs.pst_names.Name.{NameParts}
use Rattle.pst_value_json.specs.pst_pc.Values.{Property, id_of, props_of}
use Rattle.pst_export.specs.Files.{file_at, named_file, path_of, value_file}
use Rattle.pst_export.specs.Held.{folder_in}
use Rattle.pst_export.specs.Store.{folder_file, store_file}
use Rattle.pst_export.specs.Written.{AddsFiles, member_of}
use Rattle.pst_export.proofs.WriteLemmas.{adds_none}

-- a property is there
pub file_there : (file : ℕ → ℕ → Option (List ℕ)) (t : Table) (r : Roots) (folder : List ℕ) (time id : ℕ) (p : Property) (name : Option (List ℕ))
    → Some p ≡ first_with id_of id (props_of t r) → name ≡ file p.id p.kind → named_file folder time p name ≡ file_at file t r folder time id
unfolding file_at
file_there file t r folder time id p name is called = ap (named_file folder time p) called ∙ ap (value_file file folder time) is

-- there is none
pub none_there : (a : Option (List ℕ)) (n : ℕ) (file : ℕ → ℕ → Option (List ℕ)) (t : Table) (r : Roots) (folder : List ℕ) (time id : ℕ)
    → None ≡ first_with id_of id (props_of t r) → AddsFiles a a n n (file_at file t r folder time id)
unfolding file_at
none_there a n file t r folder time id is = subst (λ p. AddsFiles a a n n (value_file file folder time p)) is (adds_none a n)

-- ---- the file of the store's own properties

pub store_there : (told : Result (List ℕ) DocFault) (line bytes : List ℕ) → told ≡ Ok line → bytes ≡ line → member_of (codes "store.json") 0 bytes ∷ [] ≡ store_file told
store_there told line bytes is same = ap (λ x. member_of (codes "store.json") 0 x ∷ []) same ∙ ap store_file (sym is)

-- there are none
pub store_none : {Y : Type 0} (a : Option (List ℕ)) (n : ℕ) (shown : Y → List ℕ) (f : DocFault) (told : Result (List ℕ) DocFault) → TellsDoc shown (Err f) told → (f ≡ Memory → ⊥)
    → AddsFiles a a n n (store_file told)
store_none a n shown NoFolder told tells other = subst (λ r. AddsFiles a a n n (store_file r)) (sym tells) (adds_none a n)
store_none a n shown NoNode told tells other = subst (λ r. AddsFiles a a n n (store_file r)) (sym tells) (adds_none a n)
store_none a n shown (Bad e) told tells other = subst (λ r. AddsFiles a a n n (store_file r)) (sym tells) (adds_none a n)
store_none a n shown (NoProperty id) told tells other = subst (λ r. AddsFiles a a n n (store_file r)) (sym tells) (adds_none a n)
store_none a n shown TooManyPaths told tells other = subst (λ r. AddsFiles a a n n (store_file r)) (sym tells) (adds_none a n)
store_none a n shown Memory told tells other = absurd (other refl)

-- ---- the file of a folder

pub folder_is : (told : ℕ → Option NameParts) (f : IntactFolder) (n : Node) (nid : ℕ) (path line : List ℕ) → n ≡ intact_node f
    → table_of_node (intact_node f) ≡ table_of_nodes (intact_beside f) → nid ≡ nid_of (intact_node f) → nid ≡ top_of (intact_node f)
    → path ≡ path_of (folder_in (codes "folders") nid) (codes "props.json")
    → line ≡ data_line (node_props_data told false (table_of_node n) (roots_of n) (nid_of n))
    → member_of path 0 line ≡ folder_file told (table_of_nodes (intact_beside f)) (intact_roots f)
unfolding folder_file
folder_is told f n nid path line same table own top called shown =
    let node = intact_node f in
    let r = roots_of node in
    let t = table_of_nodes (intact_beside f) in
    let name = path_of (folder_in (codes "folders") (top_of node)) (codes "props.json") in
    ap (λ x. member_of x 0 line) (called ∙ ap (λ k. path_of (folder_in (codes "folders") k) (codes "props.json")) top)
    ∙ ap (member_of name 0) (shown ∙ ap (λ m. data_line (node_props_data told false (table_of_node m) (roots_of m) (nid_of m))) same
    ∙ ap (λ x. data_line (node_props_data told false x r (nid_of node))) table ∙ ap (λ k. data_line (node_props_data told false t r k)) (sym own ∙ top))

-- ---- the indexes of documents

-- among the same blocks
pub indexes_over : (t u : Table) (i : DocumentIndexes) → u ≡ t → AreDocumentIndexes t i → AreDocumentIndexes u i
indexes_over t u i same are = rw same are
