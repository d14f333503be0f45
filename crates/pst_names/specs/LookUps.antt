-- What the look-up of a name map answers, in the words of the file that it is of: its grammar, its blocks, its memory.
use Rattle.std.specs.Prelude.{◌≡◌, ℕ, Option, IfSome, option_map}
use Rattle.pst_bytes.specs.declared.Image.{Image}
use Rattle.pst_block.specs.Table.{Table}
use Rattle.pst_ndb.specs.Roots.{Roots}
use Rattle.pst_ndb.specs.Views.{image_of_node, table_of_node}
use Rattle.pst_names.specs.declared.name.Name.{Name}
use Rattle.pst_names.specs.declared.name_map.NameMap.{NameMap}
use Rattle.pst_names.specs.Grammar.{IsNameMap}
use Rattle.pst_names.specs.Name.{name_of_property}
use Rattle.pst_names.specs.View.{node_of_names, names_roots, name_parts, IsLent}

-- the clauses of `name`
abbrev pub GivesNameOf : NameMap → ℕ → Option Name → Type 0
GivesNameOf m id found =
    let node = node_of_names m in
    (option_map name_parts found ≡ name_of_property (table_of_node node) (names_roots m) id)
    × IfSome found (IsLent (image_of_node node) (table_of_node node) (names_roots m) id)

-- and what they are then
pub record NameMapLookUps (file : Image) (t : Table) (r : Roots) (m : NameMap) : Type 0 where
  -- it is a name map by the grammar
  pub map : IsNameMap t r
  -- `name`: what the property with an identifier is called, a string lent from where its entry says that it stands; None exactly
  -- where no entry names it
  pub name : (id : ℕ) (found : Option Name) → GivesNameOf m id found →
      (option_map name_parts found ≡ name_of_property t r id) × IfSome found (IsLent file t r id)

-- so it is of every name map
abbrev pub NameMapLookUpsLaw : Type 0
NameMapLookUpsLaw = (m : NameMap) → let node = node_of_names m in NameMapLookUps (image_of_node node) (table_of_node node) (names_roots m) m
