-- The texts among the properties of folders and messages.
use Rattle.std.specs.Prelude.{ℕ, nat_eq, Option, Some, None, if◌then◌else◌}
use Rattle.serde_json.specs.Data.{Data, null}
use Rattle.pst_block.specs.Table.{Table}
use Rattle.pst_btree.specs.Entries.{first_with}
use Rattle.pst_ndb.specs.Roots.{Roots}
use Rattle.pst_value_json.specs.pst_pc.Values.{Property, id_of, props_of}
use Rattle.pst_value_json.specs.pst_text.Text.{text_data}

-- the text of a property, where it is there and is text
abbrev pub text_or_null : Option Property → Data
text_or_null None = null
text_or_null (Some p) = if nat_eq p.kind 0x001F then text_data p.bytes else null

-- that of the property with an identifier
unfoldable pub text_property : Table → Roots → ℕ → Data
text_property t r id = text_or_null (first_with id_of id (props_of t r))
