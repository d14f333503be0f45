-- The JSON value of a property's value, by its type and its bytes.
use Rattle.std.specs.Prelude.{ℕ, Option, Some, None, ◌%◌, List, length, nat_eq, codes, if◌then◌else◌}
use Rattle.serde_json.specs.Data.{Data, null, boolean, object, member, no_members}
use Rattle.pst_value.specs.Read.{exactly, i16_of, i32_of, i64_of, u32_of, u64_of, bool_of, guid_of, object_of}
use Rattle.pst_value.specs.Multi.{elements_of}
use Rattle.pst_text.specs.Names.{nid_data}
use Rattle.pst_text.specs.Parts.{natural, integer, list_data}
use Rattle.pst_text.specs.Text.{guid_data, hex_data, text_data}
use Rattle.pst_value.specs.declared.form.Form.{Form}
use Rattle.pst_value.specs.declared.form.Form.TheVariants.{Int16, Int32, Int64, Nat32, Nat64, Truth, Guid, Object, Text, Fixed, Open}
use Rattle.pst_value.specs.Class.{form_of}

abbrev pub object_data : ℕ × ℕ → Data
object_data o = object (member (codes "nid") (nid_data o.0) (member (codes "size") (natural o.1) no_members))

-- null where there is no byte, else hexadecimal
abbrev pub null_or_hex : List ℕ → Data
null_or_hex bytes = if nat_eq (length bytes) 0 then null else hex_data bytes

-- what was read, where the bytes are as they should be
abbrev pub or_hex : {X : Type 0} → (X → Data) → Option X → List ℕ → Data
or_hex shown None bytes = null_or_hex bytes
or_hex shown (Some x) bytes = shown x

-- a single value, as its type is shown
abbrev pub form_data : Form → List ℕ → Data
form_data Int16 bytes = or_hex integer (exactly 2 i16_of bytes) bytes
form_data Int32 bytes = or_hex integer (exactly 4 i32_of bytes) bytes
form_data Int64 bytes = or_hex integer (exactly 8 i64_of bytes) bytes
form_data Nat32 bytes = or_hex natural (exactly 4 u32_of bytes) bytes
form_data Nat64 bytes = or_hex natural (exactly 8 u64_of bytes) bytes
form_data Truth bytes = or_hex boolean (exactly 1 bool_of bytes) bytes
form_data Guid bytes = or_hex guid_data (exactly 16 guid_of bytes) bytes
form_data Object bytes = or_hex object_data (object_of bytes) bytes
form_data Text bytes = text_data bytes
form_data Fixed bytes = null_or_hex bytes
form_data Open bytes = hex_data bytes

-- a value of a single type
abbrev pub single_data : ℕ → List ℕ → Data
single_data t bytes = form_data (form_of t) bytes

abbrev pub values_data : Option (List (List ℕ)) → ℕ → List ℕ → Data
values_data None t bytes = single_data t bytes
values_data (Some values) t bytes = list_data (single_data (t % 0x1000)) values

-- A value: of several, whose type is that of a single one and 0x1000 more, the list of them, where they are as they should
-- be; and else a single one.
unfoldable pub value_data : ℕ → List ℕ → Data
value_data t bytes = values_data (elements_of t bytes) t bytes
