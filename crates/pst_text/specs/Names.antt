-- The texts of identifiers.
use Rattle.std.specs.Prelude.{ℕ, Option, Some, None, List, ◌++◌, codes}
use Rattle.std.specs.Int.{w16, w32, to_be_bytes}
use Rattle.hex.specs.Hex.{encode_upper}
use Rattle.serde_json.specs.Data.{Data, null, string}
use Rattle.pst_fault.specs.Fault.{hex}

-- a node's ([MS-PST] 2.2.2.1): hexadecimal, in lower case and without leading zeros
abbrev pub nid_text : ℕ → List ℕ
nid_text nid = codes "0x" ++ hex nid

-- a property's, or a type: four digits in upper case
abbrev pub id_text : ℕ → List ℕ
id_text id = encode_upper (to_be_bytes w16 id)

-- a column's: eight digits in upper case
abbrev pub tag_text : ℕ → List ℕ
tag_text tag = encode_upper (to_be_bytes w32 tag)

abbrev pub nid_data : ℕ → Data
nid_data nid = string (nid_text nid)

-- a node's identifier, or null
abbrev pub nid_or_null : Option ℕ → Data
nid_or_null None = null
nid_or_null (Some nid) = nid_data nid
