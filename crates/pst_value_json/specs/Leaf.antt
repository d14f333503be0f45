-- Single values as they are shown.
use Rattle.serde_json.specs.Data.{Data, null, boolean, string}
use Rattle.pst_datatree.specs.Shown.{bytes_in}
use Rattle.pst_text.specs.Names.{nid_or_null, id_text, tag_text}
use Rattle.pst_text.specs.Parts.{natural, integer}
use Rattle.pst_value_json.specs.declared.leaf.Leaf.{Leaf}
use Rattle.pst_value_json.specs.declared.leaf.Leaf.TheVariants.{Null, Truth, Natural, Integer, Nid, Id, Tag, Word, Digest, Guid, Object, Text, Hex}
use Rattle.pst_text.specs.Text.{guid_data, hex_data, text_data}
use Rattle.pst_value_json.specs.Value.{object_data}

abbrev pub leaf_data : Leaf → Data
leaf_data Null = null
leaf_data (Truth truth) = boolean truth
leaf_data (Natural n) = natural n
leaf_data (Integer z) = integer z
leaf_data (Nid nid) = nid_or_null nid
leaf_data (Id id) = string (id_text id)
leaf_data (Tag tag) = string (tag_text tag)
leaf_data (Word word) = string word.now
leaf_data (Digest digest) = hex_data digest
leaf_data (Guid guid) = guid_data guid
leaf_data (Object nid size) = object_data (nid, size)
leaf_data (Text value) = text_data (bytes_in value.now)
leaf_data (Hex value) = hex_data (bytes_in value.now)
