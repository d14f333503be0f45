-- Laws of what remains of a file.
use Rattle.std.specs.Prelude.{◌≡◌, ℕ, List, [], ◌∷◌, Option, Some, None}
use Rattle.std.specs.List.{All}
use Rattle.pst_bytes.specs.Image.{bytes_at}
use Rattle.pst_fault.specs.declared.fault.Fault.{Fault}
use Rattle.pst_fault.specs.First.{◌then◌}
use Rattle.pst_header.specs.Header.{fields}
use Rattle.pst_block.specs.Block.{body_span}
use Rattle.pst_encoding.specs.declared.method.Method.{Method}
use Rattle.pst_encoding.specs.Tables.{IsByte}
use Rattle.pst_ndb.specs.Entries.{block_table, node_list}
use Rattle.pst_ndb.specs.Space.{space_fault}
use Rattle.pst_plain.specs.Faults.{fault_before_nodes, plain_body}
use Rattle.pst_plain.specs.Twin.{method_of, twin_of}
use Rattle.pst_remains.specs.Decoded.{decoded_remains_of}
use Rattle.pst_remains.specs.Header.{header_damage}
use Rattle.pst_remains.specs.Remains.{RemainsParts, remains_of}

-- the first of some faults
abbrev pub first_in : List Fault → Option Fault
first_in [] = None
first_in (f ∷ rest) = Some f

-- the first of what is told, in the order of the parts
abbrev pub first_told : RemainsParts → Option Fault
first_told r = r.header then first_in r.pages then first_in r.blocks then r.maps

-- What a check answers up to the maps is the first of what is told: so nothing is told exactly where it finds no fault.
abbrev pub FirstLaw : Type 0
FirstLaw = (I : List ℕ) → first_told (remains_of I) ≡ (header_damage I then space_fault I (fields I))

-- Where nothing is told, all blocks and all nodes are left.
abbrev pub WholeLaw : Type 0
WholeLaw = (I : List ℕ) → first_told (remains_of I) ≡ None → ((remains_of I).table ≡ block_table I (fields I)) × ((remains_of I).nodes ≡ node_list I (fields I))

-- ---- of an encoded file, its blocks decoded

-- What a check of the plain twin answers up to the maps is the first of what is told of the file.
abbrev pub DecodedFirstLaw : Type 0
DecodedFirstLaw = (I : List ℕ) (method : Method) → All IsByte I → method_of I ≡ Some method → first_told (decoded_remains_of method I) ≡ fault_before_nodes (twin_of I)

-- Where nothing is told, the bytes are those of the plain twin, and all its blocks and all its nodes are left.
abbrev pub DecodedWholeLaw : Type 0
DecodedWholeLaw = (I : List ℕ) (method : Method) → All IsByte I → method_of I ≡ Some method →
    let T = twin_of I in let r = decoded_remains_of method I in
    first_told r ≡ None → (r.table ≡ block_table T (fields T)) × (r.nodes ≡ node_list T (fields T))

-- Each data block that is left is decoded once, and no other: the body of each is that of the file, a data block's decoded.
abbrev pub DecodedOnceLaw : Type 0
DecodedOnceLaw = (I : List ℕ) (method : Method) → All IsByte I → method_of I ≡ Some method →
    let t = (decoded_remains_of method I).table in All (λ e. bytes_at t.image (body_span e) ≡ plain_body method e (bytes_at I (body_span e))) t.entries
