-- Which first fault the plain twin of an encoded file has.
use Rattle.std.specs.Prelude.{◌≡◌, ℕ, List, Option, Some, None, if◌then◌else◌}
use Rattle.std.specs.List.{All}
use Rattle.pst_bytes.specs.Image.{bytes_at}
use Rattle.pst_fault.specs.declared.fault.Fault.{Fault}
use Rattle.pst_fault.specs.First.{◌then◌}
use Rattle.pst_header.specs.Header.{header_fault, check_fault, root_fault, fields}
use Rattle.pst_page.specs.declared.entry.BlockEntry.{BlockEntry}
use Rattle.pst_block.specs.Block.{body_span}
use Rattle.pst_encoding.specs.declared.method.Method.{Method}
use Rattle.pst_encoding.specs.Method.{decoded}
use Rattle.pst_encoding.specs.Tables.{IsByte}
use Rattle.pst_ndb.specs.Entries.{block_list, node_list}
use Rattle.pst_ndb.specs.Space.{space_fault}
use Rattle.pst_plain.specs.Blocks.{has_data}
use Rattle.pst_plain.specs.Twin.{method_of, with_method, twin_of}

-- the first fault of a file up to its allocation maps: of its header; of the pages of both B-trees and of the blocks; of the maps
abbrev pub fault_before_nodes : List ℕ → Option Fault
fault_before_nodes I = header_fault I then space_fault I (fields I)

-- An encoded file with bCryptMethod 0 has the fields of the file. Of its header it has the first fault that the file's own check
-- values and ROOT structure have: what comes before these in the order of the rules is right, but for Encoded. Of its pages, blocks
-- and allocation maps it has the file's own first fault.
abbrev pub EncodedHeaderLaw : Type 0
EncodedHeaderLaw = (I : List ℕ) (method : Method) → All IsByte I → method_of I ≡ Some method →
    let J = with_method 0 I in
    (header_fault J ≡ (check_fault I then root_fault I)) × (fields J ≡ fields I) × (space_fault J (fields J) ≡ space_fault I (fields I))

-- Up to its allocation maps the twin has the first fault of the file, Encoded aside, in kind, place and block: that of the file's
-- check values and ROOT structure, then that of its pages, blocks and maps; and none where the file has none.
abbrev pub FrontLaw : Type 0
FrontLaw = (I : List ℕ) (method : Method) → All IsByte I → method_of I ≡ Some method →
    fault_before_nodes (twin_of I) ≡ (check_fault I then root_fault I then space_fault I (fields I))

-- the body of a block of an encoded file, decoded if the block is a data block
abbrev pub plain_body : Method → BlockEntry → List ℕ → List ℕ
plain_body method e body = if has_data e then decoded method e.bid body else body

-- The entries of both B-trees are those of the file, and the body of each block is the file's, that of each data block decoded.
pub record IsDecoded (method : Method) (I T : List ℕ) : Type 0 where
  pub nodes : node_list T (fields T) ≡ node_list I (fields I)
  pub blocks : block_list T (fields T) ≡ block_list I (fields I)
  pub bodies : All (λ e. bytes_at T (body_span e) ≡ plain_body method e (bytes_at I (body_span e))) (block_list I (fields I))

-- What comes later, the nodes, is read from these entries and these bodies: where the twin has no fault up to its maps, no data
-- block is left encoded, and no other block is decoded.
abbrev pub LaterLaw : Type 0
LaterLaw = (I : List ℕ) (method : Method) → All IsByte I → method_of I ≡ Some method → fault_before_nodes (twin_of I) ≡ None → IsDecoded method I (twin_of I)
