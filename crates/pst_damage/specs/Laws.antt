-- Laws of all that is broken of a file.
use Rattle.std.specs.Prelude.{◌≡◌, ℕ, ◌↔◌, Bool, nat_eq, nat_le, List, [], ◌∷◌, length, Option, None, Some, is_some, option_map, All, if◌then◌else◌}
use Rattle.pst_bytes.specs.Image.{num}
use Rattle.pst_fault.specs.declared.fault.Fault.{Fault}
use Rattle.pst_fault.specs.declared.kind.Kind.TheVariants.{Short, Magic, Version, Encoded}
use Rattle.pst_fault.specs.Fault.{fault_at}
use Rattle.pst_fault.specs.Each.{if_there}
use Rattle.pst_fault.specs.First.{◌then◌, holds_or}
use Rattle.pst_page.specs.declared.entry.NodeEntry.{NodeEntry}
use Rattle.pst_btree.specs.Entries.{first_with, node_with}
use Rattle.pst_block.specs.Table.{Table}
use Rattle.pst_ndb.specs.Fault.{node_fault}
use Rattle.pst_encoding.specs.declared.method.Method.{Method}
use Rattle.pst_encoding.specs.Tables.{IsByte}
use Rattle.pst_plain.specs.Twin.{method_of, twin_of}
use Rattle.pst_remains.specs.Decoded.{decoded_remains_of}
use Rattle.pst_remains.specs.Laws.{first_in}
use Rattle.pst_remains.specs.Remains.{RemainsParts, remains_of}
use Rattle.pst_msg.specs.pst_names.declared.name_map.TheConstants.{NAME_MAP}
use Rattle.pst_msg.specs.pst_mail.declared.nid.TheConstants.{STORE, ROOT}
use Rattle.pst_msg.specs.Fault.{required_fault}
use Rattle.pst_store.specs.Fault.{store_fault}
use Rattle.pst_store.specs.Grammar.{IsStore}
use Rattle.pst_store.specs.Parts.{StoreParts}
use Rattle.pst_store.specs.Values.{store_in}
use Rattle.pst_damage.specs.declared.broken.BrokenNode.{BrokenNode}
use Rattle.pst_damage.specs.Damage.{DamageParts, damage_in, damage_of}

-- What is answered of a file before all that is broken of it is sought ([MS-PST] 2.2.2.6): it is too short for a header, or its magic
-- numbers, its version or its method are other ones.
abbrev pub profile_fault : List ℕ → Option Fault
profile_fault I =
    holds_or (nat_le 564 (length I)) (fault_at Short 0)
    then holds_or (nat_eq (num I 0 4) 0x4e444221) (fault_at Magic 0)
    then holds_or (nat_eq (num I 8 2) 0x4d53) (fault_at Magic 8)
    then holds_or (nat_eq (num I 10 2) 23) (fault_at (Version (num I 10 2)) 10)
    then holds_or (nat_eq (num I 513 1) 0) (fault_at (Encoded (num I 513 1)) 513)

-- ---- what a check answers is told, as the first of these

-- the fault that is told of a node
abbrev pub told_nid : BrokenNode → ℕ
told_nid b = b.nid

abbrev pub fault_told : ℕ → List BrokenNode → Option Fault
fault_told nid told = option_map (λ (b : BrokenNode). b.fault) (first_with told_nid nid told)

-- of the nodes the first whose data or subnodes have a fault
abbrev pub has_own : Table → List NodeEntry → ℕ → Bool
has_own t nodes nid = is_some (if_there (node_fault t) (node_with nid nodes))

abbrev pub first_own : Table → List NodeEntry → List BrokenNode → Option Fault
first_own t nodes [] = None
first_own t nodes (b ∷ rest) = if has_own t nodes b.nid then Some b.fault else first_own t nodes rest

-- then that of the node of the store; that of the root folder, where it is missing or has no properties; that of the name map; and
-- then the first of all others
abbrev pub told_of_root : Table → List NodeEntry → List BrokenNode → Option Fault
told_of_root t nodes told = if is_some (required_fault t nodes ROOT) then fault_told ROOT told else None

abbrev pub first_of_all : List BrokenNode → Option Fault
first_of_all [] = None
first_of_all (b ∷ rest) = Some b.fault

abbrev pub first_of_nodes : Table → List NodeEntry → List BrokenNode → Option Fault
first_of_nodes t nodes told =
    first_own t nodes told then fault_told STORE told then told_of_root t nodes told then fault_told NAME_MAP told then first_of_all told

-- the parts in their order
abbrev pub first_of_parts : RemainsParts → DamageParts → Option Fault
first_of_parts r d = d.header then first_in d.pages then first_in d.blocks then d.maps then first_of_nodes r.table r.nodes d.nodes

-- What a check answers of a file is what is answered of its front, or else the first of all that is broken.
abbrev pub FirstDamageLaw : Type 0
FirstDamageLaw = (I : List ℕ) → store_fault I ≡ (profile_fault I then first_of_parts (remains_of I) (damage_of I))

-- ---- nothing is broken exactly where the file is a store

pub record IsUntold (d : DamageParts) : Type 0 where
  pub header : d.header ≡ None
  pub pages : d.pages ≡ []
  pub blocks : d.blocks ≡ []
  pub maps : d.maps ≡ None
  pub nodes : d.nodes ≡ []

-- A file is a store exactly where its front has no fault and nothing of it is broken; and it is one store at most.
abbrev pub NothingBrokenLaw : Type 0
NothingBrokenLaw = (I : List ℕ) (s : StoreParts) → IsStore I s ↔ ((profile_fault I ≡ None) × IsUntold (damage_of I) × (s ≡ store_in I))

-- ---- of an encoded file, its blocks decoded

-- What a check of the plain twin answers is the first of all that is broken of the file.
abbrev pub DecodedDamageLaw : Type 0
DecodedDamageLaw = (I : List ℕ) (method : Method) → All IsByte I → method_of I ≡ Some method →
    let r = decoded_remains_of method I in store_fault (twin_of I) ≡ first_of_parts r (damage_in r)

-- The plain twin is a store exactly where nothing of the file is broken.
abbrev pub DecodedNothingLaw : Type 0
DecodedNothingLaw = (I : List ℕ) (method : Method) (s : StoreParts) → All IsByte I → method_of I ≡ Some method →
    IsStore (twin_of I) s ↔ (IsUntold (damage_in (decoded_remains_of method I)) × (s ≡ store_in (twin_of I)))
