-- What an HNID names ([MS-PST] 2.3.3.2), 4 bytes: with 0 nothing, the empty value; with the low 5 bits 0 an item of the heap (HID);
-- else the data of a subnode (NID).
use Rattle.std.specs.Prelude.{ℕ, ◌%◌, nat_eq, if◌then◌else◌}
use Rattle.pst_value.specs.declared.hnid.Hnid.{Hnid}
use Rattle.pst_value.specs.declared.hnid.Hnid.TheVariants.{Nothing, Item, Subnode}

unfoldable pub hnid_of : ℕ → Hnid
hnid_of hnid = if nat_eq hnid 0 then Nothing else if nat_eq (hnid % 32) 0 then Item hnid else Subnode hnid
