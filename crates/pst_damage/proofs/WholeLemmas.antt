-- What is whole, counted beside what is broken.
use Rattle.std.proofs.Common.{◌≡◌, ℕ, ◌+◌, ◌-◌, Bool, cond, List, [], ◌∷◌, length, Option, Some, None, refl, arith}
use Rattle.std.specs.List.{count_by}
use Rattle.std.proofs.lemmas.List.Sums.{sum_by-cons}
use Rattle.pst_fault.specs.declared.fault.Fault.{Fault}
use Rattle.pst_page.specs.declared.entry.NodeEntry.{NodeEntry}
use Rattle.pst_msg.specs.Values.{is_folder, is_message}
use Rattle.pst_damage.specs.declared.broken.BrokenNode.{BrokenNode}
use Rattle.pst_damage.specs.Judged.{Judged, kept_node, told_node, sound_by, broken_by}
use Rattle.pst_damage.specs.Whole.{folder_entry, message_entry, folder_node, message_node, whole_of}

-- of a kind, by their identifiers
beside : (kind : ℕ → Bool) (part : Judged) (nodes : List NodeEntry)
    → count_by (λ (e : NodeEntry). kind e.nid) (sound_by part nodes) + count_by (λ (b : BrokenNode). kind b.nid) (broken_by part nodes) ≡ count_by (λ (e : NodeEntry). kind e.nid) nodes
unfolding sound_by broken_by
beside kind part [] = refl
beside kind part (e ∷ rest) = one (part e) (beside kind part rest)
  where
    one : (o : Option Fault) → count_by (λ (e : NodeEntry). kind e.nid) (sound_by part rest) + count_by (λ (b : BrokenNode). kind b.nid) (broken_by part rest) ≡ count_by (λ (e : NodeEntry). kind e.nid) rest
        → count_by (λ (e : NodeEntry). kind e.nid) (kept_node o e (sound_by part rest)) + count_by (λ (b : BrokenNode). kind b.nid) (told_node o e (broken_by part rest)) ≡ count_by (λ (e : NodeEntry). kind e.nid) (e ∷ rest)
    one None more =
        let n : ℕ = cond (kind e.nid) 1 0 in
        let all : count_by (λ (e : NodeEntry). kind e.nid) (e ∷ rest) ≡ n + count_by (λ (e : NodeEntry). kind e.nid) rest = sum_by-cons (λ (e : NodeEntry). cond (kind e.nid) 1 0) e rest in
        let sound : count_by (λ (e : NodeEntry). kind e.nid) (e ∷ sound_by part rest) ≡ n + count_by (λ (e : NodeEntry). kind e.nid) (sound_by part rest) = sum_by-cons (λ (e : NodeEntry). cond (kind e.nid) 1 0) e (sound_by part rest) in
        rw (all, sound) (omega (arith, more))
    one (Some f) more =
        let n : ℕ = cond (kind e.nid) 1 0 in
        let all : count_by (λ (e : NodeEntry). kind e.nid) (e ∷ rest) ≡ n + count_by (λ (e : NodeEntry). kind e.nid) rest = sum_by-cons (λ (e : NodeEntry). cond (kind e.nid) 1 0) e rest in
        let told : count_by (λ (b : BrokenNode). kind b.nid) (record { nid = e.nid; fault = f } ∷ broken_by part rest) ≡ n + count_by (λ (b : BrokenNode). kind b.nid) (broken_by part rest) = sum_by-cons (λ (b : BrokenNode). cond (kind b.nid) 1 0) (record { nid = e.nid; fault = f }) (broken_by part rest) in
        rw (all, told) (omega (arith, more))

all_beside : (part : Judged) (nodes : List NodeEntry) → length (sound_by part nodes) + length (broken_by part nodes) ≡ length nodes
unfolding sound_by broken_by
all_beside part [] = refl
all_beside part (e ∷ rest) = one (part e) (all_beside part rest)
  where
    one : (o : Option Fault) → length (sound_by part rest) + length (broken_by part rest) ≡ length rest → length (kept_node o e (sound_by part rest)) + length (told_node o e (broken_by part rest)) ≡ length (e ∷ rest)
    one None more = omega (arith, more)
    one (Some f) more = omega (arith, more)

pub whole_beside : (part : Judged) (nodes : List NodeEntry) (told : List BrokenNode) → told ≡ broken_by part nodes
    → record { nodes = length nodes - length told; folders = count_by folder_entry nodes - count_by folder_node told; messages = count_by message_entry nodes - count_by message_node told } ≡ whole_of (sound_by part nodes)
whole_beside part nodes told is =
    let all : length nodes - length told ≡ length (sound_by part nodes) = rw is (omega (arith, all_beside part nodes)) in
    let folders : count_by folder_entry nodes - count_by folder_node told ≡ count_by folder_entry (sound_by part nodes) = rw is (omega (arith, beside (λ nid. is_folder nid) part nodes)) in
    let messages : count_by message_entry nodes - count_by message_node told ≡ count_by message_entry (sound_by part nodes) = rw is (omega (arith, beside (λ nid. is_message nid) part nodes)) in
    rw (all, folders, messages) refl
