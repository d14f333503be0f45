use Rattle.std.proofs.Common.{◌≡◌, ◌+◌, sym, ◌∙◌}
use Rattle.std.specs.Prelude.{Some, slice_get}
use Rattle.pst_bytes.specs.Image.{num}
use Rattle.pst_names.specs.Strings.{strings_in}
use Rattle.pst_names.proofs.StretchLemmas.{num_of_four}
use Rattle.pst_names.proofs.string_index.StringIndex.number_across.Goals as goal

pub returns-clause-value : goal.returns-clause-value
unfolding num
returns-clause-value c =
    let S = strings_in c.args.self.now in
    let at = c.args.at in
    let a : slice_get S at ≡ Some c.in_ok-byte.field-0 = rw c.from-at.ensures at (sym c.byte.ensures ∙ c.in_ok-byte.was) in
    let b : slice_get S (at + 1) ≡ Some c.in_ok-byte-2.field-0 = rw c.from-at.ensures at (sym c.byte-2.ensures ∙ c.in_ok-byte-2.was) in
    let d : slice_get S (at + 2) ≡ Some c.in_ok-byte-3.field-0 = rw c.from-at.ensures at (sym c.byte-3.ensures ∙ c.in_ok-byte-3.was) in
    let e : slice_get S (at + 3) ≡ Some c.in_ok-byte-4.field-0 = rw c.from-at.ensures at (sym c.byte-4.ensures ∙ c.in_ok-byte-4.was) in
    c.read_u32.ensures ∙ sym (num_of_four S at c.in_ok-byte.field-0 c.in_ok-byte-2.field-0 c.in_ok-byte-3.field-0 c.in_ok-byte-4.field-0 a b d e)
