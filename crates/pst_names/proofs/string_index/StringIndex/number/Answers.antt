use Rattle.std.proofs.Common.{◌≡◌, ◌≤◌, ◌+◌, ◌-◌, length, sym, ◌∙◌, arith}
use Rattle.std.specs.Prelude.{slice_range}
use Rattle.pst_names.specs.Strings.{strings_in}
use Rattle.pst_names.proofs.NumLemmas.{length_range, num_whole}
use Rattle.pst_names.proofs.StretchLemmas.{stretch_num}
use Rattle.pst_names.proofs.string_index.StringIndex.number.Goals as goal

pub returns-then-stretch-from-ge4-clause-value : goal.returns-then-stretch-from-ge4-clause-value
returns-then-stretch-from-ge4-clause-value c =
    let s = c.in-Some.stretch in
    let from = c.from-in-Some.result - s.start in
    let begun : s.start ≤ c.args.at = rw c.from.ensures at c.in-Some.ensures.begun in
    let here : s.start + from ≡ c.args.at = omega (arith, begun, c.from-in-Some.ensures) in
    let fits : from + 4 ≤ length s.bytes.now = omega (arith, c.if-from-stretch.true, c.if-stretch-from-ge4.true) in
    let len : length (slice_range s.bytes.now from (from + 4)) ≡ 4 = length_range s.bytes.now from 4 fits in
    c.read_u32.ensures ∙ sym (num_whole (slice_range s.bytes.now from (from + 4)) len) ∙ stretch_num s.bytes.now (strings_in c.args.self.now) s.start from c.args.at c.in-Some.ensures.own here fits
