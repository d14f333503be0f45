use Rattle.std.proofs.Common.{◌≡◌, ◌+◌, ◌*◌, ◌<◌, ℕ, ap, sym, ◌∙◌, arith}
use Rattle.pst_bytes.specs.Image.{bytes_of}
use Rattle.pst_tc.specs.Info.{column_count}
use Rattle.pst_tc.proofs.InfoLemmas.{sound_column}
use Rattle.pst_tc.proofs.ColumnLemmas.{find_end}
use Rattle.pst_tc.proofs.columns.find_column.Goals as goal

pub returns-then-number32-tag-clause-good : goal.returns-then-number32-tag-clause-good
returns-then-number32-tag-clause-good c =
    let I = bytes_of c.args.image in
    let lt : c.loop-i.i < column_count I c.args.item = omega (arith, c.column_count-count.ensures.value, c.loop-i-test.true) in
    sound_column I c.args.item c.loop-i.i _ c.requires.sound lt (ap (λ (i : ℕ). c.args.item.at + 22 + 8 * i) c.from.ensures)

pub returns-clause-value : goal.returns-clause-value
returns-clause-value c =
    let I = bytes_of c.args.image in
    let end : c.loop-i.i ≡ column_count I c.args.item = omega (arith, c.column_count-count.ensures.value, c.loop-i-test.false, c.loop-i.auto.i-end) in
    sym (find_end I c.args.item (column_count I c.args.item) c.args.tag) ∙ (rw end at c.loop-i.invariant)
