use Rattle.std.proofs.Common.{◌≡◌, ◌≢◌, ◌<◌, ◌-◌, sym, ◌∙◌, arith}
use Rattle.pst_bytes.specs.Image.{bytes_of}
use Rattle.pst_bth.specs.Rows.{row_key, row_place}
use Rattle.pst_bth.specs.View.{rows_image, rows_item, rows_key_size, rows_size}
use Rattle.pst_bth.proofs.FindLemmas.{find_none, find_is, find_not}
use Rattle.pst_bth.proofs.find.find_in.Goals as goal

pub returns-then-count-eq0-clause-value : goal.returns-then-count-eq0-clause-value
returns-then-count-eq0-clause-value c =
    let r = c.args.rows in
    sym (find_none (bytes_of (rows_image r)) (rows_key_size r) (rows_size r) (rows_item r) c.args.key c.requires.low c.requires.high c.up_to-count.result c.requires.rise c.up_to-count.ensures c.if-count-eq0.true)

pub returns-then-key-clause-value : goal.returns-then-key-clause-value
returns-then-key-clause-value c =
    let r = c.args.rows in
    let n = c.up_to-count.result in
    let pos : 0 < n = omega (arith, c.if-count-eq0.false) in
    let other : row_key (bytes_of (rows_image r)) (rows_key_size r) (row_place (rows_size r) (rows_item r) (n - 1)) ≢ c.args.key = λ e. c.if-key.true (c.key.ensures.value ∙ e) in
    sym (find_not (bytes_of (rows_image r)) (rows_key_size r) (rows_size r) (rows_item r) c.args.key c.requires.low c.requires.high n c.requires.rise c.up_to-count.ensures pos other)

pub returns-clause-value : goal.returns-clause-value
returns-clause-value c =
    let r = c.args.rows in
    let n = c.up_to-count.result in
    let pos : 0 < n = omega (arith, c.if-count-eq0.false) in
    let same : row_key (bytes_of (rows_image r)) (rows_key_size r) (row_place (rows_size r) (rows_item r) (n - 1)) ≡ c.args.key = sym c.key.ensures.value ∙ c.if-key.false in
    rw c.place.ensures.value (sym (find_is (bytes_of (rows_image r)) (rows_key_size r) (rows_size r) (rows_item r) c.args.key c.requires.low c.requires.high n c.requires.rise c.up_to-count.ensures pos same))
