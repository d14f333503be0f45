use Rattle.std.proofs.Common.{◌≡◌, ◌+◌, true}
use Rattle.pst_ndb.specs.Views.{table_of_node, roots_of}
use Rattle.pst_heap.specs.View.{node_of}
use Rattle.pst_tc.specs.Info.{column_kind, column_start, column_width, is_present, is_typed}
use Rattle.pst_tc.specs.Fault.{cell_fault}
use Rattle.pst_tc.proofs.RowLemmas.{cell_sound}
use Rattle.pst_tc.proofs.ask.ask_cell.Goals as goal

pub ask_value-requires-clause-sound : goal.ask_value-requires-clause-sound
ask_value-requires-clause-sound c =
    let t = table_of_node (node_of c.args.heap.now) in
    let r = roots_of (node_of c.args.heap.now) in
    let I = t.image in
    let kind : c.number16.result ≡ column_kind I c.args.column = cc (c.number16.ensures, c.image-image.ensures.bytes) in
    let at : c.from.result ≡ column_start I c.args.column = cc (c.from.ensures, c.number16-2.ensures, c.image-image.ensures.bytes) in
    let len : c.from-2.result ≡ column_width I c.args.column = cc (c.from-2.ensures, c.number8.ensures, c.image-image.ensures.bytes) in
    let present : is_present I c.args.info c.args.row.at c.args.column ≡ true = cc (c.is_present.ensures, c.if-not-is_present.false, c.image-image.ensures.bytes) in
    let typed : is_typed I c.args.column ≡ true = cc (c.is_typed.ensures, c.if-not-is_typed.false, c.image-image.ensures.bytes) in
    rw (kind, at, len) (cell_sound t r c.args.info c.args.row.at c.args.column c.requires.sound present typed)

pub returns-clause-holds : goal.returns-clause-holds
unfolding cell_fault
returns-clause-holds c =
    let t = table_of_node (node_of c.args.heap.now) in
    let I = t.image in
    let kind : c.number16.result ≡ column_kind I c.args.column = cc (c.number16.ensures, c.image-image.ensures.bytes) in
    let at : c.from.result ≡ column_start I c.args.column = cc (c.from.ensures, c.number16-2.ensures, c.image-image.ensures.bytes) in
    let len : c.from-2.result ≡ column_width I c.args.column = cc (c.from-2.ensures, c.number8.ensures, c.image-image.ensures.bytes) in
    let present : is_present I c.args.info c.args.row.at c.args.column ≡ true = cc (c.is_present.ensures, c.if-not-is_present.false, c.image-image.ensures.bytes) in
    let typed : is_typed I c.args.column ≡ true = cc (c.is_typed.ensures, c.if-not-is_typed.false, c.image-image.ensures.bytes) in
    rw (present, typed) (rw (kind, at, len) at c.ask_value.ensures.holds (c.args.row.at + column_start I c.args.column))
