use Rattle.std.proofs.Common.{◌≡◌, true, Some, arith}
use Rattle.pst_ndb.specs.Views.{table_of_node}
use Rattle.pst_heap.specs.Items.{node_of_items}
use Rattle.pst_value.specs.Class.{cell_width_of}
use Rattle.pst_value.proofs.TypeLemmas.{typed_room}
use Rattle.pst_tc.specs.Info.{column_kind, column_start, column_width, is_typed}
use Rattle.pst_tc.proofs.InfoLemmas.{cell_inside}
use Rattle.pst_tc.proofs.TypedLemmas.{typed_is}
use Rattle.pst_tc.proofs.check.check_cell.Goals as goal

pub check_value-requires-clause-inside : goal.check_value-requires-clause-inside
check_value-requires-clause-inside c =
    let I = (table_of_node (node_of_items c.args.items.now)).image in
    let at : c.from.result ≡ column_start I c.args.column = cc (c.from.ensures, c.number16-2.ensures, c.image-image.ensures.bytes) in
    let len : c.from-2.result ≡ column_width I c.args.column = cc (c.from-2.ensures, c.number8.ensures, c.image-image.ensures.bytes) in
    omega (arith, at, len, c.requires.row, c.requires.size, cell_inside I c.args.info c.args.column c.requires.good)

pub check_value-requires-clause-hnid : goal.check_value-requires-clause-hnid
check_value-requires-clause-hnid c = λ none.
    let I = (table_of_node (node_of_items c.args.items.now)).image in
    let len : c.from-2.result ≡ column_width I c.args.column = cc (c.from-2.ensures, c.number8.ensures, c.image-image.ensures.bytes) in
    let kind : c.number16.result ≡ column_kind I c.args.column = cc (c.number16.ensures, c.image-image.ensures.bytes) in
    let yes : is_typed I c.args.column ≡ true = cc (c.is_typed.ensures, c.if-not-is_typed.false, c.image-image.ensures.bytes) in
    let wide : cell_width_of c.number16.result ≡ Some c.from-2.result = rw (len, kind) (typed_is I c.args.column yes) in
    typed_room c.number16.result c.from-2.result wide none
