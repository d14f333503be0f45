use Rattle.std.proofs.Common.{◌≤◌, ◌+◌, arith}
use Rattle.pst_datatree.specs.Shown.{bytes_in, size_in}
use Rattle.pst_value.proofs.CursorLemmas.{left_alike}
use Rattle.pst_value.proofs.cursor.Cursor.split.Goals as goal

pub overflow_add-end : goal.overflow_add-end
overflow_add-end c =
    let s = c.args.self in
    let fits = left_alike s.skip s.place c.args.size (bytes_in s.rest) (bytes_in s.value) s.bytes s.inside c.requires in
    omega (arith, fits)

pub unwrap-part-requires : goal.unwrap-part-requires
unwrap-part-requires c =
    let s = c.args.self in
    let fits = left_alike s.skip s.place c.args.size (bytes_in s.rest) (bytes_in s.value) s.bytes s.inside c.requires in
    let from : s.skip ≤ s.skip + c.args.size = omega arith in
    let to : s.skip + c.args.size ≤ size_in s.rest = omega (arith, fits, c.len-all.ensures.size, c.len-all.ensures.bytes) in
    c.part.ensures.there.1 (from, to)
