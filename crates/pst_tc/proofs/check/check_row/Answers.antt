use Rattle.std.proofs.Common.{arith, ◌≡◌}
use Rattle.pst_bytes.specs.Image.{bytes_of, IsInside}
use Rattle.pst_tc.proofs.check.check_row.Goals as goal

pub number32-requires-2 : goal.number32-requires-2
number32-requires-2 c =
    let inside : IsInside (bytes_of c.image-image.result) c.in-Some.row = rw c.in-Some.is at c.row_of.ensures.inside in
    let size : c.in-Some.row.len ≡ c.size_of-size.result = rw c.in-Some.is at c.row_of.ensures.size in
    omega (arith, c.size_of-size.ensures.least, c.image-image.ensures.bytes)
