use Rattle.std.proofs.Common.{◌≡◌, ◌+◌, ◌∷◌, sym, ◌∙◌, subst}
use Rattle.pst_bytes.specs.Image.{bytes_of, IsInside}
use Rattle.pst_datatree.specs.Cut.{cut}
use Rattle.pst_datatree.specs.Left.{spans_left, file_of}
use Rattle.pst_datatree.proofs.ByteLemmas.{byte_of_part}
use Rattle.pst_datatree.proofs.value_view.byte_in.Goals as goal

pub returns : goal.returns
returns c =
    let p = c.args.pieces in
    let I = bytes_of (file_of p) in
    let span = c.in_ok-span.span in
    let rest = spans_left c.next_span.new.self in
    let here : cut c.args.i (c.args.i + 1) (spans_left p) ≡ span ∷ rest = sym c.part-part.ensures.spans ∙ c.in_ok-span.ensures.steps in
    let inside : IsInside I span = subst (λ file. IsInside (bytes_of file) span) c.part-part.ensures.file c.in_ok-span.ensures.inside in
    let byte = byte_of_part I c.args.i (spans_left p) span rest here inside c.part-part.ensures.bytes in
    cc (byte, c.lend.ensures.value, c.first.ensures.value, c.copied.ensures)
