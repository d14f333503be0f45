use Rattle.std.proofs.Common.{◌≡◌, ◌≤◌, ◌∷◌, refl, sym, ◌∙◌, subst, arith}
use Rattle.pst_bytes.specs.Image.{bytes_of, IsInside}
use Rattle.pst_datatree.specs.Left.{spans_left, file_of}
use Rattle.pst_datatree.proofs.SameLemmas.{parts_passed, bytes_passed, still_inside}
use Rattle.pst_value.proofs.cursor.passed.Goals as goal

pub loop-span-preserved : goal.loop-span-preserved
loop-span-preserved c =
    let l = c.loop-span in
    let next = c.next_span.new.self in
    let span = c.in-Some.span in
    let split : spans_left l.from ≡ span ∷ spans_left next = sym l.invariant.here ∙ c.in-Some.ensures.steps in
    let file : file_of next ≡ file_of l.from = c.in-Some.ensures.file ∙ l.invariant.file in
    let inside : IsInside (bytes_of (file_of l.from)) span = subst (λ f. IsInside (bytes_of f) span) l.invariant.file c.in-Some.ensures.inside in
    let le : span.len ≤ l.left = omega arith in
    record {
      here = refl;
      file = refl;
      left = bytes_passed l.from next l.left span split file inside le ∙ l.invariant.left;
      inside = still_inside l.from next l.left span split file inside le l.invariant.inside;
      same = parts_passed c.args.pieces l.from next c.args.skip l.left span l.invariant.same split file le;
    }
