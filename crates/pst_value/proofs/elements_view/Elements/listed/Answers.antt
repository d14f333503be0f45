use Rattle.std.proofs.Common.{◌≡◌, ◌+◌, min, length, drop, sym, ap, ◌∙◌}
use Rattle.pst_datatree.specs.declared.value_view.Value.{Value}
use Rattle.pst_datatree.specs.Shown.{bytes_in}
use Rattle.pst_value.specs.Cursor.{cursor_value, cursor_place, end_of_next}
use Rattle.pst_value.specs.Multi.{element_count, element_bound}
use Rattle.pst_value.specs.Units.{bytes_left}
use Rattle.pst_value.proofs.ElementLemmas.{listed_start, eight_behind, end_as}
use Rattle.pst_value.proofs.elements_view.Elements.listed.Goals as goal

pub invariant_of-result : goal.invariant_of-result
invariant_of-result c =
    let t = c.args.kind.0 in
    let bytes = bytes_in c.args.value in
    let start = c.next_offset-start.result in
    let one = bytes_left c.next_offset.new.rest in
    let at : one ≡ drop 4 bytes = c.next_offset.ensures.rest ∙ ap (drop 4) c.bytes_from-offsets.ensures in
    let value : cursor_value c.take.new.self ≡ c.args.value = c.take.ensures.value ∙ c.new-items.ensures.value in
    let end : end_of_next c.new-items.result start ≡ min (0 + start) (length bytes) =
    end_as (cursor_place c.new-items.result) 0 start (cursor_value c.new-items.result) c.args.value c.new-items.ensures.place c.new-items.ensures.value in
    record {
      counted = ap (λ (v : Value). element_count t (bytes_in v)) value ∙ c.requires.count;
      here = λ some.
          c.take.ensures.place ∙ end
          ∙ listed_start t bytes one c.args.count start c.requires.width c.requires.count some at c.next_offset-start.ensures.value
          ∙ ap (λ (v : Value). element_bound t (bytes_in v) 0) (sym value);
      behind = λ none. eight_behind bytes one _ at c.next_offset-start.ensures.rest ∙ ap (λ (v : Value). drop 8 (bytes_in v)) (sym value);
    }
