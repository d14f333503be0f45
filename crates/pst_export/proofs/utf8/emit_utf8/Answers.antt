use Rattle.std.proofs.Common.{◌++◌, ◌∙◌, ap, subst}
use Rattle.std.specs.Char.Utf16.{utf16_lossy_chars}
use Rattle.std.specs.Io.KnownBytes.{Appends}
use Rattle.pst_json.specs.Output.{AppendsFront}
use Rattle.pst_json.proofs.OutputLemmas.{front_of_all}
use Rattle.pst_value.specs.Units.{units_of}
use Rattle.pst_value_json.specs.pst_datatree.Shown.{bytes_in}
use Rattle.pst_value_json.specs.pst_text.Text.{utf8_of}
use Rattle.pst_export.specs.Text.{text_bytes, text_utf8}
use Rattle.pst_export.proofs.TextLemmas.{gathered_char, gathered_end, gathered_first, gathered_front, gathered_last, gathered_moved, gathered_still}
use Rattle.pst_export.proofs.utf8.emit_utf8.Goals as goal

pub loop-c-init : goal.loop-c-init
loop-c-init g c = record {
  left = gathered_first _ _ _ (c.in_ok-take_ascii.ensures.put ∙ ap (λ l. l ++ text_utf8 c.text_from-units.result) c.new-chunk.ensures.items ∙ ap utf8_of c.text_from-units.ensures);
}

pub returns-in_err-put_char-clause-front : goal.returns-in_err-put_char-clause-front
returns-in_err-put_char-clause-front g c =
    gathered_still _ _ (utf8_of (bytes_in c.args.value)) c.loop-c.chunk.items (utf16_lossy_chars (units_of (text_bytes c.loop-c.units))) c.loop-c.invariant.left

pub returns-in_err-take_ascii-2-clause-front : goal.returns-in_err-take_ascii-2-clause-front
returns-in_err-take_ascii-2-clause-front g c =
    gathered_still _ _ (utf8_of (bytes_in c.args.value)) c.loop-c.chunk.items (utf16_lossy_chars (units_of (text_bytes c.loop-c.units))) c.loop-c.invariant.left

pub loop-c-preserved : goal.loop-c-preserved
loop-c-preserved g c =
    let same = gathered_char c.loop-c.chunk.items c.put_char.new.text.items c.take_ascii-in-Some.new.text.items (text_utf8 c.take_ascii-in-Some.new.self) (utf16_lossy_chars (units_of (text_bytes c.loop-c.units)))
    (utf16_lossy_chars (units_of (text_bytes c.next_char.new.units))) c.in-Some.c c.in-Some.ensures.next c.in_ok-put_char.ensures c.in_ok-take_ascii-2.ensures.put in
    record {
      left = gathered_moved _ _ _ (utf8_of (bytes_in c.args.value)) _ _ _ _ same c.loop-c.invariant.left c.in_ok-flush_full.ensures.all;
    }

pub returns-in_err-flush_full-clause-front : goal.returns-in_err-flush_full-clause-front
returns-in_err-flush_full-clause-front g c =
    let same = gathered_char c.loop-c.chunk.items c.put_char.new.text.items c.take_ascii-in-Some.new.text.items (text_utf8 c.take_ascii-in-Some.new.self) (utf16_lossy_chars (units_of (text_bytes c.loop-c.units)))
    (utf16_lossy_chars (units_of (text_bytes c.next_char.new.units))) c.in-Some.c c.in-Some.ensures.next c.in_ok-put_char.ensures c.in_ok-take_ascii-2.ensures.put in
    gathered_front _ _ _ (utf8_of (bytes_in c.args.value)) _ _ _ same c.loop-c.invariant.left c.in_err-flush_full.ensures.front

pub returns-in_err-emit-clause-front : goal.returns-in_err-emit-clause-front
returns-in_err-emit-clause-front g c =
    gathered_end _ _ _ (utf8_of (bytes_in c.args.value)) c.loop-c.chunk.items _ c.loop-c.invariant.left
    (subst (AppendsFront _ _) c.deref.ensures.value c.in_err-emit.ensures.front)

pub returns-clause-front : goal.returns-clause-front
returns-clause-front g c =
    front_of_all _ _ (utf8_of (bytes_in c.args.value))
    (gathered_last _ _ _ (utf8_of (bytes_in c.args.value)) c.loop-c.chunk.items _ c.in_default.ensures.none c.loop-c.invariant.left
    (subst (Appends _ _) c.deref.ensures.value c.in_ok-emit.ensures.all))
