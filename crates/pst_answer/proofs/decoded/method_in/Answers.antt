use Rattle.std.proofs.Common.{rules, ap, ◌∙◌}
use Rattle.pst_bytes.specs.Image.{bytes_of}
use Rattle.pst_encoding.specs.Method.{method_with}
use Rattle.pst_answer.proofs.DecodedLemmas.{other_has_none, short_has_none}
use Rattle.pst_answer.proofs.decoded.method_in.Goals as goal

pub returns-then-len-lt564 : goal.returns-then-len-lt564
returns-then-len-lt564 c = short_has_none (bytes_of c.args.image) (search rules)

pub returns : goal.returns
returns c = other_has_none (bytes_of c.args.image) c.of.result (c.of.ensures ∙ ap method_with c.number8.ensures)
