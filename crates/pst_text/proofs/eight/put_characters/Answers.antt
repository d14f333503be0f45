use Rattle.std.proofs.Common.{rules, ◌≡◌, ◌+◌, ◌*◌, ◌++◌, take, drop, get_or, refl, sym, ap, ◌∙◌, arith}
use Rattle.json.specs.Print.{escape}
use Rattle.pst_text.specs.Text.{utf8_of}
use Rattle.pst_text.proofs.CharacterLemmas.{one_more, front_put}
use Rattle.pst_text.proofs.eight.put_characters.Goals as goal

pub loop-i-preserved : goal.loop-i-preserved
loop-i-preserved c =
    let i = c.loop-i.i in
    let lt = c.loop-i-test.true in
    let all = c.characters_at.ensures in
    record {
      most = omega (arith, c.loop-i.invariant.most, all.most i lt);
      long = search rules;
      all = one_more c.args.bytes.now c.args.at i _ (get_or c.characters_at.result.0 i 0) (get_or c.characters_at.result.1 i 0) (take c.loop-i.end c.loop-i.spelt) _ _
          c.requires.within lt (all.small i lt) refl (c.requires.alone i lt) (c.requires.plain i lt) (all.bytes i lt) c.lay_bytes.ensures c.loop-i.invariant.all;
    }

pub returns-clause-put : goal.returns-clause-put
returns-clause-put c =
    let end : c.args.at + 2 * c.loop-i.i ≡ c.args.at + 16 = omega (arith, c.loop-i-test.false, c.loop-i.auto) in
    let left = sym (ap (λ n. take c.loop-i.end c.loop-i.spelt ++ escape (utf8_of (drop n c.args.bytes.now))) end) in
    front_put c.args.text.now.items c.loop-i.spelt c.truncate.new.self.items _ _ c.loop-i.end (search rules) (left ∙ c.loop-i.invariant.all)
