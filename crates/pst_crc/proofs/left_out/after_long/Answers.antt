use Rattle.std.proofs.Common.{◌≡◌, ◌+◌, ◌-◌, ◌/◌, ◌<◌, length, ◌∙◌, arith, length-set}
use Rattle.pst_crc.specs.LeftOut.{word_in, whole_in, fed_words}
use Rattle.pst_crc.proofs.LeftOutLemmas.{begun_fed, turn_fed, turn_none}
use Rattle.pst_crc.proofs.Kept.{all_fed}
use Rattle.pst_crc.proofs.left_out.after_long.Goals as goal

pub loop-i-init : goal.loop-i-init
loop-i-init c =
    let n = (length c.args.bytes.now - 1200) / 4 in
    record {
      same = begun_fed n c.args.register c.args.bytes.now c.begun-words.result c.begun-words.ensures.first c.begun-words.ensures.others;
      none = λ j le. c.begun-words.ensures.others (300 + j) (omega arith);
      room = c.begun-words.ensures.room;
    }

pub loop-i-preserved : goal.loop-i-preserved
loop-i-preserved c =
    let n = (length c.args.bytes.now - 1200) / 4 in
    let i = c.loop-i.i in
    let kept = c.loop-i.invariant in
    let lt : i < n = c.loop-i-test.true in
    let all : fed_words 0 (whole_in c.args.bytes.now c.loop-i.words) i (n - i + 300) ≡ fed_words c.args.register (word_in c.args.bytes.now) 0 (n + 300) = kept.same in
    record {
      same = turn_fed n i c.whole.result (fed_words c.args.register (word_in c.args.bytes.now) 0 (n + 300)) c.args.bytes.now c.loop-i.words lt (omega (arith, lt, kept.room, c.requires.fits)) c.whole.type_inv c.whole.ensures kept.none all;
      none = turn_none i c.whole.result c.loop-i.words kept.none;
      room = length-set c.loop-i.words (300 + i) c.whole.result ∙ kept.room;
    }

pub returns : goal.returns
returns c =
    let n = (length c.args.bytes.now - 1200) / 4 in
    let all : fed_words 0 (whole_in c.args.bytes.now c.loop-i.words) c.loop-i.i (n - c.loop-i.i + 300) ≡ fed_words c.args.register (word_in c.args.bytes.now) 0 (n + 300) = c.loop-i.invariant.same in
    all_fed c.loop-i.i n c.args.register c.after_kept.result c.args.bytes.now c.loop-i.words c.make_whole.new.words
    c.loop-i-test.false c.loop-i.auto.i-end (omega (arith, c.requires.words, c.requires.long)) (λ j. omega (arith, c.type_inv.bytes j))
    all c.make_whole.ensures.made c.after_kept.ensures
