use Rattle.std.proofs.Common.{◌≡◌, ◌<◌, ℕ, length, drop, get_or, refl, arith}
use Rattle.pst_crc.proofs.Words.{streams_are, fits-take, fits-drop}
use Rattle.pst_crc.proofs.streams.after_streams.Goals as goal

pub loop-front-init : goal.loop-front-init
loop-front-init c =
    let bytes = c.args.bytes.now in
    let cut = c.split_at.ensures in
    let again = c.split_at-2.ensures in
    let fit : (i : ℕ) → get_or bytes i 0 < 256 = λ i. omega (arith, c.type_inv.bytes i) in
    record {
      first = rw cut.front refl;
      second = rw (again.front, cut.back) refl;
      third = rw (again.back, cut.back) refl;
      even = omega (arith, cut.front_len, again.front_len, cut.back_len, c.requires);
      level = omega (arith, cut.front_len, again.back_len, cut.back_len, c.requires);
      whole = rw cut.front_len refl;
      front_fits = λ i. rw cut.front (fits-take 128 bytes fit i);
      middle_fits = λ i. rw (again.front, cut.back) (fits-take 128 (drop 128 bytes) (fits-drop 128 bytes fit) i);
      back_fits = λ i. rw (again.back, cut.back) (fits-drop 128 (drop 128 bytes) (fits-drop 128 bytes fit) i);
    }

pub returns : goal.returns
returns c =
    let kept = c.loop-front.invariant in
    let left = c.loop-front in
    let none : length left.front.now ≡ 0 = omega (arith, c.loop-front-test.false, kept.whole) in
    let none_middle : length left.middle.now ≡ 0 = omega (arith, none, kept.even) in
    let none_back : length left.back.now ≡ 0 = omega (arith, none, kept.level) in
    rw (c.past_stream-2.ensures, c.past_stream.ensures) (streams_are c.args.register left.first left.second left.third left.front.now left.middle.now left.back.now c.args.bytes.now
    c.requires (λ i. omega (arith, c.type_inv.bytes i)) none none_middle none_back kept.first kept.second kept.third)
