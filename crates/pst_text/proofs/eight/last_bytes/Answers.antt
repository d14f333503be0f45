use Rattle.std.proofs.Common.{◌≡◌, ◌+◌, ◌%◌, ◌^◌, ap, ◌∙◌, bit_and, get_or, replicate, refl, arith}
use Rattle.std.proofs.lemmas.Nat.{and_mask}
use lib.Lanes.{zip2}
use Rattle.pst_text.proofs.UnitLanes.{both_long, lane_with}
use Rattle.pst_text.proofs.eight.last_bytes.Goals as goal

pub returns-clause-long : goal.returns-clause-long
returns-clause-long c =
    both_long (λ a b. (a + b) % 2 ^ 16) (zip2 bit_and c.args.units (replicate 8 63)) (replicate 8 128) (both_long bit_and c.args.units (replicate 8 63) c.requires refl) refl

pub returns-clause-lanes : goal.returns-clause-lanes
returns-clause-lanes c k lt =
    let units = c.args.units in
    let masked = zip2 bit_and units (replicate 8 63) in
    let bits = lane_with bit_and units 63 k c.requires lt ∙ and_mask (get_or units k 0) 6 in
    let whole : (get_or units k 0 % 64 + 128) % 65536 ≡ 128 + get_or units k 0 % 64 = omega arith in
    lane_with (λ a b. (a + b) % 2 ^ 16) masked 128 k (both_long bit_and units (replicate 8 63) c.requires refl) lt ∙ ap (λ a. (a + 128) % 2 ^ 16) bits ∙ whole
