use Rattle.std.proofs.Common.{◌≡◌, ◌+◌, ◌*◌, ◌%◌, ◌^◌, ap, ◌∙◌, get_or, replicate, refl, arith}
use lib.Lanes.{zip2}
use Rattle.pst_text.proofs.UnitLanes.{both_long, lane, lane_with}
use Rattle.pst_text.proofs.eight.joined_bytes.Goals as goal

pub returns-clause-long : goal.returns-clause-long
returns-clause-long c =
    both_long (λ a b. (a + b) % 2 ^ 16) (zip2 (λ a b. (a + b) % 2 ^ 16) c.args.bits (replicate 8 c.args.mark)) (zip2 (λ a b. a * 2 ^ b % 2 ^ 16) c.args.second (replicate 8 8))
    (both_long (λ a b. (a + b) % 2 ^ 16) c.args.bits (replicate 8 c.args.mark) c.requires.bits refl)
    (both_long (λ a b. a * 2 ^ b % 2 ^ 16) c.args.second (replicate 8 8) c.requires.second refl)

pub returns-clause-lanes : goal.returns-clause-lanes
returns-clause-lanes c k lt small =
    let marked = zip2 (λ a b. (a + b) % 2 ^ 16) c.args.bits (replicate 8 c.args.mark) in
    let above = zip2 (λ a b. a * 2 ^ b % 2 ^ 16) c.args.second (replicate 8 8) in
    let first = lane_with (λ a b. (a + b) % 2 ^ 16) c.args.bits c.args.mark k c.requires.bits lt in
    let second = lane_with (λ a b. a * 2 ^ b % 2 ^ 16) c.args.second 8 k c.requires.second lt in
    let whole : ((get_or c.args.bits k 0 + c.args.mark) % 65536 + get_or c.args.second k 0 * 256 % 65536) % 65536 ≡ get_or c.args.bits k 0 + c.args.mark + 256 * get_or c.args.second k 0 = omega (arith, small) in
    lane (λ a b. (a + b) % 2 ^ 16) marked above k (both_long (λ a b. (a + b) % 2 ^ 16) c.args.bits (replicate 8 c.args.mark) c.requires.bits refl)
    (both_long (λ a b. a * 2 ^ b % 2 ^ 16) c.args.second (replicate 8 8) c.requires.second refl) lt
    ∙ ap (λ a. (a + get_or above k 0) % 2 ^ 16) first ∙ ap (λ b. ((get_or c.args.bits k 0 + c.args.mark) % 2 ^ 16 + b) % 2 ^ 16) second ∙ whole
