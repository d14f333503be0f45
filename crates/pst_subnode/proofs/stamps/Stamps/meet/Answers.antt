use Rattle.std.proofs.Common.{arith, refl, ◌<◌, ◌∙◌, length}
use Rattle.std.proofs.lemmas.List.{get_or_read}
use Rattle.pst_subnode.proofs.StampLemmas.{one_met}
use Rattle.pst_subnode.proofs.stamps.Stamps.meet.Goals as goal

pub returns : goal.returns
returns c is before are =
    let stamps = c.args.self.now.stamps.items in
    let within : c.args.number < length stamps = omega arith in
    one_met c.args.self.now _ c.args.number before refl refl within (λ same. c.if-index-self.false (get_or_read stamps c.args.number c.index.result.now within c.index.ensures 0 ∙ same)) are
