use Rattle.std.proofs.Common.{sym, ◌∙◌}
use Rattle.pst_bytes.specs.Image.{bytes_of}
use Rattle.pst_header.specs.Header.{end_of}
use Rattle.pst_amap.proofs.OldLemmas.{old_yes, page_whole, looks_inside}
use Rattle.pst_amap.proofs.old.claim_old.Goals as goal

pub claim-requires : goal.claim-requires
claim-requires c =
    page_whole c.args.header.now c.args.claims.now c.args.at c.requires.place.0 c.requires.place.1
    (looks_inside c.args.order (bytes_of c.args.image) (end_of c.args.header.now) c.args.at (sym c.looks_old.ensures ∙ c.if-not-looks_old.false)) c.requires.units

pub returns-in-Ok-clause-found : goal.returns-in-Ok-clause-found
returns-in-Ok-clause-found c = λ n. old_yes c.args.order (bytes_of c.args.image) (end_of c.args.header.now) c.args.at n c.args.claims.now c.claim.new.self (sym c.looks_old.ensures ∙ c.if-not-looks_old.false) c.in-Ok.ensures.answers
