use Rattle.std.proofs.Common.{rules, sym}
use Rattle.pst_space.proofs.FlagLemmas.{span_filled}
use Rattle.pst_space.specs.Claimed.{page_at}
use Rattle.pst_space.proofs.claims.Claims.fill_page.Goals as goal

pub returns : goal.returns
returns c =
    span_filled c.args.self.now c.self.inside.words.items c.fill.new.words.items c.self.inside.units (page_at c.args.at) (sym c.self.view_is) c.requires c.self.inside.room (search rules)
