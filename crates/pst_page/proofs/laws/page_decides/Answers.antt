use Rattle.pst_page.proofs.PageLaws.{page_law}
use Rattle.pst_page.proofs.laws.page_decides.Goals as goal

pub returns : goal.returns
returns c = page_law
