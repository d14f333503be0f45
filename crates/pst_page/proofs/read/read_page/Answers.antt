use Rattle.pst_page.proofs.PageLaws.{good_if, shape_if, page_only}
use Rattle.pst_page.proofs.read.read_page.Goals as goal

pub returns-clause-found : goal.returns-clause-found
returns-clause-found c = good_if _ _ _ _ c.checked.result c.checked.ensures.exact

pub returns-clause-shape : goal.returns-clause-shape
returns-clause-shape c = shape_if _ _ _ _ c.checked.result c.checked.ensures.exact

pub returns-clause-only : goal.returns-clause-only
returns-clause-only c = page_only _ _ _ _ c.checked.result c.checked.ensures.exact
