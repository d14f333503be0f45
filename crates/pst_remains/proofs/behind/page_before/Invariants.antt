use Rattle.std.proofs.Common.{◌≡◌, drop}
use Rattle.pst_remains.specs.Pages.{page_before}
use Rattle.pst_remains.proofs.behind.page_before.Given as goal

abbrev pub invariant-loop-page : goal.invariant-loop-page
invariant-loop-page l = page_before (drop l.page-index l.broken) l.key ≡ page_before l.broken l.key
