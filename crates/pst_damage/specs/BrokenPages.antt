-- What a contract sees of the pages of a damaged node B-tree with a fault.
use Rattle.std.specs.Prelude.{List}
use Rattle.pst_remains.specs.declared.pages.Broken.{Broken}
use Rattle.pst_damage.specs.declared.broken_pages.BrokenPages.{BrokenPages}

abbrev pub pages_in : BrokenPages → List Broken
pages_in p = p.all.now
