-- The leaves that are left, as they are read.
use Rattle.std.specs.Prelude.{◌≡◌, ℕ, ◌+◌, ◌≤◌, true, List, length, All}
use Rattle.pst_page.specs.declared.kind.PageKind.{PageKind}
use Rattle.pst_page.specs.Page.{level_at}
use Rattle.pst_page.specs.Fault.{has_shape}

-- a leaf lies in the file, and has its shape ([MS-PST] 2.2.2.7.7.1)
pub record IsLeaf (kind : PageKind) (I : List ℕ) (ib : ℕ) : Type 0 where
  pub inside : ib + 512 ≤ length I
  pub shape : has_shape kind I ib ≡ true
  pub level : level_at I ib ≡ 0

abbrev pub AreLeaves : PageKind → List ℕ → List ℕ → Type 0
AreLeaves kind I leaves = All (IsLeaf kind I) leaves
