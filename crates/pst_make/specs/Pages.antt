-- How pages of the two B-trees are filled ([MS-PST] 2.2.2.7.7.1).
use Rattle.std.specs.Prelude.{ℕ, zero, suc}
use Rattle.pst_make.specs.declared.pages.Tree.{Tree}
use Rattle.pst_make.specs.declared.pages.Tree.TheVariants.{Nodes, Blocks}

-- cEntMax: how many entries a page has at most
abbrev pub capacity_of : Tree → ℕ → ℕ
capacity_of Nodes zero = 15
capacity_of Nodes (suc level) = 20
capacity_of Blocks level = 20

-- cbEnt: how many bytes an entry has
abbrev pub entry_size_of : Tree → ℕ → ℕ
entry_size_of Nodes zero = 32
entry_size_of Nodes (suc level) = 24
entry_size_of Blocks level = 24
