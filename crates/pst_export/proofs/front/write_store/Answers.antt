use Rattle.std.specs.Prelude.{ℕ, Vec}
use Rattle.std.specs.Global.{Global}
use Rattle.pst_export.proofs.FileLemmas.{store_none}
use Rattle.pst_export.proofs.front.write_store.Goals as goal

pub returns-in_ok-unless_memory-in-Err-clause-all : goal.returns-in_ok-unless_memory-in-Err-clause-all
returns-in_ok-unless_memory-in-Err-clause-all g c =
    store_none _ _ (λ (v : Vec ℕ Global). v.items) c.in-Err.fault _ c.in-Err.ensures
    c.in_ok-unless_memory-in-Err.ensures
