-- What a reader still has, and how much was read of it.
use Rattle.std.specs.Prelude.{◌≡◌, ℕ, ◌+◌, List, Option, None, Result, Ok, Err}
use Rattle.pst_run.specs.declared.input.Reads.{Reads}
use Rattle.pst_run.specs.declared.source.Source.{Source}
use Rattle.pst_run.specs.declared.source.Source.TheVariants.{File, Input, Missing}

-- the bytes that a read gave
abbrev pub given : {E : Type 0} → Result ℕ E → ℕ
given (Ok n) = n
given (Err e) = 0

-- one read more, and what it gave
pub record AddsRead {E : Type 0} (old : Reads) (result : Result ℕ E) (new : Reads) : Type 0 where
  pub count : new.count ≡ old.count + 1
  pub bytes : new.bytes ≡ old.bytes + given result

-- the bytes that a source still has: those of its file or of its input, where that tells them
abbrev pub bytes_in_source : {F I : Type 0} → (F → Option (List ℕ)) → (I → Option (List ℕ)) → Source F I → Option (List ℕ)
bytes_in_source of_file of_input (File file len) = of_file file
bytes_in_source of_file of_input (Input input) = of_input input
bytes_in_source of_file of_input (Missing error) = None
