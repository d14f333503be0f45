-- Words that are declined, where what is shown or said of them was written whole.
use Rattle.std.proofs.Common.{◌≡◌, ℕ, inl, inr, arith}
use Rattle.std.specs.Prelude.{◌⊎◌}
use Rattle.pst_ask.specs.clap.declared.error.kind.ErrorKind.{ErrorKind}
use Rattle.pst_ask.specs.clap.declared.error.kind.ErrorKind.TheVariants as kind
use Rattle.pst_run.specs.Run.{IsStatusOf}
use Rattle.pst_answer.specs.Answer.{IsDeclinedWith}

-- the status of an error of this kind, where it is neither that of an output that fails nor that of want of memory
pub declined_with : (k : ErrorKind) (status : ℕ) → IsStatusOf k status → (status ≡ 0) ⊎ (status ≡ 2) → IsDeclinedWith k status
declined_with kind.OutOfMemory status four (inl zero) = absurd (omega (arith, four, zero))
declined_with kind.OutOfMemory status four (inr two) = absurd (omega (arith, four, two))
declined_with kind.DisplayHelp status (inl zero) whole = zero
declined_with kind.DisplayHelp status (inr three) (inl zero) = zero
declined_with kind.DisplayHelp status (inr three) (inr two) = absurd (omega (arith, three, two))
declined_with kind.DisplayVersion status (inl zero) whole = zero
declined_with kind.DisplayVersion status (inr three) (inl zero) = zero
declined_with kind.DisplayVersion status (inr three) (inr two) = absurd (omega (arith, three, two))
declined_with kind.InvalidValue status two whole = two
declined_with kind.UnknownArgument status two whole = two
declined_with kind.InvalidSubcommand status two whole = two
declined_with kind.NoEquals status two whole = two
declined_with kind.ValueValidation status two whole = two
declined_with kind.TooManyValues status two whole = two
declined_with kind.TooFewValues status two whole = two
declined_with kind.WrongNumberOfValues status two whole = two
declined_with kind.ArgumentConflict status two whole = two
declined_with kind.MissingRequiredArgument status two whole = two
declined_with kind.MissingSubcommand status two whole = two
declined_with kind.DisplayHelpOnMissingArgumentOrSubcommand status two whole = two
declined_with kind.Io status two whole = two
declined_with kind.Format status two whole = two
