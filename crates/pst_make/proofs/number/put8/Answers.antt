use Rattle.std.proofs.Common.{◌≡◌, ℕ, ◌%◌, [], ◌∷◌, sym, ap, ◌∙◌, arith}
use Rattle.pst_make.specs.Elsewhere.{overwritten}
use Rattle.pst_make.proofs.WriteLemmas.{num_written, elsewhere_written}
use Rattle.pst_make.proofs.number.put8.Goals as goal

pub returns-clause-value : goal.returns-clause-value
returns-clause-value c =
    let small : c.args.number % 256 ≡ c.args.number = omega (arith, c.ranges.number) in
    num_written c.args.image.now c.put_bytes.new.image c.args.at 1 c.args.number
    ((rw c.to_le_bytes.ensures at c.put_bytes.ensures) ∙ ap (λ (x : ℕ). overwritten c.args.image.now c.args.at (x ∷ [])) (sym small)) c.requires (omega (arith, c.ranges.number))

pub returns-clause-others : goal.returns-clause-others
returns-clause-others c =
    let small : c.args.number % 256 ≡ c.args.number = omega (arith, c.ranges.number) in
    elsewhere_written c.args.image.now c.put_bytes.new.image c.args.at 1 c.args.number
    ((rw c.to_le_bytes.ensures at c.put_bytes.ensures) ∙ ap (λ (x : ℕ). overwritten c.args.image.now c.args.at (x ∷ [])) (sym small)) c.requires
