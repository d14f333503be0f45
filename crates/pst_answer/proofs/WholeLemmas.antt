-- What is whole of a file, written in memory.
use Rattle.std.proofs.Common.{◌≡◌, ℕ, Bool, List, [], ◌++◌, Option, Some, Result, Ok, sym, ap, ◌∙◌}
use Rattle.pst_run.specs.Answer.{GivesNone, ToldText}
use Rattle.pst_run.specs.Refusal.{Refused, fault, document, input, output, memory}
use Rattle.pst_run.specs.Run.{EndsWith, Shows}
use Rattle.pst_answer.specs.Answer.{refused_in_memory}

-- all of a text is written where nothing stood
pub yields_shown : (answer : Result ToldText Refused) (fails : Bool) (old items : List ℕ) → old ≡ [] → Shows answer fails (Some old) (Some items)
    → (streamed : Bool) × (answer ≡ Ok (record { text = items; fails = fails; streamed = streamed }))
yields_shown answer fails old items none (told, is, same, written) =
    let all : items ≡ told.text = written ∙ ap (λ l. l ++ told.text) none in (
      told.streamed,
      is ∙ ap (λ t. Ok (record { text = t; fails = told.fails; streamed = told.streamed })) (sym all)
          ∙ ap (λ f. Ok (record { text = items; fails = f; streamed = told.streamed })) (sym same),
    )

-- nothing is shown for a reason
pub yields_none : (r : Refused) (answer : Result ToldText Refused) (old new : Option (List ℕ)) → EndsWith r answer old new → GivesNone (refused_in_memory r) answer
yields_none (fault f) answer old new ends = ends.0
yields_none (document path f) answer old new ends = ends.0
yields_none input answer old new ends = absurd ends
yields_none (output f) answer old new ends = tt
yields_none memory answer old new ends = tt
