-- What a run does for words that ask for something.
use Rattle.std.proofs.Common.{◌≡◌, ◌∙◌, inl, inr, refl, sym, ap, subst, ℕ, List, Ok, Err, arith}
use Rattle.std.specs.Prelude.{Bool, true, Option, None, Result}
use Rattle.pst_fault.specs.declared.kind.Kind.{Kind}
use Rattle.pst_ask.specs.clap.Words.{IsAmong, Text, kind_of}
use Rattle.pst_ask.specs.Ask.{Asked, Ordered, show, explain}
use Rattle.pst_ask.specs.declared.words.NoOrder.{NoOrder}
use Rattle.pst_ask.specs.declared.words.NoOrder.TheVariants.{Words, Lacks}
use Rattle.pst_ask.specs.Words.{Declines, IsAsked}
use Rattle.pst_run.specs.declared.ending.Ending.{Ending}
use Rattle.pst_export.specs.declared.fault.ExportFault.{ExportFault}
use Rattle.pst_export.specs.declared.fault.ExportFault.TheVariants.{Output, Memory}
use Rattle.pst_json.specs.Output.{AppendsFront}
use Rattle.pst_run.specs.Answer.{ToldText}
use Rattle.pst_run.specs.Refusal.{Refused, fault, document, input, output, memory, fault_of, status_of, written_for}
use Rattle.pst_run.specs.Run.{Answers, CarriesOut, EndsAs, EndsWith, IsStatusOf, MatchNone, Outputs, Says, Shows, TellsFault, fault_of_answer}

-- words ask for one thing: what is done for it is done for all that they ask for
pub done_as_asked : (words : List Text) (done : Asked → Type 0) (this : Asked) → IsAsked words (show this) → done this → (a : Asked) → IsAsked words (show a) → done a
done_as_asked words done this is held a asks = let same : this ≡ a = cc in subst done same held

pub explained_as_asked : (words : List Text) (done : Option Kind → Type 0) (this : Option Kind) → IsAsked words (explain this) → done this
    → (k : Option Kind) → IsAsked words (explain k) → done k
explained_as_asked words done this is held k asks = let same : this ≡ k = cc in subst done same held

-- words that ask for something are declined only for want of memory
pub out_of_memory : (words : List Text) (none : NoOrder) (order : Ordered) (status : ℕ) → Declines words none → IsAsked words order
    → MatchNone none (λ e. IsStatusOf (kind_of e) status) (status ≡ 2) → status ≡ 4
out_of_memory words (Words e) order status (inl refused) asks is = subst (λ k. IsStatusOf k status) refused is
out_of_memory words (Words e) order status (inr among) asks is = absurd (subst (IsAmong (kind_of e)) asks.accepted among)
out_of_memory words (Lacks lack) order status lacks asks is = absurd (let both : Err lack ≡ Ok order = sym lacks.1 ∙ asks.is in cc)

-- ---- the fault with which a run ends

-- what is carried out, without the fault
pub carried : (a : Asked) (known : Option (List ℕ)) (ending : Ending) (old new : Outputs) → EndsAs a known ending old new → CarriesOut a known ending.status old new
carried a known ending old new (inl (bytes, are, answers, told)) = inl (bytes, are, answers)
carried a known ending old new (inr (unread, none)) = inr unread

-- a text is shown
pub tells_shown : (answer : Result ToldText Refused) (fails : Bool) (old new : Option (List ℕ)) (ending : Ending) → Shows answer fails old new → ending.fault ≡ None
    → TellsFault answer ending
tells_shown answer fails old new ending (told, is, all, written) none = (λ _. none ∙ sym (ap fault_of_answer is), λ _. none)

-- nothing is shown for a reason
pub tells_refused : (answer : Result ToldText Refused) (r : Refused) (old new : Option (List ℕ)) (ending : Ending) → EndsWith r answer old new → ending.status ≡ status_of r
    → ending.fault ≡ fault_of r → TellsFault answer ending
tells_refused answer (fault f) old new ending ends is told = (λ _. told ∙ sym (ap fault_of_answer ends.0), λ other. absurd (other is))
tells_refused answer (document path f) old new ending ends is told = (λ _. told ∙ sym (ap fault_of_answer ends.0), λ _. told)
tells_refused answer input old new ending ends is told = absurd ends
tells_refused answer (output f) old new ending ends is told = (λ one. absurd (omega (arith, is, one)), λ _. told)
tells_refused answer memory old new ending ends is told = (λ one. absurd (omega (arith, is, one)), λ _. told)

-- nothing is shown for a reason, which is said
pub answers_refused : (answer : Result ToldText Refused) (r : Refused) (status : ℕ) (old new : Outputs) → EndsWith r answer old.out new.out → status ≡ status_of r
    → Says r old.err new.err → Answers answer status old new
answers_refused answer (fault f) status old new ends is said = inr (inl (fault f, ends.0, is, ends.1, said))
answers_refused answer (document path f) status old new ends is said = inr (inl (document path f, ends.0, is, ends.1, said))
answers_refused answer input status old new ends is said = absurd ends
answers_refused answer (output f) status old new ends is said = inr (inr (inl (f, is, ends, said)))
answers_refused answer memory status old new ends is said = inr (inr (inr (is, ends, said)))

-- ---- a text that was not written to its end

pub ends_written : (f : ExportFault) (r : Refused) (told : ToldText) (answer : Result ToldText Refused) (old new : Option (List ℕ)) → r ≡ written_for f → answer ≡ Ok told
    → AppendsFront old new told.text → (f ≡ Memory → told.streamed ≡ true) → EndsWith r answer old new
ends_written (Output e) r told answer old new is shown front why = subst (λ x. EndsWith x answer old new) (sym is) (told, shown, front)
ends_written Memory r told answer old new is shown front why = subst (λ x. EndsWith x answer old new) (sym is) (inr (told, shown, why refl, front))
