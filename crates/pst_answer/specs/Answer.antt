-- What is answered to words and bytes.
use Rattle.std.specs.Prelude.{◌≡◌, ◌≤◌, ◌<◌, ◌⊎◌, ℕ, Bool, List, [], length, Option, Result, Ok, Err, Vec, codes}
use Rattle.std.specs.Global.{Global}
use Rattle.pst_ask.specs.Ask.{Asked, show, explain}
use Rattle.pst_ask.specs.Words.{Declines, IsAsked}
use Rattle.pst_ask.specs.clap.Words.{kind_of}
use Rattle.pst_ask.specs.clap.declared.error.kind.ErrorKind.{ErrorKind}
use Rattle.pst_ask.specs.clap.declared.error.kind.ErrorKind.TheVariants as kind
use Rattle.pst_ask.specs.declared.ask.Lack.{Lack}
use Rattle.pst_ask.specs.declared.words.NoOrder.{NoOrder}
use Rattle.pst_ask.specs.declared.words.NoOrder.TheVariants.{Lacks}
use Rattle.pst_explain.specs.Text.{explanation}
use Rattle.pst_fault.specs.declared.kind.Kind.{Kind}
use Rattle.pst_run.specs.declared.refusal.Refusal.{Refusal}
use Rattle.pst_run.specs.Answer.{GivesNone, ToldText, answer_to}
use Rattle.pst_run.specs.Refusal.{Refused, input, memory, output, line_of_text, refusal_text, refused_of, status_of}
use Rattle.pst_run.specs.Run.{MatchNone, lack_text, shown_status}
use Rattle.pst_answer.specs.declared.answer.Answer.{Answer}
use Rattle.pst_answer.specs.declared.words.NoWords.{NoWords}
use Rattle.pst_answer.specs.declared.words.NoWords.TheVariants.{Endless, NoText, Memory}
use Rattle.pst_answer.specs.Words.{IsEndless, IsNoText, IsWords}

-- the status, what is written, and what is said on the error output
abbrev pub Is : ℕ → List ℕ → List ℕ → Answer → Type 0
Is status text line a = (a.status ≡ status) × (a.text.items ≡ text) × (a.line.items ≡ line)

-- memory was refused: nothing is said
abbrev pub IsMemory : Answer → Type 0
IsMemory a = Is 4 [] [] a

-- a line alone, unless memory was refused
abbrev pub HasLine : ℕ → List ℕ → Answer → Type 0
HasLine status text a = Is status [] (line_of_text text) a ⊎ IsMemory a

-- why nothing is shown, unless memory was refused
abbrev pub Refuses : Refused → Answer → Type 0
Refuses memory a = IsMemory a
Refuses r a = HasLine (status_of r) (refusal_text r) a

-- what a command shows, or why it refuses
abbrev pub AnswersCommand : Result ToldText Refused → Answer → Type 0
AnswersCommand (Ok told) a = Is (shown_status told.fails) told.text [] a ⊎ IsMemory a
AnswersCommand (Err r) a = HasLine (status_of r) (refusal_text r) a

-- The answer to what is asked for of a file with these bytes is that of the program, which takes no longer file.
abbrev pub AnswersRequest : Asked → List ℕ → Answer → Type 0
AnswersRequest asked bytes a =
    (length bytes ≤ 17179869184 → AnswersCommand (answer_to asked bytes) a)
    × (17179869184 < length bytes → HasLine 3 (refusal_text input) a)

-- the text that explains a kind of fault, or all of them
abbrev pub AnswersKind : Option Kind → Answer → Type 0
AnswersKind kind a = Is 0 (explanation kind) [] a ⊎ IsMemory a

-- the status for words that are declined with an error of this kind: help and the version are shown, all else is said
abbrev pub IsDeclinedWith : ErrorKind → ℕ → Type 0
IsDeclinedWith kind.OutOfMemory status = ⊥
IsDeclinedWith kind.DisplayHelp status = status ≡ 0
IsDeclinedWith kind.DisplayVersion status = status ≡ 0
IsDeclinedWith _ status = status ≡ 2

-- Why nothing is done: help or the version, a text with status 0; or with status 2 a line, which is that of what the words lack,
-- where they lack something.
pub record Declined (none : NoOrder) (a : Answer) : Type 0 where
  pub status : MatchNone none (λ e. IsDeclinedWith (kind_of e) a.status) (a.status ≡ 2)
  pub lacking : (lack : Lack) → none ≡ Lacks lack → a.line.items ≡ line_of_text (lack_text lack)
  pub no_text : a.status ≡ 2 → a.text.items ≡ []
  pub no_line : a.status ≡ 0 → a.line.items ≡ []

-- The answer to words, of which one of these holds: they ask for something of a file, or what a kind of fault is, or for nothing
-- that can be done.
abbrev pub AnswersWords : List (List ℕ) → List ℕ → Answer → Type 0
AnswersWords words bytes a =
    ((asked : Asked) × IsAsked words (show asked) × AnswersRequest asked bytes a)
    ⊎ (((kind : Option Kind) × IsAsked words (explain kind) × AnswersKind kind a)
    ⊎ (((none : NoOrder) × Declines words none × Declined none a) ⊎ IsMemory a))

-- the answer to bytes that are no words, for a reason
abbrev pub WordlessBy : NoWords → Answer → Type 0
WordlessBy Endless a = HasLine 2 (codes "the last word has no end") a
WordlessBy NoText a = HasLine 2 (codes "a word is not UTF-8") a
WordlessBy Memory a = IsMemory a

-- and of a right reason
abbrev pub Wordless : List ℕ → Answer → Type 0
Wordless bytes a = (IsEndless bytes × WordlessBy Endless a) ⊎ (IsNoText bytes × WordlessBy NoText a)

-- The answer to the words that lie in some bytes, over the bytes of a file.
abbrev pub AnswersCall : List ℕ → List ℕ → Answer → Type 0
AnswersCall words bytes a =
    ((these : List (List ℕ)) × IsWords words these × AnswersWords these bytes a) ⊎ (Wordless words a ⊎ IsMemory a)

-- why nothing is shown where the text is made in memory: such an output fails for want of memory alone
abbrev pub refused_in_memory : Refused → Refused
refused_in_memory (output f) = memory
refused_in_memory r = r

-- what is shown of a file, or why it is refused, unless memory ran out
abbrev pub Yields : Result (Vec ℕ Global × Bool) Refusal → Result ToldText Refused → Type 0
Yields (Ok shown) told = (streamed : Bool) × (told ≡ Ok (record { text = shown.0.items; fails = shown.1; streamed = streamed }))
Yields (Err r) told = GivesNone (refused_of r) told
