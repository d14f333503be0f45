-- What a run writes, and its status.
use Rattle.std.specs.Prelude.{◌≡◌, ◌≢◌, ℕ, Bool, true, false, ◌⊎◌, List, Option, None, Result, Ok, Err, IfSome, codes}
use Rattle.std.specs.Io.KnownBytes.{Appends, Keeps}
use Rattle.pst_json.specs.Output.{AppendsFront}
use Rattle.pst_fault.specs.declared.fault.Fault.{Fault}
use Rattle.pst_fault.specs.declared.kind.Kind.{Kind as FaultKind}
use Rattle.pst_explain.specs.Text.{explanation}
use Rattle.pst_ask.specs.clap.Words.{IsAmong, Kinds}
use Rattle.pst_ask.specs.clap.declared.error.Error.{Error}
use Rattle.pst_ask.specs.clap.declared.error.kind.ErrorKind.{ErrorKind}
use Rattle.pst_ask.specs.clap.declared.error.kind.ErrorKind.TheVariants as kind
use Rattle.pst_json.specs.declared.output.EmitFault.{EmitFault}
use Rattle.pst_ask.specs.Ask.{Asked}
use Rattle.pst_ask.specs.declared.ask.Lack.{Lack}
use Rattle.pst_ask.specs.declared.ask.Lack.TheVariants.{Nid, Property, Kind, Nothing}
use Rattle.pst_ask.specs.declared.words.NoOrder.{NoOrder}
use Rattle.pst_ask.specs.declared.words.NoOrder.TheVariants.{Words, Lacks}
use Rattle.pst_run.specs.declared.refusal.Refusal.{Refusal}
use Rattle.pst_run.specs.Answer.{ToldText, answer_to}
use Rattle.pst_run.specs.declared.ending.Ending.{Ending}
use Rattle.pst_run.specs.Refusal.{Refused, fault, fault_of, document, input, output, memory, refused_of, line_of_text, refusal_line, status_of}

-- what both outputs hold, where they tell it
pub record Outputs : Type 0 where
  pub out : Option (List ℕ)
  pub err : Option (List ℕ)

abbrev pub outputs : Option (List ℕ) → Option (List ℕ) → Outputs
outputs out err = record { out = out; err = err }

-- the error output gains a line, or a front of it where it fails
abbrev pub SaysLine : List ℕ → Option (List ℕ) → Option (List ℕ) → Type 0
SaysLine text old new = AppendsFront old new (line_of_text text)

-- the error output gains what a refusal says there, or a front of it where it fails
abbrev pub Says : Refused → Option (List ℕ) → Option (List ℕ) → Type 0
Says r old new = AppendsFront old new (refusal_line r)

-- the status of a text that is shown
abbrev pub shown_status : Bool → ℕ
shown_status true = 1
shown_status false = 0

-- the answer is a text, which fails so, and all of it is written
abbrev pub Shows : Result ToldText Refused → Bool → Option (List ℕ) → Option (List ℕ) → Type 0
Shows answer fails old new = (told : ToldText) × (answer ≡ Ok told) × (fails ≡ told.fails) × Appends old new told.text

-- the answer is a text, and a front of it is written
abbrev pub ShowsFront : Result ToldText Refused → Option (List ℕ) → Option (List ℕ) → Type 0
ShowsFront answer old new = (told : ToldText) × (answer ≡ Ok told) × AppendsFront old new told.text

-- nothing is written, or of a text that is made as it is written a front
abbrev pub LeavesFront : Result ToldText Refused → Option (List ℕ) → Option (List ℕ) → Type 0
LeavesFront answer old new = Keeps old new ⊎ ((told : ToldText) × (answer ≡ Ok told) × (told.streamed ≡ true) × AppendsFront old new told.text)

-- nothing is shown for this reason: what the output holds then
abbrev pub EndsWith : Refused → Result ToldText Refused → Option (List ℕ) → Option (List ℕ) → Type 0
EndsWith (fault f) answer old new = (answer ≡ Err (fault f)) × Keeps old new
EndsWith (document path f) answer old new = (answer ≡ Err (document path f)) × Keeps old new
EndsWith input answer old new = ⊥
EndsWith (output f) answer old new = ShowsFront answer old new
EndsWith memory answer old new = LeavesFront answer old new

-- How showing an answer ends, and what the output then holds: all of the answer; at a refusal nothing; where the output failed, a
-- front of the answer; and where memory was refused nothing, or of an archive a front.
abbrev pub EndsShowing : Result Bool Refusal → Result ToldText Refused → Option (List ℕ) → Option (List ℕ) → Type 0
EndsShowing (Ok fails) answer old new = Shows answer fails old new
EndsShowing (Err r) answer old new = EndsWith (refused_of r) answer old new

-- memory was refused, which is said, and nothing is written
abbrev pub IsOutOfMemory : ℕ → Outputs → Outputs → Type 0
IsOutOfMemory status old new = (status ≡ 4) × Keeps old.out new.out × Says memory old.err new.err

-- memory was refused, which is said, and nothing is written, or of an archive a front
abbrev pub WantsMemory : Result ToldText Refused → ℕ → Outputs → Outputs → Type 0
WantsMemory answer status old new = (status ≡ 4) × LeavesFront answer old.out new.out × Says memory old.err new.err

-- The answer is written, its status is the run's, and nothing is said on the error output; or the answer is a refusal, the
-- status is its, and its line is said there and nothing written. Only an output that cannot be written (3) and want of memory
-- (4) give another status, and say so.
abbrev pub Answers : Result ToldText Refused → ℕ → Outputs → Outputs → Type 0
Answers answer status old new =
    ((fails : Bool) × (status ≡ shown_status fails) × Shows answer fails old.out new.out × Keeps old.err new.err)
    ⊎ (((r : Refused) × (answer ≡ Err r) × (status ≡ status_of r) × Keeps old.out new.out × Says r old.err new.err)
    ⊎ (((f : EmitFault) × (status ≡ 3) × ShowsFront answer old.out new.out × Says (output f) old.err new.err)
    ⊎ WantsMemory answer status old new))

-- the bytes did not come: the file cannot be read, or memory was refused, which is said, and nothing is written
abbrev pub IsUnread : ℕ → Outputs → Outputs → Type 0
IsUnread status old new =
    ((status ≡ 3) × Keeps old.out new.out × Says input old.err new.err) ⊎ IsOutOfMemory status old new

-- The answer to some bytes, which are those of the reader where it tells them; or these did not come.
abbrev pub CarriesOut : Asked → Option (List ℕ) → ℕ → Outputs → Outputs → Type 0
CarriesOut a known status old new =
    ((bytes : List ℕ) × IfSome known (λ all. bytes ≡ all) × Answers (answer_to a bytes) status old new)
    ⊎ IsUnread status old new

-- the fault for which a file is refused, where an answer is that
abbrev pub fault_of_answer : Result ToldText Refused → Option Fault
fault_of_answer (Ok told) = None
fault_of_answer (Err r) = fault_of r

-- a run that ends with status 1 tells the fault of its answer, where that is one; and each other run none
abbrev pub TellsFault : Result ToldText Refused → Ending → Type 0
TellsFault answer ending = (ending.status ≡ 1 → ending.fault ≡ fault_of_answer answer) × (ending.status ≢ 1 → ending.fault ≡ None)

-- `CarriesOut`, and the fault for which those bytes are refused, where that is the answer
abbrev pub EndsAs : Asked → Option (List ℕ) → Ending → Outputs → Outputs → Type 0
EndsAs a known ending old new =
    ((bytes : List ℕ) × IfSome known (λ all. bytes ≡ all) × Answers (answer_to a bytes) ending.status old new × TellsFault (answer_to a bytes) ending)
    ⊎ (IsUnread ending.status old new × (ending.fault ≡ None))

-- The text that explains a kind of fault, or all of them, is written, and nothing is said; or a front of it, where the output
-- cannot be written, which is said.
abbrev pub Explains : Option FaultKind → ℕ → Outputs → Outputs → Type 0
Explains kind status old new =
    ((status ≡ 0) × Appends old.out new.out (explanation kind) × Keeps old.err new.err)
    ⊎ ((f : EmitFault) × (status ≡ 3) × AppendsFront old.out new.out (explanation kind) × Says (output f) old.err new.err)

-- ---- where nothing is done

-- the status where words are declined with an error of this kind
abbrev pub IsStatusOf : ErrorKind → ℕ → Type 0
IsStatusOf kind.OutOfMemory status = status ≡ 4
IsStatusOf kind.DisplayHelp status = (status ≡ 0) ⊎ (status ≡ 3)
IsStatusOf kind.DisplayVersion status = (status ≡ 0) ⊎ (status ≡ 3)
IsStatusOf _ status = status ≡ 2

-- the status where the words are refused, or ask for help: want of memory, or that of a kind that is found
abbrev pub IsWordsStatus : Kinds → ℕ → Type 0
IsWordsStatus kinds status = (status ≡ 4) ⊎ ((k : ErrorKind) × IsAmong k kinds × IsStatusOf k status)

-- a fact for the error of the words, and one where there is none
abbrev pub MatchNone : NoOrder → (Error → Type 0) → Type 0 → Type 0
MatchNone (Words e) P Q = P e
MatchNone (Lacks lack) P Q = Q

-- the line for words that are accepted and ask for nothing, without its line feed
abbrev pub lack_text : Lack → List ℕ
lack_text Nid = codes "bad node id"
lack_text Property = codes "bad property id"
lack_text Kind = codes "bad kind"
lack_text Nothing = codes "nothing is asked for"

-- words that lack something say so, with status 2; or memory was refused
abbrev pub IsLacking : Lack → ℕ → Option (List ℕ) → Option (List ℕ) → Type 0
IsLacking lack status old new = ((status ≡ 2) × SaysLine (lack_text lack) old new) ⊎ ((status ≡ 4) × Says memory old new)
