-- Refusals: what they come from, the status that each ends with, and what is said of it.
use Rattle.std.specs.Prelude.{ℕ, Bool, true, false, if◌then◌else◌, List, [], ◌∷◌, ◌++◌, Option, Some, None, codes}
use Rattle.pst_fault.specs.Fault.{fault_text, hex}
use Rattle.pst_fault.specs.declared.fault.Fault.{Fault}
use Rattle.pst_fault.specs.declared.kind.Kind.{Kind}
use Rattle.pst_fault.specs.declared.kind.Kind.TheVariants.{NoMemory}
use Rattle.pst_export.specs.declared.fault.ExportFault.{ExportFault}
use Rattle.pst_export.specs.declared.fault.ExportFault.TheVariants.{Output, Memory}
use Rattle.pst_json.specs.pst_props.declared.fault.DocFault.{DocFault}
use Rattle.pst_json.specs.pst_props.declared.fault.DocFault.TheVariants as doc
use Rattle.pst_json.specs.declared.output.EmitFault.{EmitFault}
use Rattle.pst_json.specs.declared.output.EmitFault.TheVariants.{Closed}
use Rattle.pst_json.specs.Output.{emit_fault_text}
use Rattle.pst_json.specs.Told.{doc_fault_text}
use Rattle.pst_run.specs.declared.refusal.Refusal.{Refusal}
use Rattle.pst_run.specs.declared.refusal.Refusal.TheVariants as refusal

-- why a run shows nothing, without any place in memory
pub data Refused : Type 0 where
  -- the file is not what it has to be
  fault : Fault → Refused
  -- there is no such document, of the folder or at the path with these identifiers
  document : List ℕ → DocFault → Refused
  -- the file cannot be read, or is too long
  input : Refused
  -- the output cannot be written
  output : EmitFault → Refused
  -- memory was refused
  memory : Refused

abbrev pub refused_of : Refusal → Refused
refused_of (refusal.Fault f) = fault f
refused_of (refusal.Document path f) = document path.now f
refused_of refusal.Input = input
refused_of (refusal.Output f) = output f
refused_of refusal.Memory = memory

-- the kind says that memory was refused, and nothing of the file
abbrev pub is_memory : Kind → Bool
is_memory NoMemory = true
is_memory kind = false

-- what comes of a fault: want of memory is no fault of the file
abbrev pub refusal_of : Fault → Refused
refusal_of f = if is_memory f.kind then memory else fault f

-- what comes of a document or a property that there is not, of the folder or at the path with these identifiers: a property that is
-- not there is told without the path
abbrev pub refusal_for : List ℕ → DocFault → Refused
refusal_for path (doc.Bad f) = refusal_of f
refusal_for path doc.Memory = memory
refusal_for path (doc.NoProperty id) = document [] (doc.NoProperty id)
refusal_for path doc.TooManyPaths = document [] doc.TooManyPaths
refusal_for path f = document path f

-- what may come from reading
abbrev pub IsOfInput : Refused → Type 0
IsOfInput (fault f) = ⊥
IsOfInput (document path f) = ⊥
IsOfInput input = Unit {0}
IsOfInput (output f) = ⊥
IsOfInput memory = Unit {0}

-- the status with which a run ends that is refused
abbrev pub status_of : Refused → ℕ
status_of (fault f) = 1
status_of (document path f) = 1
status_of input = 3
status_of (output f) = 3
status_of memory = 4

-- the fault for which a file is refused, where that is why
abbrev pub fault_of : Refused → Option Fault
fault_of (fault f) = Some f
fault_of (document path f) = None
fault_of input = None
fault_of (output f) = None
fault_of memory = None

-- a path: its first identifier behind a blank, and each other behind a slash
abbrev pub step_text : Bool → ℕ → List ℕ
step_text true nid = codes " 0x" ++ hex nid
step_text false nid = codes "/0x" ++ hex nid

unfoldable pub path_text : Bool → List ℕ → List ℕ
path_text first [] = []
path_text first (nid ∷ rest) = step_text first nid ++ path_text false rest

-- the line of a refusal, without its line feed
abbrev pub refusal_text : Refused → List ℕ
refusal_text (fault f) = fault_text f
refusal_text (document path f) = doc_fault_text f ++ path_text true path
refusal_text input = codes "cannot read the file"
refusal_text (output f) = emit_fault_text f
refusal_text memory = codes "out of memory"

-- a text as a line
abbrev pub line_of_text : List ℕ → List ℕ
line_of_text text = text ++ 10 ∷ []

-- what a refusal says on standard error: its line; of an output that is closed nothing
abbrev pub refusal_line : Refused → List ℕ
refusal_line (output Closed) = []
refusal_line r = line_of_text (refusal_text r)

-- for an archive that was not written to its end
abbrev pub written_for : ExportFault → Refused
written_for (Output f) = output f
written_for Memory = memory
