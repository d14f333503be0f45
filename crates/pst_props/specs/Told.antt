-- What a call answers that may have no document.
use Rattle.std.specs.Prelude.{◌≡◌, ℕ, List, ◌++◌, Result, Ok, Err, codes}
use Rattle.serde_json.specs.Data.{Data}
use Rattle.pst_fault.specs.Fault.{fault_text}
use Rattle.pst_props.specs.declared.fault.DocFault.{DocFault}
use Rattle.pst_props.specs.declared.fault.DocFault.TheVariants.{NoFolder, NoNode, Bad, NoProperty, TooManyPaths, Memory}
use Rattle.pst_value_json.specs.pst_text.Line.{data_line}
use Rattle.pst_value_json.specs.pst_text.Names.{id_text}

-- what is given shows the answer, or the answer is this fault, unless memory ran out
abbrev pub TellsDoc : {X Y : Type 0} → (Y → X) → Result Y DocFault → Result X DocFault → Type 0
TellsDoc shown (Ok y) answer = answer ≡ Ok (shown y)
TellsDoc shown (Err NoFolder) answer = answer ≡ Err NoFolder
TellsDoc shown (Err NoNode) answer = answer ≡ Err NoNode
TellsDoc shown (Err (Bad f)) answer = answer ≡ Err (Bad f)
TellsDoc shown (Err (NoProperty id)) answer = answer ≡ Err (NoProperty id)
TellsDoc shown (Err TooManyPaths) answer = answer ≡ Err TooManyPaths
TellsDoc shown (Err Memory) answer = Unit {0}

-- what is said of what there is not, without the node or the path that was asked for
abbrev pub doc_fault_text : DocFault → List ℕ
doc_fault_text NoFolder = codes "no folder"
doc_fault_text NoNode = codes "no node"
doc_fault_text (Bad f) = fault_text f
doc_fault_text (NoProperty id) = codes "no property " ++ id_text id
doc_fault_text TooManyPaths = codes "too many paths"
doc_fault_text Memory = codes "out of memory"

-- what is told of what there is
abbrev pub told_or_fault : {X Y : Type 0} → (X → Y) → Result X DocFault → Result Y DocFault
told_or_fault told (Ok x) = Ok (told x)
told_or_fault told (Err f) = Err f

-- the line of a document, where there is one
abbrev pub lined : Result Data DocFault → Result (List ℕ) DocFault
lined (Ok d) = Ok (data_line d)
lined (Err f) = Err f
