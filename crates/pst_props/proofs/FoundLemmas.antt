-- What is told of what is found.
use Rattle.std.proofs.Common.{◌≡◌, ℕ, Bool, List, Result, Ok, Err, refl, sym, ap, ◌∙◌}
use Rattle.serde_json.specs.Data.{Data}
use Rattle.std.specs.Prelude.{Option}
use Rattle.pst_block.specs.Table.{Table}
use Rattle.pst_value_json.specs.pst_names.Name.{NameParts}
use Rattle.pst_value_json.specs.pst_text.Line.{data_line}
use Rattle.pst_props.specs.declared.fault.DocFault.{DocFault}
use Rattle.pst_props.specs.declared.fault.DocFault.TheVariants.{NoFolder, NoNode, Bad, NoProperty, TooManyPaths, Memory}
use Rattle.pst_props.specs.Node.{place_data}
use Rattle.pst_props.specs.Path.{Place}
use Rattle.pst_props.specs.Told.{TellsDoc, lined, told_or_fault}

-- a document that shows it
pub told_found : (names called : ℕ → Option NameParts) (places : Bool) (t u : Table) (place : Place) (told : Result Place DocFault) (d : Data) → called ≡ names → u ≡ t → told ≡ Ok place
    → d ≡ place_data called places u place → told_or_fault (place_data names places t) told ≡ Ok d
told_found names called places t u place told d alike same found shown =
    ap (told_or_fault (place_data names places t)) found ∙ ap (λ x. Ok (place_data names places x place)) (sym same) ∙ ap (λ n. Ok (place_data n places u place)) (sym alike) ∙ ap Ok (sym shown)

pub line_found : (names called : ℕ → Option NameParts) (places : Bool) (t u : Table) (place : Place) (told : Result Place DocFault) (line : List ℕ) → called ≡ names → u ≡ t → told ≡ Ok place
    → line ≡ data_line (place_data called places u place) → lined (told_or_fault (place_data names places t) told) ≡ Ok line
line_found names called places t u place told line alike same found shown =
    ap lined (told_found names called places t u place told (place_data called places u place) alike same found refl) ∙ ap Ok (sym shown)

-- where nothing is found, nothing is told
pub tells_fault : {Z W : Type 0} (shown : W → Z) (f : DocFault) (answer : Result Z DocFault) → answer ≡ Err f → TellsDoc {X = Z} {Y = W} shown (Err f) answer
tells_fault shown NoFolder answer is = is
tells_fault shown NoNode answer is = is
tells_fault shown (Bad f) answer is = is
tells_fault shown (NoProperty id) answer is = is
tells_fault shown TooManyPaths answer is = is
tells_fault shown Memory answer is = tt

pub told_refused : {X Z W : Type 0} (shown : W → Z) (tell : X → Z) (f : DocFault) (told : Result X DocFault) → Err f ≡ told → TellsDoc {X = Z} {Y = W} shown (Err f) (told_or_fault tell told)
told_refused shown tell f told is = tells_fault shown f (told_or_fault tell told) (ap (told_or_fault tell) (sym is))

pub line_refused : {X W : Type 0} (shown : W → List ℕ) (tell : X → Data) (f : DocFault) (told : Result X DocFault) → Err f ≡ told → TellsDoc {X = List ℕ} {Y = W} shown (Err f) (lined (told_or_fault tell told))
line_refused shown tell f told is = tells_fault shown f (lined (told_or_fault tell told)) (ap (λ x. lined (told_or_fault tell x)) (sym is))

pub lined_fault : {W : Type 0} (shown : W → List ℕ) (f : DocFault) (answer : Result Data DocFault) → answer ≡ Err f → TellsDoc {X = List ℕ} {Y = W} shown (Err f) (lined answer)
lined_fault shown f answer is = tells_fault shown f (lined answer) (ap lined is)
