-- What a check tells is a function of the bytes.
use Rattle.std.proofs.Common.{◌≡◌, ◌+◌, ◌<◌, ◌≤◌, ℕ, List, [], ◌++◌, map, length, drop, get_or, Result, Ok, Err, refl, sym, ap, subst, ◌∙◌, append_assoc, append-nil}
use Rattle.std.proofs.lemmas.List.{at_drop_more, drop_all}
use Rattle.std.specs.Prelude.{Bool, true, false, if◌then◌else◌, Option, Some, None}
use Rattle.std.specs.Borrow.{Bor}
use Rattle.pst_fault.specs.declared.fault.Fault.{Fault}
use Rattle.pst_json.specs.pst_store.Fault.{store_fault}
use Rattle.pst_json.specs.pst_store.Values.{store_in}
use Rattle.pst_json.specs.pst_verify.declared.verified.Verified.{Verified}
use Rattle.pst_json.specs.pst_verify.declared.report.Report.{Report}
use Rattle.pst_json.specs.pst_verify.Report.{IsReportOf}
use Rattle.pst_json.specs.pst_verify.Verified.{IsVerified}
use Rattle.pst_json.specs.Check.{report_parts}
use Rattle.pst_ask.specs.declared.path.Path.{Path}
use Rattle.pst_ask.specs.Ask.{Asked, damage, nids_of, report}
use Rattle.pst_encoding.specs.declared.method.Method.{Method}
use Rattle.pst_plain.specs.Twin.{method_of}
use Rattle.pst_json.specs.pst_props.declared.fault.DocFault.{DocFault}
use Rattle.pst_json.specs.pst_props.declared.fault.DocFault.TheVariants.{NoFolder, NoNode, NoProperty, TooManyPaths, Bad, Memory}
use Rattle.pst_json.specs.Told.{TellsDoc}
use Rattle.pst_run.specs.declared.refusal.Refusal.{Refusal}
use Rattle.pst_run.specs.Refusal.{Refused, fault, is_memory, memory, refusal_for, refusal_of, refused_of}
use Rattle.pst_run.specs.Answer.{GivesNone, ToldText, answer_to, answer_with, behind, bytes_for, decoded_damage, digest_for, in_front, is_decoded_damage, is_of_whole, line_at, lines_of_paths, method_for, of_store, plain, report_in, report_told, whole_by}

report_is : (I : List ℕ) (r : Report) → IsReportOf I (store_in I) r → report_parts r ≡ report_in I
report_is I r is =
    let told = is.told in
    rw (told.pages, told.blocks, told.nodes, told.folders, told.messages, told.order, told.lost) refl

pub check_told : (bytes : Bor (List ℕ)) (strict digested : Bool) (digest : Option (List ℕ)) (v : Verified) → store_fault bytes.now ≡ None → IsVerified bytes v
    → answer_with (report strict digested) digest bytes.now ≡ Ok (report_told strict digest (report_parts v.report))
unfolding answer_with
check_told bytes strict digested digest v none is =
    ap (λ f. of_store f (Ok (report_told strict digest (report_in bytes.now)))) none
    ∙ ap (λ r. Ok (report_told strict digest r)) (sym (report_is bytes.now v.report is.report))

pub check_refused : (I : List ℕ) (strict digested : Bool) (digest : Option (List ℕ)) (f : Fault) → store_fault I ≡ Some f
    → answer_with (report strict digested) digest I ≡ Err (refusal_of f)
unfolding answer_with
check_refused I strict digested digest f some = ap (λ g. of_store g (Ok (report_told strict digest (report_in I)))) some

-- ---- lines, one after another

behind_behind : (text line : List ℕ) (r : Result ToldText Refused) → behind text (behind line r) ≡ behind (text ++ line) r
behind_behind text line (Ok told) = ap (λ l. Ok (record told { text = l })) (sym (append_assoc text line told.text))
behind_behind text line (Err r) = refl

-- nothing is told yet
pub line_first : (r : Result ToldText Refused) → r ≡ behind [] r
line_first (Ok told) = refl
line_first (Err r) = refl

-- the lines of the paths from one on
abbrev pub lines_left : (List ℕ → Result (List ℕ) DocFault) → List Path → Result ToldText Refused
lines_left line paths = lines_of_paths line (map nids_of paths)

-- the next line
pub line_more : (line : List ℕ → Result (List ℕ) DocFault) (paths : List Path) (i : ℕ) (d : Path) (text this : List ℕ) (whole : Result ToldText Refused) → i < length paths
    → line (nids_of (get_or paths i d)) ≡ Ok this → whole ≡ behind text (lines_left line (drop i paths)) → whole ≡ behind (text ++ this) (lines_left line (drop (i + 1) paths))
unfolding lines_of_paths
line_more line paths i d text this whole inside there is =
    let rest = lines_left line (drop (i + 1) paths) in
    is ∙ ap (behind text) (at_drop_more (lines_left line) paths i d inside)
    ∙ ap (λ l. behind text (in_front (line_at (nids_of (get_or paths i d)) l) rest)) there ∙ behind_behind text this rest

-- a path that has none
line_none : (line : List ℕ → Result (List ℕ) DocFault) (paths : List Path) (i : ℕ) (d : Path) (text : List ℕ) (f : DocFault) (whole : Result ToldText Refused) → i < length paths
    → line (nids_of (get_or paths i d)) ≡ Err f → whole ≡ behind text (lines_left line (drop i paths)) → whole ≡ Err (refusal_for (nids_of (get_or paths i d)) f)
unfolding lines_of_paths
line_none line paths i d text f whole inside there is =
    let rest = lines_left line (drop (i + 1) paths) in
    is ∙ ap (behind text) (at_drop_more (lines_left line) paths i d inside)
    ∙ ap (λ l. behind text (in_front (line_at (nids_of (get_or paths i d)) l) rest)) there

-- no path is left
pub lines_end : (line : List ℕ → Result (List ℕ) DocFault) (paths : List Path) (i : ℕ) (text : List ℕ) (whole : Result ToldText Refused) → length paths ≤ i
    → whole ≡ behind text (lines_left line (drop i paths)) → whole ≡ Ok (plain text)
unfolding lines_of_paths
lines_end line paths i text whole outside is =
    is ∙ ap (λ l. behind text (lines_left line l)) (drop_all i paths outside) ∙ ap (λ l. Ok (plain l)) (append-nil text)

-- ---- a refusal for a path

gives_fault : (f : Fault) (is : Bool) (whole : Result ToldText Refused) → whole ≡ Err (if is then memory else fault f) → GivesNone (if is then memory else fault f) whole
gives_fault f true whole e = tt
gives_fault f false whole e = e

-- what is told of a line that there is not is the refusal for it
gives_for : {Y : Type 0} (shown : Y → List ℕ) (path : List ℕ) (f : DocFault) (whole : Result ToldText Refused) (line : Result (List ℕ) DocFault) → TellsDoc shown (Err f) line
    → (line ≡ Err f → whole ≡ Err (refusal_for path f)) → GivesNone (refusal_for path f) whole
gives_for shown path NoFolder whole line tells is = is tells
gives_for shown path NoNode whole line tells is = is tells
gives_for shown path (NoProperty id) whole line tells is = is tells
gives_for shown path TooManyPaths whole line tells is = is tells
gives_for shown path (Bad f) whole line tells is = gives_fault f (is_memory f.kind) whole (is tells)
gives_for shown path Memory whole line tells is = tt

pub line_refused : {Y : Type 0} (shown : Y → List ℕ) (line : List ℕ → Result (List ℕ) DocFault) (paths : List Path) (i : ℕ) (d : Path) (given told text : List ℕ) (f : DocFault)
    (r : Refusal) (whole : Result ToldText Refused) → i < length paths → given ≡ nids_of (get_or paths i d) → told ≡ nids_of (get_or paths i d) → TellsDoc shown (Err f) (line given)
    → refused_of r ≡ refusal_for told f → whole ≡ behind text (lines_left line (drop i paths)) → GivesNone (refused_of r) whole
line_refused shown line paths i d given told text f r whole inside this same tells is so_far =
    let path = nids_of (get_or paths i d) in
    let here : TellsDoc shown (Err f) (line path) = subst (λ p. TellsDoc shown (Err f) (line p)) this tells in
    subst (λ x. GivesNone x whole) (sym (is ∙ ap (λ p. refusal_for p f) same)) (gives_for shown path f whole (line path) here (λ none. line_none line paths i d text f whole inside none so_far))

-- ---- whether a file is decoded, or what is broken of it

-- what is broken of a file that is to be decoded
pub to_damage : (a : Asked) (bytes : List ℕ) → is_decoded_damage a ≡ true → answer_to a bytes ≡ decoded_damage (method_of bytes) (digest_for a.ask bytes) bytes
to_damage a bytes is = rw is refl

-- what is whole of a file
pub to_whole : (a : Asked) (bytes : List ℕ) → is_decoded_damage a ≡ false → is_of_whole a ≡ true → answer_to a bytes ≡ whole_by (method_for a.decode bytes) a.ask bytes
to_whole a bytes is whole = rw (is, whole) refl

-- all else
pub to_shown : (a : Asked) (bytes : List ℕ) → is_decoded_damage a ≡ false → is_of_whole a ≡ false
    → answer_to a bytes ≡ answer_with a.ask (digest_for a.ask bytes) (bytes_for a.decode bytes)
to_shown a bytes is whole = rw (is, whole) refl

-- of a file that is not encoded
pub damage_as_stored : (digested : Bool) (method : Option Method) (digest : Option (List ℕ)) (I : List ℕ) → method ≡ None → answer_with (damage digested) digest I ≡ decoded_damage method digest I
unfolding answer_with
damage_as_stored digested method digest I none = rw none refl
