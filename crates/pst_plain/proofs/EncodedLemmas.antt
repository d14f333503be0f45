-- A plain file that is encoded says by which method, and is its twin when it is decoded.
use Rattle.std.proofs.Common.{◌≡◌, ℕ, List, Some, refl, ap, ◌∙◌, arith}
use Rattle.std.proofs.lemmas.Bool.{le-leb}
use Rattle.pst_header.specs.Header.{fields}
use Rattle.pst_header.specs.Head.{Head}
use Rattle.pst_header.proofs.Head.{header_law}
use Rattle.pst_encoding.specs.declared.method.Method.{Method}
use Rattle.pst_encoding.specs.declared.method.Method.TheVariants.{Permute, Cyclic}
use Rattle.pst_encoding.specs.Method.{method_number, method_with, decoded, encoded}
use Rattle.pst_plain.specs.Blocks.{data_blocks}
use Rattle.pst_plain.specs.Twin.{is_unicode, method_of, with_method, decoded_file, twin_of, encoded_of}
use Rattle.pst_plain.specs.Laws.{EncodedLaw}
use Rattle.pst_plain.proofs.CodingLemmas.{decoding, encoding, encoding_undone, encoded_is}
use Rattle.pst_plain.proofs.HeadLemmas.{method_again}
use Rattle.pst_plain.proofs.TwinLemmas.{number_byte, twin_is}
use Rattle.pst_plain.proofs.LawLemmas.{HeadTold, head_told}
use Rattle.pst_plain.proofs.HeaderLemmas.{kept, before}
use Rattle.pst_plain.proofs.AgainLemmas.{file_changed, decoded_file_is, file_kept, file_header, file_back}

is_number : (method : Method) → method_with (method_number method) ≡ Some method
is_number Permute = refl
is_number Cyclic = refl

-- a header that is good, but for another bCryptMethod, says that method
says_method : (K : List ℕ) (method : Method) → Head K (fields K) → HeadTold K (with_method (method_number method) K) (method_number method) → method_of (with_method (method_number method) K) ≡ Some method
unfolding method_of is_unicode fields
says_method K method head told =
    let number = method_number method in
    let I = with_method number K in
    rw (
      told.len,
      le-leb _ _ head.long,
      kept K I number 0 4 told (before 0 4 (omega arith)),
      head.magic,
      kept K I number 8 2 told (before 8 2 (omega arith)),
      head.client,
      kept K I number 10 2 told (before 10 2 (omega arith)),
      head.version,
      told.number_is,
    ) (is_number method)

pub encoded_law : EncodedLaw
unfolding encoded_of
encoded_law J method all good =
    let K = file_changed (encoded method) J in
    let number = method_number method in
    let bytes = (file_kept J (encoded method) (encoding method) all).bytes in
    let head : Head K (fields K) = (header_law K (fields K)).1 (file_header J (encoded method) (encoding method) all good, refl) in
    let I = with_method number K in
    let is : encoded_of J method ≡ I = ap (with_method number) (encoded_is method (data_blocks J) J) in
    let says : method_of I ≡ Some method = says_method K method head (head_told K number bytes (number_byte method) head.long) in
    let plain : with_method 0 I ≡ K = method_again K 0 number head.long bytes (omega arith) (number_byte method) head.plain in
    let back : decoded_file method K ≡ J = decoded_file_is method K ∙ file_back J (encoded method) (encoding method) all (decoded method) (decoding method) (encoding_undone method) in
    (ap method_of is ∙ says, ap twin_of is ∙ twin_is I method says ∙ ap (decoded_file method) plain ∙ back)
