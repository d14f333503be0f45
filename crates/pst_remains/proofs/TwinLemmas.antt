-- What remains of an encoded file, its blocks decoded, beside its plain twin.
use Rattle.std.proofs.Common.{◌≡◌, ℕ, List, Some, None, sym, ap, ◌∙◌}
use Rattle.std.specs.List.{All, filter}
use Rattle.pst_fault.specs.First.{◌then◌}
use Rattle.pst_header.specs.Header.{fields}
use Rattle.pst_page.specs.declared.entry.BlockEntry.{BlockEntry}
use Rattle.pst_block.specs.Table.{Table, table_with}
use Rattle.pst_encoding.specs.declared.method.Method.{Method}
use Rattle.pst_encoding.specs.Tables.{IsByte}
use Rattle.pst_ndb.specs.Entries.{block_list, block_table, node_list}
use Rattle.pst_ndb.specs.Space.{space_fault}
use Rattle.pst_plain.specs.Blocks.{has_data}
use Rattle.pst_plain.specs.Faults.{fault_before_nodes}
use Rattle.pst_plain.specs.Twin.{method_of, with_method, all_decoded, data_decoded, decoded_file}
use Rattle.pst_plain.proofs.FaultLemmas.{front_same}
use Rattle.pst_plain.proofs.HeaderLemmas.{plain_header}
use Rattle.pst_plain.proofs.LaterLemmas.{all_placed, decoded_whole}
use Rattle.pst_plain.proofs.TwinLemmas.{twin_is}
use Rattle.pst_remains.specs.Decoded.{decoded_remains_of}
use Rattle.pst_remains.specs.Header.{header_damage}
use Rattle.pst_remains.specs.Laws.{first_told, DecodedFirstLaw, DecodedWholeLaw}
use Rattle.pst_remains.specs.Remains.{remains_of}
use Rattle.pst_remains.proofs.DecodedLemmas.{plain_bytes}
use Rattle.pst_remains.proofs.LawLemmas.{first_law, whole_law}

-- what is told of the file with bCryptMethod 0
plain_first : (I : List ℕ) (method : Method) → All IsByte I → method_of I ≡ Some method →
    let J = with_method 0 I in first_told (remains_of J) ≡ fault_before_nodes J
unfolding header_damage
plain_first I method all is =
    let J = with_method 0 I in
    first_law J ∙ ap (λ o. o then space_fault J (fields J)) (sym (plain_header I method all is))

pub decoded_first : DecodedFirstLaw
unfolding decoded_remains_of
decoded_first I method all is =
    let J = with_method 0 I in
    plain_first I method all is ∙ sym (front_same J method (plain_bytes I method all is)) ∙ ap fault_before_nodes (sym (twin_is I method is))

-- the bytes, where there is no fault
bytes_are : (J : List ℕ) (method : Method) (entries : List BlockEntry) → fault_before_nodes J ≡ None → entries ≡ block_list J (fields J) → data_decoded method entries J ≡ decoded_file method J
bytes_are J method entries fine same = ap (λ (l : List BlockEntry). all_decoded method l J) (ap (filter has_data) same ∙ sym (all_placed J fine))

pub decoded_whole_law : DecodedWholeLaw
unfolding decoded_remains_of
decoded_whole_law I method all is none =
    let J = with_method 0 I in
    let T = decoded_file method J in
    let twin = twin_is I method is in
    let fine : fault_before_nodes J ≡ None = sym (plain_first I method all is) ∙ none in
    let whole = whole_law J none in
    let same = decoded_whole J method (plain_bytes I method all is) fine in
    let entries : (remains_of J).table.entries ≡ block_list J (fields J) = ap (λ (t : Table). t.entries) whole.0 in
    let table : table_with (data_decoded method (remains_of J).table.entries J) (remains_of J).table.entries ≡ block_table T (fields T) =
    ap (λ (X : List ℕ). table_with X (remains_of J).table.entries) (bytes_are J method (remains_of J).table.entries fine entries) ∙ ap (table_with T) (entries ∙ sym same.blocks) in
    (table ∙ ap (λ (X : List ℕ). block_table X (fields X)) (sym twin), whole.1 ∙ sym same.nodes ∙ ap (λ (X : List ℕ). node_list X (fields X)) (sym twin))
