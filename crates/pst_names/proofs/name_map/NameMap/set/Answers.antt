use Rattle.std.proofs.Common.{◌≡◌, ◌≤◌, ◌*◌, ◌+◌, List, ℕ, length, ap, sym, subst, ◌∙◌, arith}
use Rattle.std.specs.Prelude.{Some, slice_range}
use Rattle.pst_datatree.specs.Shown.{bytes_in}
use Rattle.pst_ndb.specs.Views.{table_of_node, roots_of}
use Rattle.pst_names.specs.declared.streams.TheConstants.{GUIDS}
use Rattle.pst_names.specs.Streams.{stream_of, stream_bytes}
use Rattle.pst_names.specs.Name.{guid_in}
use Rattle.pst_names.specs.View.{node_of_names}
use Rattle.pst_names.proofs.FoundLemmas.{set_is, guid_read}
use Rattle.pst_names.proofs.name_map.NameMap.set.Goals as goal

pub returns : goal.returns
returns c =
    let node = node_of_names c.args.self.now in
    let G = stream_bytes (stream_of (table_of_node node) (roots_of node) GUIDS) in
    let g = c.from-at.result in
    let at_least : 3 ≤ c.args.index = omega arith in
    let read : bytes_in c.unwrap-guid.result ≡ slice_range (bytes_in c.stream-guids.result) (16 * g) (16 * g + 16) = rw c.unwrap-guid.ensures at c.part.ensures.bytes in
    let own : bytes_in c.unwrap-guid.result ≡ slice_range G (16 * g) (16 * g + 16) = subst (λ (bs : List ℕ). bytes_in c.unwrap-guid.result ≡ slice_range bs (16 * g) (16 * g + 16)) c.stream-guids.ensures.bytes read in
    let fits : 16 * g + 16 ≤ length G = omega (arith, c.requires, c.from-at.ensures, at_least) in
    c.as_guid.ensures ∙ guid_read (bytes_in c.unwrap-guid.result) G g own fits ∙ ap (λ n. Some (guid_in G n)) c.from-at.ensures ∙ sym (set_is G c.args.index at_least)
