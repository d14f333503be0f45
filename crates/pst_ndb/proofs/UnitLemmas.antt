-- Two trees have no more pages than the file has bytes.
use Rattle.std.proofs.Common.{◌≡◌, ℕ, ◌+◌, ◌≤◌, List, length, Some, ◌∙◌, arith}
use Rattle.std.proofs.Math.Nat.{min-le_left}
use Rattle.pst_header.specs.declared.header.Header.{Header}
use Rattle.pst_header.specs.Header.{end_of}
use Rattle.pst_page.specs.declared.kind.PageKind.TheVariants.{Bbt, Nbt}
use Rattle.pst_space.specs.Claimed.{Claimed, unit_total, claim_all}
use Rattle.pst_space.proofs.MarkedLemmas.{marked_most}
use Rattle.pst_btree.specs.Tree.{Tree, pages_of, page_spans, IsTree}
use Rattle.pst_btree.proofs.MarkedLemmas.{pages_marked}
use Rattle.pst_btree.proofs.UnitLemmas.{tree_units}

-- two trees that are claimed one after the other have no more pages than the file has bytes
pub pages_few : (I : List ℕ) (h : Header) (old one two : Claimed) (level other : ℕ) (blocks nodes : Tree) → length old ≡ unit_total h → IsTree Bbt I (end_of h) h.bbt level blocks → IsTree Nbt I (end_of h) h.nbt other nodes
    → claim_all old (page_spans blocks) ≡ Some one → claim_all one (page_spans nodes) ≡ Some two → length (pages_of blocks) + length (pages_of nodes) ≤ h.eof
pages_few I h old one two level other blocks nodes long b n eb en =
    let first = pages_marked old one (pages_of blocks) (tree_units Bbt I (end_of h) level old blocks long b.spells) eb in
    let second = pages_marked one two (pages_of nodes) (tree_units Nbt I (end_of h) other one nodes (first.1 ∙ long) n.spells) en in
    let most = marked_most two in
    let least : end_of h ≤ h.eof = min-le_left h.eof (h.last_amap + 253952) in
    omega (arith, first.0, second.0, second.1, first.1, long, most, least)
