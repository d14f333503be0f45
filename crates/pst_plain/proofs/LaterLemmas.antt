-- Where a file has no fault up to its allocation maps, the entries of both B-trees stay, and all data blocks are decoded.
use Rattle.std.proofs.Common.{◌≡◌, ℕ, inl, inr, List, [], ◌∷◌, length, map, Option, Some, None, Ok, Err, true, false, cond, refl, sym, ap, subst, ◌∙◌, arith}
use Rattle.std.specs.Prelude.{⊤, if◌then◌else◌}
use Rattle.std.specs.List.{All, filter}
use Rattle.std.proofs.lemmas.List.Elements.{All-nil, All-cons, All-head, All-tail}
use Rattle.pst_bytes.specs.Image.{bytes_at}
use Rattle.pst_bytes.specs.Span.{IsApartFrom, IsApartFromAll}
use Rattle.pst_fault.specs.declared.fault.Fault.{Fault}
use Rattle.pst_fault.proofs.FirstLemmas.{none_then}
use Rattle.pst_header.specs.declared.header.Header.{Header}
use Rattle.pst_header.specs.Header.{header_fault, fields, end_of}
use Rattle.pst_header.specs.Head.{Head}
use Rattle.pst_header.specs.Place.{IsPlace}
use Rattle.pst_header.proofs.Head.{head_end}
use Rattle.pst_header.proofs.Head as good
use Rattle.pst_page.specs.declared.entry.BlockEntry.{BlockEntry}
use Rattle.pst_page.specs.declared.kind.PageKind.TheVariants.{Bbt, Nbt}
use Rattle.pst_page.specs.Entry.{block_entry_at}
use Rattle.pst_space.specs.Claimed.{Claimed, maps_claimed, claim_of, claim_all}
use Rattle.pst_space.specs.Apart.{AreApart}
use Rattle.pst_space.specs.Step.{Step}
use Rattle.pst_space.proofs.StepLemmas.{bind_ok}
use Rattle.pst_btree.specs.Walk.{Found, tree_walk}
use Rattle.pst_btree.proofs.TreeLaws.{walk_claims, then_some}
use Rattle.pst_block.specs.Block.{block_span, body_span}
use Rattle.pst_block.specs.Good.{GoodBlock}
use Rattle.pst_block.specs.Walk.{AreGood, block_spans, blocks_walk}
use Rattle.pst_block.proofs.BlockLemmas.{size_large, good_is_place}
use Rattle.pst_block.proofs.WalkLaws.{walked_good}
use Rattle.pst_encoding.specs.declared.method.Method.{Method}
use Rattle.pst_encoding.specs.Method.{decoded}
use Rattle.pst_encoding.specs.Tables.{IsByte}
use Rattle.pst_amap.specs.Report.{maps_fault}
use Rattle.pst_ndb.specs.Entries.{block_list, node_list}
use Rattle.pst_ndb.specs.Space.{space_walk, space_fault, fault_after}
use Rattle.pst_ndb.specs.Trees.{trees_walk}
use Rattle.pst_plain.specs.Blocks.{has_data, block_place, claimed_with, placed, trees_listed, data_blocks, EndsBy}
use Rattle.pst_plain.specs.Twin.{with_method, with_body, decoded_file}
use Rattle.pst_plain.specs.Faults.{fault_before_nodes, IsDecoded, LaterLaw}
use Rattle.pst_plain.proofs.CodingLemmas.{Coding, IsCoding, decoding, all_changed}
use Rattle.pst_plain.proofs.BlockLemmas.{placed_more, end_later}
use Rattle.pst_plain.proofs.BackLemmas.{body_elsewhere}
use Rattle.pst_plain.proofs.TwinLemmas.{method_long, twin_is}
use Rattle.pst_plain.proofs.LawLemmas.{told, all_kept, head_told, placed_inside}
use Rattle.pst_plain.proofs.HeaderLemmas.{header_law, method_behind}
use Rattle.pst_plain.proofs.SameLemmas.{part_same}
use Rattle.pst_plain.proofs.EntryLemmas.{block_list_is, blocks_same, nodes_same}
use Rattle.pst_plain.proofs.BehindLemmas.{IsSameBehind, span_behind, spelt_behind}
use Rattle.pst_plain.proofs.PlacedLemmas.{LiesIn, placed_lie, filter_from, fields_apart}
use Rattle.pst_plain.proofs.TrailerLemmas.{filter_ends}
use Rattle.pst_plain.proofs.AgainLemmas.{HasTrees, pages_again, the_blocks, the_data, the_laid, the_placed_apart, fields_again, file_changed, decoded_file_is, same_beside}
use Rattle.pst_plain.proofs.FaultLemmas.{front_same}

-- ---- all blocks are placed where there is no fault

good_claimed : (end : ℕ) (I : List ℕ) (old more : Claimed) (e : BlockEntry) → GoodBlock I end e → claim_of old (block_span e) ≡ Some more → claimed_with end old e ≡ Some more
unfolding claimed_with block_place
good_claimed end I old more e good claims = rw (good_is_place end e (good.small, good.place)) claims

good_placed : (end : ℕ) (I : List ℕ) (old new : Claimed) (entries : List BlockEntry) → AreGood I end entries → claim_all old (block_spans entries) ≡ Some new → placed end old entries ≡ entries
unfolding placed
good_placed end I old new [] good claims = refl
good_placed end I old new (e ∷ rest) good claims =
    let one = then_some (λ next. claim_all next (block_spans rest)) (claim_of old (block_span e)) new claims in
    placed_more end old one.0 e rest (good_claimed end I old one.0 e good.0 one.1) ∙ ap (λ (l : List BlockEntry). e ∷ l) (good_placed end I one.0 new rest good.1 one.2)

record IsSound (J : List ℕ) : Type 0 where
  has : HasTrees J
  placed_all : placed (end_of (fields J)) has.found.claimed has.found.entries ≡ has.found.entries
  listed_all : block_list J (fields J) ≡ has.found.entries

went_on : (rest : Claimed → Option Fault) (step : Step Claimed) → fault_after rest step ≡ None → (new : Claimed) × (step ≡ Ok new)
went_on rest (Ok new) e = (new, refl)
went_on rest (Err stop) e = absurd cc

both_listed : (I : List ℕ) (h : Header) (claimed : Claimed) (blocks nodes : Found) → tree_walk Bbt I (end_of h) claimed h.bbt ≡ Ok blocks → tree_walk Nbt I (end_of h) blocks.claimed h.nbt ≡ Ok nodes
    → trees_listed I h claimed ≡ Ok (record { claimed = nodes.claimed; entries = map (block_entry_at I) blocks.entries })
unfolding trees_listed
both_listed I h claimed blocks nodes first second = rw (first, second) refl

-- what the walks of a file without fault find
walked_sound : (J : List ℕ) (blocks nodes : Found) (new : Claimed) → header_fault J ≡ None → tree_walk Bbt J (end_of (fields J)) (maps_claimed (fields J)) (fields J).bbt ≡ Ok blocks
    → tree_walk Nbt J (end_of (fields J)) blocks.claimed (fields J).nbt ≡ Ok nodes → blocks_walk (end_of (fields J)) J nodes.claimed (block_list J (fields J)) ≡ Ok new → IsSound J
walked_sound J blocks nodes new none first second last =
    let h = fields J in
    let end = end_of h in
    let (level, tree, t, f) = (walk_claims Bbt J end (maps_claimed h) h.bbt blocks).0 first in
    let entries = map (block_entry_at J) blocks.entries in
    let list : block_list J h ≡ entries = block_list_is J h end level tree t ∙ ap (map (block_entry_at J)) (sym f.entries) in
    let good = walked_good end J nodes.claimed new entries (subst (λ (l : List BlockEntry). blocks_walk end J nodes.claimed l ≡ Ok new) list last) in
    record {
      has = record { none = none; found = record { claimed = nodes.claimed; entries = entries }; listed = both_listed J h (maps_claimed h) blocks nodes first second };
      placed_all = good_placed end J nodes.claimed new entries good.0 good.1;
      listed_all = list;
    }

sound : (J : List ℕ) → fault_before_nodes J ≡ None → IsSound J
unfolding space_fault space_walk trees_walk
sound J e =
    let h = fields J in
    let both = none_then (header_fault J) (space_fault J h) e in
    let walked = went_on (maps_fault J h) (space_walk J h (maps_claimed h)) both.1 in
    let two = bind_ok (trees_walk J h (maps_claimed h)) _ walked.0 walked.1 in
    let one = bind_ok (tree_walk Bbt J (end_of h) (maps_claimed h) h.bbt) _ two.0 two.1 in
    walked_sound J one.0 two.0 walked.0 both.0 one.1 one.2 two.2

-- ---- the bodies

abbrev pub changed_if : Coding → BlockEntry → List ℕ → List ℕ
changed_if coding e body = if has_data e then coding e.bid body else body

abbrev pub HasBody : Coding → List ℕ → List ℕ → BlockEntry → Type 0
HasBody coding I T e = bytes_at T (body_span e) ≡ changed_if coding e (bytes_at I (body_span e))

abbrev pub HaveBodies : Coding → List ℕ → List ℕ → List BlockEntry → Type 0
HaveBodies coding I T [] = ⊤
HaveBodies coding I T (e ∷ rest) = HasBody coding I T e × HaveBodies coding I T rest

body_apart : (d e : BlockEntry) → IsApartFrom (block_span d) (block_span e) → IsApartFrom (body_span e) (block_span d)
body_apart d e (inl h) = inr h
body_apart d e (inr h) = let large = size_large e.cb in inl (omega (arith, h, large))

-- the bodies beside a block that is changed
bodies_beside : (I T : List ℕ) (coding : Coding) (d : BlockEntry) (entries : List BlockEntry) → IsCoding coding → EndsBy (length I) d → IsApartFromAll (block_span d) (block_spans entries)
    → HaveBodies coding (with_body (coding d.bid) d I) T entries → HaveBodies coding I T entries
bodies_beside I T coding d [] is by_end apart have = tt
bodies_beside I T coding d (e ∷ rest) is by_end apart have = (
  have.0 ∙ ap (changed_if coding e) (body_elsewhere (coding d.bid) d I (body_span e) (is.long d.bid) by_end (body_apart d e apart.0)),
  bodies_beside I T coding d rest is by_end apart.1 have.1,
)

-- the body of a block that is apart from those that are changed
body_stays : (I : List ℕ) (coding : Coding) (e : BlockEntry) (entries : List BlockEntry) → IsCoding coding → All IsByte I → All (EndsBy (length I)) entries → IsApartFromAll (block_span e) (block_spans entries)
    → bytes_at (all_changed coding entries I) (body_span e) ≡ bytes_at I (body_span e)
body_stays I coding e entries is all ends apart =
    let large = size_large e.cb in
    let same = (all_kept entries I coding is all ends).same.others (block_span e) (fields_apart (block_span e) entries apart) in
    part_same I (all_changed coding entries I) (block_span e) e.ib e.cb same (omega arith) (omega (arith, large))

pub bodies_changed : (entries : List BlockEntry) (I : List ℕ) (coding : Coding) → IsCoding coding → All IsByte I → All (EndsBy (length I)) entries → AreApart (block_spans entries)
    → HaveBodies coding I (all_changed coding (filter has_data entries) I) entries
unfolding all_changed
bodies_changed [] I coding is all ends apart = tt
bodies_changed (e ∷ rest) I coding is all ends apart =
    let e_end = All-head (EndsBy (length I)) e rest ends in
    let tail = All-tail (EndsBy (length I)) e rest ends in
    let from = filter_from (block_span e) rest apart.0 in
    let old = bytes_at I (body_span e) in
    elim (has_data e) as (λ b.
    let T = all_changed coding (cond b (e ∷ filter has_data rest) (filter has_data rest)) I in
    (bytes_at T (body_span e) ≡ cond b (coding e.bid old) old) × HaveBodies coding I T rest) [
      | true ↦
          let J = with_body (coding e.bid) e I in
          let says = told I coding e is all e_end in
          let later : All (EndsBy (length J)) rest = rw says.len tail in
          let K = all_changed coding (filter has_data rest) J in (
            body_stays J coding e (filter has_data rest) is says.bytes (filter_ends (length J) rest later) from ∙ says.body,
            bodies_beside I K coding e rest is e_end apart.0 (bodies_changed rest J coding is says.bytes later apart.1),
          )
      | false ↦ (
        body_stays I coding e (filter has_data rest) is all (filter_ends (length I) rest tail) from,
        bodies_changed rest I coding is all tail apart.1,
      )
    ]

-- the bodies of a file that is the same behind its header
pub all_bodies : (I J T : List ℕ) (coding : Coding) (end : ℕ) (entries : List BlockEntry) → IsSameBehind I J → All (LiesIn end) entries → HaveBodies coding J T entries → All (HasBody coding I T) entries
all_bodies I J T coding end [] same lie have = All-nil (HasBody coding I T)
all_bodies I J T coding end (e ∷ rest) same lie have =
    let here : IsPlace end (block_span e) = All-head (LiesIn end) e rest lie in
    All-cons (HasBody coding I T) e rest (have.0 ∙ ap (changed_if coding e) (span_behind I J same (body_span e) here.mapped))
    (all_bodies I J T coding end rest same (All-tail (LiesIn end) e rest lie) have.1)

-- ---- the twin

-- of a file that is the same behind its header, and has the same fields
decoded_all : (I J : List ℕ) (method : Method) → All IsByte J → IsSameBehind I J → fields J ≡ fields I → IsSound J → IsDecoded method I (file_changed (decoded method) J)
decoded_all I J method all same kept s =
    let coding = decoded method in
    let has = s.has in
    let h = fields J in
    let end = end_of h in
    let T = file_changed coding J in
    let beside = same_beside J coding (decoding method) all has in
    let l = the_laid J has in
    let pages = pages_again J T h has.found l beside in
    let again = fields_again J T has beside in
    let turned : IsSameBehind J I = sym same in
    let blocks : block_list J h ≡ block_list I (fields I) =
    sym (blocks_same J I h end l.block_level l.block_tree (spelt_behind J I turned Bbt end l.block_level l.block_tree l.is_block_tree.spells) l.is_block_tree) ∙ ap (block_list I) kept in
    let nodes : node_list J h ≡ node_list I (fields I) =
    sym (nodes_same J I h end l.node_level l.node_tree (spelt_behind J I turned Nbt end l.node_level l.node_tree l.is_node_tree.spells) l.is_node_tree) ∙ ap (node_list I) kept in
    let entries = placed end has.found.claimed has.found.entries in
    let head : Head J h = (good.header_law J h).1 (has.none, refl) in
    let ends = end_later end (length J) entries (head_end J h head) (placed_inside end has.found.claimed has.found.entries) in
    let have = bodies_changed entries J coding (decoding method) all ends (the_placed_apart J has) in
    let made : T ≡ all_changed coding (the_data J has) J = ap (λ (es : List BlockEntry). all_changed coding es J) (the_blocks J has) in
    let bodies : All (HasBody coding I T) entries =
    subst (λ (X : List ℕ). All (HasBody coding I X) entries) (sym made) (all_bodies I J (all_changed coding (the_data J has) J) coding end entries same (placed_lie end has.found.claimed has.found.entries) have) in
    let listed : entries ≡ block_list I (fields I) = s.placed_all ∙ sym s.listed_all ∙ blocks in
    record {
      nodes = ap (node_list T) again ∙ nodes_same J T h end l.node_level l.node_tree pages.1 l.is_node_tree ∙ nodes;
      blocks = ap (block_list T) again ∙ blocks_same J T h end l.block_level l.block_tree pages.0 l.is_block_tree ∙ blocks;
      bodies = subst (All (HasBody coding I T)) listed bodies;
    }

-- the same of the file itself
pub decoded_whole : (J : List ℕ) (method : Method) → All IsByte J → fault_before_nodes J ≡ None → IsDecoded method J (decoded_file method J)
decoded_whole J method all fine = subst (IsDecoded method J) (sym (decoded_file_is method J)) (decoded_all J J method all refl refl (sound J fine))

-- all data blocks of the file are decoded then
pub all_placed : (J : List ℕ) → fault_before_nodes J ≡ None → data_blocks J ≡ filter has_data (block_list J (fields J))
all_placed J fine = let s = sound J fine in the_blocks J s.has ∙ ap (filter has_data) (s.placed_all ∙ sym s.listed_all)

pub later_law : LaterLaw
later_law I method all is none =
    let long = method_long I method is in
    let J = with_method 0 I in
    let told = head_told I 0 all (omega arith) long in
    let twin = twin_is I method is in
    let fine : fault_before_nodes J ≡ None = sym (front_same J method told.bytes) ∙ ap fault_before_nodes (sym twin) ∙ none in
    subst (IsDecoded method I) (sym (twin ∙ decoded_file_is method J)) (decoded_all I J method told.bytes (method_behind I 0 long) (header_law I method all is).1 (sound J fine))
