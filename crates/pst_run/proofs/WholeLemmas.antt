-- Of a store all is whole, so what is read of what is whole of it is read of it.
use Rattle.std.proofs.Common.{◌≡◌, ℕ, Bool, true, false, List, length, Option, Some, None, refl, sym, ap, subst, ◌∙◌}
use Rattle.std.specs.Prelude.{if◌then◌else◌, ◌&&◌}
use Rattle.std.specs.List.{All}
use Rattle.pst_fault.specs.declared.fault.Fault.{Fault}
use Rattle.pst_fault.specs.First.{◌then◌}
use Rattle.pst_header.specs.Header.{header_fault, fields}
use Rattle.pst_json.specs.pst_ndb.Fault.{ndb_fault, file_fault}
use Rattle.pst_json.specs.pst_store.Fault.{store_fault}
use Rattle.pst_json.specs.pst_store.Grammar.{IsStore}
use Rattle.pst_json.specs.pst_store.Parts.{StoreParts, parts_table, parts_entries}
use Rattle.pst_json.specs.pst_store.Values.{store_in}
use Rattle.pst_json.specs.pst_whole.Laws.{IsAllWhole}
use Rattle.pst_json.specs.pst_whole.Lost.{lost_of, nothing_lost}
use Rattle.pst_json.specs.pst_whole.Nodes.{whole_nodes}
use Rattle.pst_whole.proofs.WholeLaws.{store_whole_law, decoded_store_law}
use Rattle.pst_damage.specs.Damage.{DamageParts, damage_in, damage_of}
use Rattle.pst_damage.specs.Laws.{IsUntold}
use Rattle.pst_damage.proofs.DamageLaws.{decoded_nothing_law, nothing_broken_law}
use Rattle.pst_intact.proofs.pst_store.StoreLaws.{store_law}
use Rattle.pst_encoding.specs.declared.method.Method.{Method}
use Rattle.pst_encoding.specs.Tables.{IsByte}
use Rattle.pst_plain.specs.Twin.{method_of, twin_of}
use Rattle.pst_plain.proofs.LawLemmas.{places_law}
use Rattle.pst_remains.specs.Decoded.{decoded_remains_of}
use Rattle.pst_remains.specs.Remains.{RemainsParts, remains_of}
use Rattle.pst_ask.specs.Ask.{Asked, Wanted, report, damage, head, nodes, folders, contents, messages, props, value, export}
use Rattle.pst_run.specs.Answer.{ToldText, answer_to, answer_with, broken_for, bytes_for, decoded_damage, digest_for, is_whole, is_decoded_damage, method_for, of_store, read_left, read_of_store, read_with, reads, table_of_file, entries_of_file, whole_by}
use Rattle.pst_run.specs.Laws.{WholeOptionLaw}
use Rattle.pst_run.specs.Outside.{if_outside, outside_fault}

first_none : (a b : Option Fault) → (a then b) ≡ None → a ≡ None
first_none None b is = refl
first_none (Some f) b is = absurd cc

-- a store is not outside
inside : (I : List ℕ) → store_fault I ≡ None → outside_fault I ≡ None
unfolding store_fault ndb_fault outside_fault
inside I none = ap if_outside (first_none (header_fault I) _ (first_none (header_fault I then file_fault I (fields I)) _ none))

-- ---- where nothing is broken, nothing is told of it

nothing_told : (d : DamageParts) → IsUntold d → is_whole d ≡ true
nothing_told d un = rw (un.header, un.maps, un.pages, un.blocks, un.nodes) refl

broken_none : (ask : Wanted) (d : DamageParts) → is_whole d ≡ true → broken_for ask d ≡ None
broken_none (report strict digested) d is = refl
broken_none (damage digested) d is = refl
broken_none head d is = refl
broken_none nodes d is = refl
broken_none folders d is = refl
broken_none (contents nid) d is = refl
broken_none messages d is = refl
broken_none (props places paths) d is = refl
broken_none (value text path id) d is = refl
broken_none export d is = rw is refl

-- what is read where all is whole, of so many bytes
all_read : (ask : Wanted) (size : ℕ) (I : List ℕ) (r : RemainsParts) → IsAllWhole r (parts_table I (store_in I)) (parts_entries I (store_in I)) → IsUntold (damage_in r) → size ≡ length I
    → store_fault I ≡ None → read_left ask size r ≡ read_of_store ask I
all_read ask size I r all un long none =
    let nodes = whole_nodes r.table r.nodes r.broken in
    let lost = lost_of r.table r.nodes r.broken in
    ap (λ n. read_with ask n (broken_for ask (damage_in r)) r.table nodes lost) long
    ∙ ap (λ b. read_with ask (length I) b r.table nodes lost) (broken_none ask (damage_in r) (nothing_told (damage_in r) un))
    ∙ ap (λ t. read_with ask (length I) None t nodes lost) all.blocks
    ∙ ap (λ e. read_with ask (length I) None (table_of_file I) e lost) all.entries
    ∙ ap (read_with ask (length I) None (table_of_file I) (entries_of_file I)) all.told
    ∙ sym (ap (λ o. of_store o (read_with ask (length I) None (table_of_file I) (entries_of_file I) nothing_lost)) none)

-- nothing of a store is broken
store_untold : (I : List ℕ) (s : StoreParts) → IsStore I s → IsUntold (damage_in (remains_of I))
unfolding damage_of
store_untold I s is = ((nothing_broken_law I s).0 is).1

stored : (ask : Wanted) (I : List ℕ) (s : StoreParts) → IsStore I s → whole_by None ask I ≡ read_of_store ask I
stored ask I s is =
    let there = (store_law I s).0 is in
    let all : IsAllWhole (remains_of I) (parts_table I (store_in I)) (parts_entries I (store_in I)) =
    subst (λ p. IsAllWhole (remains_of I) (parts_table I p) (parts_entries I p)) there.1 (store_whole_law I s is) in
    ap (λ o. of_store o (read_left ask (length I) (remains_of I))) (inside I there.0) ∙ all_read ask (length I) I (remains_of I) all (store_untold I s is) refl there.0

decoded : (ask : Wanted) (I : List ℕ) (method : Method) (s : StoreParts) → All IsByte I → method_of I ≡ Some method → IsStore (twin_of I) s
    → whole_by (Some method) ask I ≡ read_of_store ask (twin_of I)
decoded ask I method s bytes encoded is =
    let T = twin_of I in
    let there = (store_law T s).0 is in
    let r = decoded_remains_of method I in
    let all : IsAllWhole r (parts_table T (store_in T)) (parts_entries T (store_in T)) =
    subst (λ p. IsAllWhole r (parts_table T p) (parts_entries T p)) there.1 (decoded_store_law I method s bytes encoded is) in
    all_read ask (length I) T r all ((decoded_nothing_law I method s bytes encoded).0 is).0 (sym (places_law I bytes).length_same) there.0

-- with a method or without
by_method : (ask : Wanted) (I : List ℕ) (s : StoreParts) (o : Option Method) → All IsByte I → method_of I ≡ o → IsStore (twin_of I) s → whole_by o ask I ≡ read_of_store ask (twin_of I)
unfolding twin_of
by_method ask I s None bytes none is =
    let same : twin_of I ≡ I = rw none refl in
    stored ask I s (subst (λ J. IsStore J s) same is) ∙ ap (read_of_store ask) (sym same)
by_method ask I s (Some method) bytes some is = decoded ask I method s bytes some is

by_decode : (ask : Wanted) (decode : Bool) (I : List ℕ) (s : StoreParts) → All IsByte I → IsStore (bytes_for decode I) s
    → whole_by (method_for decode I) ask I ≡ read_of_store ask (bytes_for decode I)
by_decode ask false I s bytes is = stored ask I s is
by_decode ask true I s bytes is = by_method ask I s (method_of I) bytes refl is

-- a command that reads nodes answers of a store what it reads of it
as_read : (ask : Wanted) (digest : Option (List ℕ)) (I : List ℕ) → reads ask ≡ true → answer_with ask digest I ≡ read_of_store ask I
unfolding answer_with
as_read (report strict digested) digest I is = absurd cc
as_read (damage digested) digest I is = absurd cc
as_read head digest I is = absurd cc
as_read nodes digest I is = absurd cc
as_read folders digest I is = refl
as_read (contents nid) digest I is = refl
as_read messages digest I is = refl
as_read (props places paths) digest I is = refl
as_read (value text path id) digest I is = refl
as_read export digest I is = refl

pub whole_law : WholeOptionLaw
whole_law a bytes s all is = ap (λ t. if is_decoded_damage a then decoded_damage (method_of bytes) (digest_for a.ask bytes) bytes else t) (by_reads (reads a.ask) refl)
  where
    by_reads : (b : Bool) → reads a.ask ≡ b
        → (if reads a.ask then whole_by (method_for a.decode bytes) a.ask bytes else answer_with a.ask (digest_for a.ask bytes) (bytes_for a.decode bytes))
        ≡ answer_with a.ask (digest_for a.ask bytes) (bytes_for a.decode bytes)
    by_reads true e = rw e (by_decode a.ask a.decode bytes s all is ∙ sym (as_read a.ask (digest_for a.ask bytes) (bytes_for a.decode bytes) e))
    by_reads false e = rw e refl
