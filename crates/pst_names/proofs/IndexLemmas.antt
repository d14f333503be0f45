-- An index of entries, filled one by one.
use Rattle.std.proofs.Common.{◌≡◌, ◌≢◌, ℕ, zero, suc, ◌+◌, ◌-◌, ◌*◌, ◌/◌, ◌<◌, ◌≤◌, Bool, true, false, cond, List, ◌∷◌, length, Option, Some, None, refl, sym, ap, ◌∙◌, arith}
use Rattle.std.specs.Prelude.{nat_eq, is_some, option_map, if◌then◌else◌}
use Rattle.std.specs.Option.{option_or}
use Rattle.std.specs.Ordering.{nat_cmp}
use Rattle.std.specs.BTreeMap.{get, is_at}
use Rattle.std.specs.Cmp.{unsigned_tied}
use Rattle.std.proofs.lemmas.Bool.{eq-eqb}
use Rattle.pst_bytes.specs.declared.span.Span.{Span}
use Rattle.pst_bytes.specs.Image.{num, bytes_at}
use Rattle.pst_fault.proofs.GeneralLemmas.{number_of_test}
use Rattle.pst_btree.specs.Entries.{first_with}
use Rattle.pst_datatree.specs.Spans.{joined_bytes}
use Rattle.pst_names.specs.declared.fields.Fields.{Fields}
use Rattle.pst_names.specs.declared.index.NameIndex.{NameIndex}
use Rattle.pst_names.specs.declared.runs.Runs.{Runs}
use Rattle.pst_names.specs.Entry.{NameEntry, entry_in, name_entry_bytes, entry_with, name_entries, prop_id}
use Rattle.pst_names.specs.Index.{fields_in, noted, if_names, known_of, is_noted, HasNoted}
use Rattle.pst_names.specs.Known.{AreRunsTrue}
use Rattle.pst_names.specs.Behind.{IsBehind}
use Rattle.pst_names.proofs.EntryLemmas.{entry_here}

-- ---- one entry

-- the fields that were read are those of the entry
pub fields_are : (f : Fields) (at : ℕ) (bytes : List ℕ) → f.id ≡ num bytes 0 4 → f.word ≡ num bytes 4 2 → f.index ≡ num bytes 6 2 → f ≡ fields_in (entry_in at bytes)
fields_are f at bytes id word index = rw (← id, ← word, ← index) refl

or_none : {X : Type 0} (o : Option X) → option_or o None ≡ o
or_none None = refl
or_none (Some x) = refl

-- something is noted of the property that an entry names: the entry adds nothing
noted_already : (i : NameIndex) (f : Fields) → is_some (noted i (0x8000 + f.index)) ≡ true → (id : ℕ) → noted i id ≡ option_or (noted i id) (if_names f id)
noted_already i f there id = by_test (nat_eq (0x8000 + f.index) id) refl (noted i id) refl
  where
    by_test : (v : Bool) → nat_eq (0x8000 + f.index) id ≡ v → (o : Option Fields) → noted i id ≡ o → o ≡ option_or o (if v then Some f else None)
    by_test v e (Some x) at = refl
    by_test false e None at = refl
    by_test true e None at =
        let here : is_some (noted i id) ≡ true = rw (← number_of_test (0x8000 + f.index) id e) there in
        let bad : false ≡ true = (rw at at here) in cc

pub put_nothing : (i : NameIndex) (f : Fields) (n : ℕ) → n ≡ f.index → is_some (get nat_cmp i.entries (0x8000 + n)) ≡ true → (id : ℕ) → noted i id ≡ option_or (noted i id) (if_names f id)
unfolding noted
put_nothing i f n same there id = noted_already i f (rw same at there) id

-- nothing is noted of it: the entry is put in
pub put_new : (old new : NameIndex) (f : Fields) (n : ℕ) → n ≡ f.index → is_some (get nat_cmp old.entries (0x8000 + n)) ≡ false
    → ((q : ℕ) → get nat_cmp new.entries q ≡ cond (is_at (nat_cmp (0x8000 + n)) q) (Some f) (get nat_cmp old.entries q)) → (id : ℕ) → noted new id ≡ option_or (noted old id) (if_names f id)
unfolding noted
put_new old new f n same unmet puts id =
    puts id ∙ ap (λ k. cond (is_at (nat_cmp (0x8000 + k)) id) (Some f) (get nat_cmp old.entries id)) same ∙ ap (λ b. cond b (Some f) (get nat_cmp old.entries id)) (unsigned_tied (0x8000 + f.index) id)
    ∙ by_test (nat_eq (0x8000 + f.index) id) refl (get nat_cmp old.entries id) refl
  where
    none : is_some (get nat_cmp old.entries (0x8000 + f.index)) ≡ false
    none = rw same at unmet

    by_test : (v : Bool) → nat_eq (0x8000 + f.index) id ≡ v → (o : Option Fields) → get nat_cmp old.entries id ≡ o → cond v (Some f) o ≡ option_or o (if v then Some f else None)
    by_test true e None at = refl
    by_test false e None at = refl
    by_test false e (Some x) at = refl
    by_test true e (Some x) at =
        let here : is_some (get nat_cmp old.entries id) ≡ false = rw (← number_of_test (0x8000 + f.index) id e) none in
        let bad : true ≡ false = (rw at at here) in cc

-- what is known of a property stays as the entry is noted
pub put_known : (old new : NameIndex) (e : NameEntry) (rest : List NameEntry) (id : ℕ) → noted new id ≡ option_or (noted old id) (if_names (fields_in e) id) → known_of new id rest ≡ known_of old id (e ∷ rest)
unfolding known_of first_with
put_known old new e rest id put =
    ap (λ o. option_or o (option_map fields_in (first_with prop_id id rest))) put ∙ by_test (noted old id) (nat_eq (prop_id e) id)
  where
    by_test : (o : Option Fields) (v : Bool) → option_or (option_or o (if v then Some (fields_in e) else None)) (option_map fields_in (first_with prop_id id rest)) ≡ option_or o (option_map fields_in (if v then Some e else first_with prop_id id rest))
    by_test (Some f) v = refl
    by_test None true = refl
    by_test None false = refl

-- what was noted stays noted
pub put_keeps : (old new : NameIndex) (f : Fields) → ((id : ℕ) → noted new id ≡ option_or (noted old id) (if_names f id)) → (bytes : List ℕ) → is_noted old bytes ≡ true → is_noted new bytes ≡ true
unfolding is_noted
put_keeps old new f put bytes there =
    let id = 0x8000 + num bytes 6 2 in
    ap (λ (o : Option Fields). is_some o) (put id) ∙ by_case (noted old id) (if_names f id) there
  where
    by_case : (o p : Option Fields) → is_some o ≡ true → is_some (option_or o p) ≡ true
    by_case (Some x) p here = refl
    by_case None p here = absurd cc

-- and what it names is
pub put_there : (old new : NameIndex) (at : ℕ) (bytes : List ℕ) → ((id : ℕ) → noted new id ≡ option_or (noted old id) (if_names (fields_in (entry_in at bytes)) id)) → is_noted new bytes ≡ true
unfolding is_noted
put_there old new at bytes put =
    let id = 0x8000 + num bytes 6 2 in
    let same : nat_eq id id ≡ true = eq-eqb id id refl in
    ap (λ (o : Option Fields). is_some o) (put id) ∙ by_case (noted old id) (nat_eq id id) same
  where
    by_case : (o : Option Fields) (v : Bool) → v ≡ true → is_some (option_or o (if v then Some (fields_in (entry_in at bytes)) else None)) ≡ true
    by_case (Some x) v is = refl
    by_case None true is = refl
    by_case None false is = absurd cc

-- ---- several entries

-- the first of those that are left
next_left : (entry : ℕ → NameEntry) (k count : ℕ) → k < count → name_entries entry k (count - k) ≡ entry k ∷ name_entries entry (k + 1) (count - (k + 1))
unfolding name_entries
next_left entry k count lt = let n : count - k ≡ suc (count - (k + 1)) = omega (arith, lt) in rw n refl

pub none_noted : (i : NameIndex) (bytes : List ℕ) → HasNoted i i bytes 0
none_noted i bytes = record {
  known = λ entry n count id are le. let here : n + 0 ≡ n = omega arith in rw here refl;
  keeps = λ e there. there;
  there = λ j lt. absurd (omega (arith, lt));
}

-- one more
pub more_noted : (old mid new : NameIndex) (bytes : List ℕ) (n : ℕ) → HasNoted old mid bytes n → ((id : ℕ) → noted new id ≡ option_or (noted mid id) (if_names (fields_in (entry_in 0 (name_entry_bytes bytes n))) id)) → HasNoted old new bytes (n + 1)
more_noted old mid new bytes n so_far put = record {
  known = λ entry i count id are le.
      let last = entry (i + n) in
      let is : fields_in last ≡ fields_in (entry_in 0 (name_entry_bytes bytes n)) = are n (omega arith) in
      let next : i + (n + 1) ≡ i + n + 1 = omega arith in
      let left = name_entries entry (i + n + 1) (count - (i + n + 1)) in
      let own : noted new id ≡ option_or (noted mid id) (if_names (fields_in last) id) = put id ∙ ap (λ f. option_or (noted mid id) (if_names f id)) (sym is) in
      ap (λ k. known_of new id (name_entries entry k (count - k))) next
      ∙ put_known mid new last left id own
      ∙ ap (known_of mid id) (sym (next_left entry (i + n) count (omega (arith, le))))
      ∙ so_far.known entry i count id (λ j lt. are j (omega (arith, lt))) (omega (arith, le));
  keeps = λ e there. put_keeps mid new (fields_in (entry_in 0 (name_entry_bytes bytes n))) put e (so_far.keeps e there);
  there = λ j lt. by_test j (nat_eq j n) refl lt;
}
  where
    by_test : (j : ℕ) (v : Bool) → nat_eq j n ≡ v → j < n + 1 → is_noted new (name_entry_bytes bytes j) ≡ true
    by_test j true e lt = rw (number_of_test j n e) (put_there mid new 0 (name_entry_bytes bytes n) put)
    by_test j false e lt =
        let other : j ≢ n = λ same. absurd (let yes : nat_eq j n ≡ true = eq-eqb j n same in cc) in
        let before : j < n = omega (arith, lt, other) in
        put_keeps mid new (fields_in (entry_in 0 (name_entry_bytes bytes n))) put (name_entry_bytes bytes j) (so_far.there j before)

-- those of which something is noted already
pub noted_again : (i : NameIndex) (bytes : List ℕ) (n : ℕ) → ((j : ℕ) → j < n → is_noted i (name_entry_bytes bytes j) ≡ true) → HasNoted i i bytes n
unfolding is_noted
noted_again i bytes zero there = none_noted i bytes
noted_again i bytes (suc n) there =
    let same : n + 1 ≡ suc n = omega arith in
    let f = fields_in (entry_in 0 (name_entry_bytes bytes n)) in
    let before : HasNoted i i bytes n = noted_again i bytes n (λ j lt. there j (omega (arith, lt))) in
    rw same at (more_noted i i i bytes n before (noted_already i f (there n (omega arith))))

-- runs of which all is noted are so as more is noted
pub runs_stay : (old new : NameIndex) (I : List ℕ) (r : Runs) → ((e : List ℕ) → is_noted old e ≡ true → is_noted new e ≡ true) → AreRunsTrue (is_noted old) I r → AreRunsTrue (is_noted new) I r
runs_stay old new I r keeps are = record { holds = λ at n known j lt. keeps (bytes_at I (record { at = at + 8 * j; len = 8 })) (are.holds at n known j lt) }

-- ---- all of them

-- those that lie side by side in a piece
pub front_known : (I : List ℕ) (all : List Span) (old new : NameIndex) (front : List ℕ) (i m count id : ℕ) (s : Span) (rest : List Span) → IsBehind I all (8 * i) (s ∷ rest) → front ≡ bytes_at I s → length front ≡ s.len
    → m ≡ length front / 8 → i + m ≤ count → HasNoted old new front (length front / 8)
    → known_of new id (name_entries (entry_with all (joined_bytes I all)) (i + m) (count - (i + m))) ≡ known_of old id (name_entries (entry_with all (joined_bytes I all)) i (count - i))
front_known I all old new front i m count id s rest b is len whole le noted_all =
    rw whole (noted_all.known (entry_with all (joined_bytes I all)) i count id are (omega (arith, whole, le)))
  where
    are : (j : ℕ) → j < length front / 8 → fields_in (entry_with all (joined_bytes I all) (i + j)) ≡ fields_in (entry_in 0 (name_entry_bytes front j))
    are j lt = rw (entry_here I all i j s rest front b is len (omega (arith, lt))) refl

-- one that lies in several pieces
pub one_known : (old new : NameIndex) (entry : ℕ → NameEntry) (f : Fields) (i count id : ℕ) → i < count → f ≡ fields_in (entry i) → noted new id ≡ option_or (noted old id) (if_names f id)
    → known_of new id (name_entries entry (i + 1) (count - (i + 1))) ≡ known_of old id (name_entries entry i (count - i))
one_known old new entry f i count id lt is put =
    put_known old new (entry i) (name_entries entry (i + 1) (count - (i + 1))) id (put ∙ ap (λ x. option_or (noted old id) (if_names x id)) is)
    ∙ ap (known_of old id) (sym (next_left entry i count lt))

-- none is noted yet
pub all_left : (i : NameIndex) (id : ℕ) (left : List NameEntry) → noted i id ≡ None → known_of i id left ≡ option_map fields_in (first_with prop_id id left)
unfolding known_of
all_left i id left none = rw none refl

-- none is left
pub all_known : (i : NameIndex) (entry : ℕ → NameEntry) (number count id : ℕ) (total : Option Fields) → count - number ≡ 0 → known_of i id (name_entries entry number (count - number)) ≡ total → noted i id ≡ total
unfolding known_of name_entries first_with
all_known i entry number count id total none so_far =
    let here : known_of i id (name_entries entry number (count - number)) ≡ option_or (noted i id) None = rw none refl in
    sym (or_none (noted i id)) ∙ sym here ∙ so_far
