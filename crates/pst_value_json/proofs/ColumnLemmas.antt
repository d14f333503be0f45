-- Each column that is shown is the first with its tag.
use Rattle.std.proofs.Common.{◌≡◌, ℕ, zero, suc, ◌<◌, Bool, true, false, cond, eqb, ◌||◌, length, get_or, List, [], ◌∷◌, ◌++◌, map, Option, Some, None, refl, sym, ap, ◌∙◌, append_assoc, append-nil, arith, subst}
use Rattle.std.specs.Prelude.{nat_eq}
use Rattle.std.specs.List.{All}
use Rattle.std.proofs.lemmas.Bool.{eqb-true, eq-eqb}
use Rattle.std.proofs.lemmas.List.{get_or-map, length-map}
use Rattle.std.proofs.lemmas.List.Elements.{All-nil, All-append, All-get_or}
use Rattle.std.proofs.lemmas.List.Folds.{list_any-append}
use Rattle.pst_btree.specs.Entries.{first_with}
use Rattle.pst_ndb.specs.Views.{table_of_node, roots_of}
use Rattle.pst_tc.specs.declared.columns.Column.{Column}
use Rattle.pst_tc.specs.declared.tc.Tc.{Tc}
use Rattle.pst_tc.specs.Tc.{node_of_tc}
use Rattle.pst_tc.specs.Values.{ColumnParts, tag_of_column, tc_columns, IsFirstColumn}
use Rattle.pst_tc.specs.View.{column_of}
use Rattle.pst_value_json.specs.Columns.{has_tag, with_column, with_columns, distinct_columns, AreShown}

abbrev first : ℕ → List ColumnParts → Option ColumnParts
first tag columns = first_with tag_of_column tag columns

-- what is found is found, whatever stands behind
found_still : (tag : ℕ) (columns behind : List ColumnParts) (c : ColumnParts) → first tag columns ≡ Some c → first tag (columns ++ behind) ≡ Some c
unfolding first_with
found_still tag [] behind c found = absurd cc
found_still tag (x ∷ rest) behind c found = by_test (eqb x.tag tag) (found_still tag rest behind c) found
  where
    by_test : (v : Bool) → (first tag rest ≡ Some c → first tag (rest ++ behind) ≡ Some c) → cond v (Some x) (first tag rest) ≡ Some c → cond v (Some x) (first tag (rest ++ behind)) ≡ Some c
    by_test true later is = is
    by_test false later is = later is

-- where nothing is found, it is found behind
found_behind : (tag : ℕ) (columns behind : List ColumnParts) → first tag columns ≡ None → first tag (columns ++ behind) ≡ first tag behind
unfolding first_with
found_behind tag [] behind none = refl
found_behind tag (x ∷ rest) behind none = by_test (eqb x.tag tag) (found_behind tag rest behind) none
  where
    by_test : (v : Bool) → (first tag rest ≡ None → first tag (rest ++ behind) ≡ first tag behind) → cond v (Some x) (first tag rest) ≡ None → cond v (Some x) (first tag (rest ++ behind)) ≡ first tag behind
    by_test true later is = absurd cc
    by_test false later is = later is

-- of the columns that were passed each one that is shown is the first with its tag, and there is none with another tag
record AreFirst (shown passed : List ColumnParts) : Type 0 where
  pub found : All (λ (c : ColumnParts). first c.tag passed ≡ Some c) shown
  pub missed : (tag : ℕ) → has_tag tag shown ≡ false → first tag passed ≡ None

-- one column more was passed
found_all : (passed : List ColumnParts) (c : ColumnParts) (shown : List ColumnParts) → All (λ (x : ColumnParts). first x.tag passed ≡ Some x) shown → All (λ (x : ColumnParts). first x.tag (passed ++ c ∷ []) ≡ Some x) shown
found_all passed c shown all = λ k d inside. found_still _ passed (c ∷ []) _ (all k d inside)

all_one : (P : ColumnParts → Type 0) (c : ColumnParts) → P c → All P (c ∷ [])
all_one P c is = λ k d inside. here k d inside
  where
    here : (k : ℕ) (d : ColumnParts) → k < 1 → P (get_or (c ∷ []) k d)
    here zero d inside = is
    here (suc k) d inside = absurd (omega arith)

either_false : (a b : Bool) → (a || (b || false)) ≡ false → (a ≡ false) × (b ≡ false)
either_false true b is = absurd cc
either_false false true is = absurd cc
either_false false false is = (refl, refl)

-- its tag is another one
found_no : (tag : ℕ) (c : ColumnParts) → eqb c.tag tag ≡ false → first tag (c ∷ []) ≡ None
unfolding first_with
found_no tag c other = rw other refl

found_it : (c : ColumnParts) → first c.tag (c ∷ []) ≡ Some c
unfolding first_with
found_it c = rw (eq-eqb c.tag c.tag refl) refl

-- a tag that none of these has is not that of a column whose tag one has
tag_differs : (tag : ℕ) (c : ColumnParts) (shown : List ColumnParts) → has_tag c.tag shown ≡ true → has_tag tag shown ≡ false → eqb c.tag tag ≡ false
tag_differs tag c shown there none = by_test (eqb c.tag tag) (λ t. eqb-true _ _ t)
  where
    by_test : (v : Bool) → (v ≡ true → c.tag ≡ tag) → v ≡ false
    by_test false is = refl
    by_test true is =
        let bad : true ≡ false = sym there ∙ ap (λ n. has_tag n shown) (is refl) ∙ none in
        absurd cc

one_passed : (shown passed : List ColumnParts) (c : ColumnParts) → AreFirst shown passed → AreFirst (with_column shown c) (passed ++ c ∷ [])
one_passed shown passed c is = by_test (has_tag c.tag shown) refl
  where
    by_test : (v : Bool) → has_tag c.tag shown ≡ v → AreFirst (cond v shown (shown ++ c ∷ [])) (passed ++ c ∷ [])
    by_test true there = record {
      found = found_all passed c shown is.found;
      missed = λ tag none. found_behind tag passed (c ∷ []) (is.missed tag none) ∙ found_no tag c (tag_differs tag c shown there none);
    }
    by_test false there = record {
      found = All-append (λ (x : ColumnParts). first x.tag (passed ++ c ∷ []) ≡ Some x) shown (c ∷ []) (found_all passed c shown is.found)
          (all_one (λ (x : ColumnParts). first x.tag (passed ++ c ∷ []) ≡ Some x) c (found_behind c.tag passed (c ∷ []) (is.missed c.tag there) ∙ found_it c));
      missed = λ tag none.
          let both = either_false (has_tag tag shown) (eqb c.tag tag) (sym (list_any-append (λ (x : ColumnParts). nat_eq x.tag tag) shown (c ∷ [])) ∙ none) in
          found_behind tag passed (c ∷ []) (is.missed tag both.0) ∙ found_no tag c both.1;
    }

all_passed : (shown passed rest whole : List ColumnParts) → whole ≡ passed ++ rest → AreFirst shown passed → AreFirst (with_columns shown rest) whole
all_passed shown passed [] whole same is = rw (same, append-nil passed) is
all_passed shown passed (c ∷ rest) whole same is =
    all_passed (with_column shown c) (passed ++ c ∷ []) rest whole (same ∙ sym (append_assoc passed (c ∷ []) rest)) (one_passed shown passed c is)

none_passed : AreFirst [] []
unfolding first_with
none_passed = record { found = All-nil (λ (x : ColumnParts). first x.tag [] ≡ Some x); missed = λ tag none. refl }

distinct_are_first : (columns : List ColumnParts) → All (λ (c : ColumnParts). first c.tag columns ≡ Some c) (distinct_columns columns)
unfolding distinct_columns
distinct_are_first columns = (all_passed [] [] columns columns refl none_passed).found

-- a column that is shown of a table is the first one with its tag
pub shown_is_first : (tc : Tc) (columns : List Column) (i : ℕ) (d : Column) → AreShown tc columns → i < length columns
    → IsFirstColumn (table_of_node (node_of_tc tc)) (roots_of (node_of_tc tc)) (column_of (get_or columns i d))
shown_is_first tc columns i d are inside =
    let all = tc_columns (table_of_node (node_of_tc tc)) (roots_of (node_of_tc tc)) in
    let P : ColumnParts → Type 0 = λ c. first c.tag all ≡ Some c in
    let each : All P (map column_of columns) = rw are (distinct_are_first all) in
    let here : i < length (map column_of columns) = rw (length-map columns column_of) inside in
    let there : P (get_or (map column_of columns) i (column_of d)) = All-get_or {X = ColumnParts} P (map column_of columns) i (column_of d) here each in
    subst P (get_or-map column_of columns i d (column_of d) inside) there
