-- The tables undo each other: all of their entries, computed.
use Rattle.std.proofs.Common.{◌≡◌, ℕ, ◌<◌, ◌∙◌, List, map, get_or, refl, ap, sym, true, arith}
use Rattle.std.specs.Prelude.{nat_lt, slice_index, Bool}
use Rattle.std.specs.List.{range_with_len}
use Rattle.std.proofs.lemmas.Bool.{ltb-true}
use Rattle.std.proofs.lemmas.List.FromFn.{get_or-map-range_with_len, get_or-range_with_len}
use Rattle.pst_encoding.specs.declared.tables.TheConstants.{MPBB_R, MPBB_S, MPBB_I}
use Rattle.pst_encoding.specs.Tables.{r_of, s_of, i_of, TablesLaw}

abbrev all_bytes : List ℕ
all_bytes = range_with_len 0 256

-- what is computed of each byte is the byte itself
at_each : (f : ℕ → ℕ) → map f all_bytes ≡ all_bytes → (b : ℕ) → b < 256 → f b ≡ b
at_each f same b lt =
    sym (get_or-map-range_with_len f 0 256 b b 0 lt (omega arith)) ∙ ap (λ l. get_or l b 0) same
    ∙ get_or-range_with_len 0 256 b 0 lt ∙ omega arith

i_after_r : map (λ b. slice_index MPBB_I (slice_index MPBB_R b)) all_bytes ≡ all_bytes
i_after_r = refl

r_after_i : map (λ b. slice_index MPBB_R (slice_index MPBB_I b)) all_bytes ≡ all_bytes
r_after_i = refl

s_after_s : map (λ b. slice_index MPBB_S (slice_index MPBB_S b)) all_bytes ≡ all_bytes
s_after_s = refl

-- each entry is a byte
abbrev yes : ℕ → Bool
yes b = true

at_each_test : (f : ℕ → Bool) → map f all_bytes ≡ map yes all_bytes → (b : ℕ) → b < 256 → f b ≡ true
at_each_test f same b lt =
    sym (get_or-map-range_with_len f 0 256 b b true lt (omega arith)) ∙ ap (λ l. get_or l b true) same
    ∙ get_or-map-range_with_len yes 0 256 b b true lt (omega arith)

r_bytes : map (λ b. nat_lt (slice_index MPBB_R b) 256) all_bytes ≡ map yes all_bytes
r_bytes = refl

s_bytes : map (λ b. nat_lt (slice_index MPBB_S b) 256) all_bytes ≡ map yes all_bytes
s_bytes = refl

i_bytes : map (λ b. nat_lt (slice_index MPBB_I b) 256) all_bytes ≡ map yes all_bytes
i_bytes = refl

pub tables_law : TablesLaw
unfolding r_of s_of i_of
tables_law b lt = record {
  r_byte = ltb-true _ _ (at_each_test (λ n. nat_lt (slice_index MPBB_R n) 256) r_bytes b lt);
  s_byte = ltb-true _ _ (at_each_test (λ n. nat_lt (slice_index MPBB_S n) 256) s_bytes b lt);
  i_byte = ltb-true _ _ (at_each_test (λ n. nat_lt (slice_index MPBB_I n) 256) i_bytes b lt);
  i_undoes_r = at_each (λ n. slice_index MPBB_I (slice_index MPBB_R n)) i_after_r b lt;
  r_undoes_i = at_each (λ n. slice_index MPBB_R (slice_index MPBB_I n)) r_after_i b lt;
  s_undoes_s = at_each (λ n. slice_index MPBB_S (slice_index MPBB_S n)) s_after_s b lt;
}
