use Rattle.std.proofs.Common.{◌≡◌, ◌≢◌, ℕ, ◌<◌, ◌≤◌, ◌-◌, refl, sym, ap, ◌∙◌, arith}
use Rattle.pst_bytes.specs.Image.{bytes_of}
use Rattle.pst_bth.specs.Rows.{row_key, row_count, row_place, rows_from}
use Rattle.pst_bth.specs.Find.{IsUpToKey}
use Rattle.pst_bth.specs.View.{rows_image, rows_item, rows_key_size, rows_size}
use Rattle.pst_bth.proofs.RestLemmas.{rest_empty, rest_short, rest_none_below, rest_is, rest_not}
use Rattle.pst_bth.proofs.leaf.first_in.Goals as goal

below : (a b : ℕ) → a ≤ b → a ≢ b → a < b
below a b le n = grind (arith, le, n)

not_all : (f : ℕ → ℕ) (n m low : ℕ) → n ≡ m → f n < low → low ≤ f m → ⊥
not_all f n m low e less last = let same : f n ≡ f m = ap f e in omega (arith, same, less, last)

pub returns-then-count-eq0 : goal.returns-then-count-eq0
returns-then-count-eq0 c =
    let r = c.args.rows in
    rest_empty (bytes_of (rows_image r)) (rows_key_size r) (rows_size r) (rows_item r) c.args.low (sym c.count-count.ensures ∙ c.if-count-eq0.true)

pub returns-then-key-low : goal.returns-then-key-low
returns-then-key-low c =
    let r = c.args.rows in
    let count : row_count (rows_size r) (rows_item r) ≡ c.count-count.result = sym c.count-count.ensures in
    let less : row_key (bytes_of (rows_image r)) (rows_key_size r) (row_place (rows_size r) (rows_item r) (row_count (rows_size r) (rows_item r) - 1)) < c.args.low = rw (count, ← c.key.ensures.value) c.if-key-low.true in
    rest_short (bytes_of (rows_image r)) (rows_key_size r) (rows_size r) (rows_item r) c.args.low c.requires.low c.requires.high c.requires.rise (omega (arith, count, c.if-count-eq0.false)) less

pub returns-then-low-key : goal.returns-then-low-key
returns-then-low-key c =
    let r = c.args.rows in
    let I = bytes_of (rows_image r) in
    let count : row_count (rows_size r) (rows_item r) ≡ c.count-count.result = sym c.count-count.ensures in
    let last : c.args.low ≤ row_key I (rows_key_size r) (row_place (rows_size r) (rows_item r) (row_count (rows_size r) (rows_item r) - 1)) = rw (count, ← c.key.ensures.value) (omega (arith, c.if-key-low.false)) in
    let less : c.args.low < row_key I (rows_key_size r) (row_place (rows_size r) (rows_item r) 0) = rw (← c.key-2.ensures.value) c.if-low-key.true in
    let none : IsUpToKey I (rows_key_size r) (rows_size r) (rows_item r) c.args.low 0 = record { within = omega arith; before = λ pos. absurd (omega (arith, pos)); after = λ more. less } in
    record {
      there = omega (arith, count, c.if-count-eq0.false);
      last = last;
      here = rest_none_below I (rows_key_size r) (rows_size r) (rows_item r) c.args.low c.requires.low c.requires.high 0 c.requires.rise none refl;
    }

pub returns-then-most-eq0 : goal.returns-then-most-eq0
returns-then-most-eq0 c =
    let r = c.args.rows in
    let count : row_count (rows_size r) (rows_item r) ≡ c.count-count.result = sym c.count-count.ensures in
    let last : c.args.low ≤ row_key (bytes_of (rows_image r)) (rows_key_size r) (row_place (rows_size r) (rows_item r) (row_count (rows_size r) (rows_item r) - 1)) = rw (count, ← c.key.ensures.value) (omega (arith, c.if-key-low.false)) in
    record {
      there = omega (arith, count, c.if-count-eq0.false);
      last = last;
      here =
          rest_none_below (bytes_of (rows_image r)) (rows_key_size r) (rows_size r) (rows_item r) c.args.low c.requires.low c.requires.high c.up_to-most.result c.requires.rise c.up_to-most.ensures c.if-most-eq0.true
          ∙ ap (rows_from (rows_size r) (rows_item r)) c.if-most-eq0.true;
    }

pub returns-then-key-low-2 : goal.returns-then-key-low-2
returns-then-key-low-2 c =
    let r = c.args.rows in
    let n = c.up_to-most.result in
    let count : row_count (rows_size r) (rows_item r) ≡ c.count-count.result = sym c.count-count.ensures in
    let last : c.args.low ≤ row_key (bytes_of (rows_image r)) (rows_key_size r) (row_place (rows_size r) (rows_item r) (row_count (rows_size r) (rows_item r) - 1)) = rw (count, ← c.key.ensures.value) (omega (arith, c.if-key-low.false)) in
    record {
      there = omega (arith, c.up_to-most.ensures.within, c.if-most-eq0.false);
      last = last;
      here = rest_is (bytes_of (rows_image r)) (rows_key_size r) (rows_size r) (rows_item r) c.args.low c.requires.low c.requires.high n c.requires.rise c.up_to-most.ensures (omega (arith, c.if-most-eq0.false)) (sym c.key-3.ensures.value ∙ c.if-key-low-2.true);
    }

pub returns : goal.returns
returns c =
    let r = c.args.rows in
    let n = c.up_to-most.result in
    let pos : 0 < n = omega (arith, c.if-most-eq0.false) in
    let count : row_count (rows_size r) (rows_item r) ≡ c.count-count.result = sym c.count-count.ensures in
    let last : c.args.low ≤ row_key (bytes_of (rows_image r)) (rows_key_size r) (row_place (rows_size r) (rows_item r) (row_count (rows_size r) (rows_item r) - 1)) = rw (count, ← c.key.ensures.value) (omega (arith, c.if-key-low.false)) in
    let less : row_key (bytes_of (rows_image r)) (rows_key_size r) (row_place (rows_size r) (rows_item r) (n - 1)) < c.args.low = below _ _ (c.up_to-most.ensures.before pos) (λ e. c.if-key-low-2.false (c.key-3.ensures.value ∙ e)) in
    record {
      there = below n (row_count (rows_size r) (rows_item r)) c.up_to-most.ensures.within (λ e. not_all (λ (i : ℕ). row_key (bytes_of (rows_image r)) (rows_key_size r) (row_place (rows_size r) (rows_item r) (i - 1))) n (row_count (rows_size r) (rows_item r)) c.args.low e less last);
      last = last;
      here = rest_not (bytes_of (rows_image r)) (rows_key_size r) (rows_size r) (rows_item r) c.args.low c.requires.low c.requires.high n c.requires.rise c.up_to-most.ensures pos less;
    }
