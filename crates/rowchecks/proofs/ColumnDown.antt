-- The rows of one column, looked at one by one: in whatever order they stand, against 18's rule by ranges; from the last to the first, against 17's
-- rule too.
use mathlib.Core.Path.{◌≡◌, refl, sym, ap, ◌∙◌}
use mathlib.Core.Logic.{inl, inr}
use mathlib.Core.Bool.{Bool, true, false, not, ◌&&◌, ◌||◌, and-false}
use mathlib.Core.List.{List, [], ◌∷◌}
use Prim.Native.Nat.{ℕ, zero, suc, ◌+◌, ◌-◌, ◌≤◌, ◌<◌}
use native.Mathlib.Omega.{arith}
use lib.Dec.{ltb}
use lib.ListN.{length, get_or, drop, get_or-eq_default}
use lib.Seq.{drop-cons, drop-length}
use borrow.Author.Tests.{not-true, not-false, lt-ltb, le-ltb}
use Rattle.plan.specs.File.{bad_column}
use Rattle.theory.proofs.Bools.{or_left, or_right, or_neither, and_both, lt_or_le}
use Rattle.theory.proofs.Lists.{get_d_default}
use Rattle.theory.proofs.Scans.{Clear, clear_more, element_at, found_in, none_in, fails}
use Rattle.layout.proofs.ColumnScan.{scan_low, scan_high, scan_next}
use Rattle.rowchecks.specs.Rows.{in_range, reaches, outside_ranges}

-- ---- 18's rule for one row

-- whether the range of row i holds the number of column j's part
abbrev held : List ℕ → List ℕ → ℕ → ℕ → Bool
held lows ends j i = in_range (get_or lows j 0) (get_or lows i 0) (get_or ends i 0)

-- whether row i breaks the rule
abbrev misses : ℕ → List ℕ → List ℕ → ℕ → ℕ → Bool
misses n lows ends j = fails (reaches n lows ends j)

module _ (n : ℕ) (lows ends : List ℕ) (j i : ℕ) where
  -- it does where it is n or more
  row-high : n ≤ i → misses n lows ends j i ≡ true
  row-high le = ap (λ (b : Bool). not (b && held lows ends j i)) (le-ltb i n le)

  -- or where the answer r, whether its range holds the number, is no
  row_out : (r : Bool) → r ≡ held lows ends j i → not r ≡ true → misses n lows ends j i ≡ true
  row_out r e t = ap not (ap (λ (b : Bool). ltb i n && b) (sym e ∙ not-true r t) ∙ and-false (ltb i n))

  -- any other row keeps it
  row_in : (r : Bool) → i < n → r ≡ held lows ends j i → not r ≡ false → misses n lows ends j i ≡ false
  row_in r lt e t = ap not (and_both (ltb i n) (held lows ends j i) (lt-ltb i n lt) (sym e ∙ not-false r t))

  -- rows break the rule where row i of them, at place k, does
  breaks_at : (l : List ℕ) (k : ℕ) → k < length l → i ≡ get_or l k 0 → misses n lows ends j i ≡ true → outside_ranges n lows ends j l ≡ true
  breaks_at l k lt read t = found_in (misses n lows ends j) l k lt (ap (misses n lows ends j) (sym read) ∙ t)

-- ---- the rows in whatever order they stand

-- none of the rows before place k breaks 18's rule
pub record Inside (n : ℕ) (lows ends : List ℕ) (j : ℕ) (l : List ℕ) (k : ℕ) : Type 0 where
  pub clear : Clear (element_at (misses n lows ends j) l) k

module _ {n : ℕ} {lows ends : List ℕ} {j : ℕ} {l : List ℕ} {k : ℕ} (s : Inside n lows ends j l k) where
  -- row i, at place k, is n or more
  pub inside-high : {i : ℕ} → k < length l → i ≡ get_or l k 0 → n ≤ i → outside_ranges n lows ends j l ≡ true
  inside-high {i} lt read le = breaks_at n lows ends j i l k lt read (row-high n lows ends j i le)

  -- or its range does not hold the number
  pub inside_out : {i : ℕ} {r : Bool} → k < length l → i ≡ get_or l k 0 → r ≡ held lows ends j i → not r ≡ true → outside_ranges n lows ends j l ≡ true
  inside_out {i} {r} lt read e t = breaks_at n lows ends j i l k lt read (row_out n lows ends j i r e t)

  -- or it does not break the rule
  pub inside-next : {i : ℕ} {r : Bool} → i ≡ get_or l k 0 → i < n → r ≡ held lows ends j i → not r ≡ false → Inside n lows ends j l (k + 1)
  inside-next {i} {r} read lt e t =
      let keeps-it : element_at (misses n lows ends j) l k ≡ false = ap (misses n lows ends j) (sym read) ∙ row_in n lows ends j i r lt e t in
      record { clear = clear_more (element_at (misses n lows ends j) l) k s.clear keeps-it }

  -- no row is left
  pub inside-end : length l ≤ k → outside_ranges n lows ends j l ≡ false
  inside-end le = none_in (misses n lows ends j) l k le s.clear

-- ---- 17's rule

-- rows behind row x that break the rule of its column
others_break : (n j x : ℕ) (l : List ℕ) → (x < n → bad_column n x l ≡ true) → bad_column n j (x ∷ l) ≡ true
others_break n j x l bad = elim (lt_or_le j x) [
  | inl low ↦ elim (lt_or_le x n) [
    | inl high ↦ scan_next n j (x ∷ l) j 0 refl (omega arith) low high ∙ bad high
    | inr high ↦ scan_high n j (x ∷ l) j 0 refl (omega arith) high
  ]
  | inr low ↦ scan_low n j (x ∷ l) j 0 refl (omega arith) low
]

-- a first row that is not above the column; n stands behind the last row
first-low : (n j : ℕ) (l : List ℕ) → j < n → get_or l 0 n ≤ j → bad_column n j l ≡ true
first-low n j [] lt le = absurd (omega arith)
first-low n j (x ∷ l) lt le = scan_low n j (x ∷ l) j 0 refl (omega arith) le

-- a row that is not above the one before it
next_low : (n j : ℕ) (l : List ℕ) (k : ℕ) → k < length l → get_or l (suc k) n ≤ get_or l k 0 → bad_column n j l ≡ true
next_low n j [] k lt le = absurd (omega arith)
next_low n j (x ∷ l) zero lt le = others_break n j x l (λ high. first-low n x l high le)
next_low n j (x ∷ l) (suc k) lt le = others_break n j x l (λ high. next_low n x l k (omega arith) le)

-- ---- the rows from the last to the first

-- whether rows break neither rule
abbrev keeps : ℕ → List ℕ → List ℕ → ℕ → List ℕ → Bool
keeps n lows ends j l = not (bad_column n j l || outside_ranges n lows ends j l)

-- the rows from place k on break neither rule in a column before them; `behind` is the first of them, n where there is none
pub record Down (n : ℕ) (lows ends : List ℕ) (j : ℕ) (l : List ℕ) (behind k : ℕ) : Type 0 where
  pub within : k ≤ length l
  pub few : behind ≤ n
  pub first : behind ≡ get_or l k n
  pub rule : (a : ℕ) → a < behind → bad_column n a (drop k l) ≡ false
  pub ranges : outside_ranges n lows ends j (drop k l) ≡ false

-- no row has been looked at
pub down_start : (n : ℕ) (lows ends : List ℕ) (j : ℕ) (l : List ℕ) → Down n lows ends j l n (length l)
unfolding bad_column
down_start n lows ends j l =
    record {
      within = omega arith;
      few = omega arith;
      first = sym (get_or-eq_default l n {n = length l} (omega arith));
      rule = λ a lt. ap (bad_column n a) (drop-length l);
      ranges = ap (outside_ranges n lows ends j) (drop-length l);
    }

-- row i is the one before them
module _ {n : ℕ} {lows ends : List ℕ} {j : ℕ} {l : List ℕ} {behind k i : ℕ} (d : Down n lows ends j l behind k) (some : 0 < k)
    (read : i ≡ get_or l (k - 1) 0) where
  -- at a place of the rows
  at_place : k - 1 < length l
  at_place = omega (arith, d.within)

  -- behind which they begin
  one_more : suc (k - 1) ≡ k
  one_more = omega arith

  -- it is not below them
  pub down_high : behind ≤ i → keeps n lows ends j l ≡ false
  down_high le =
      let low : get_or l (suc (k - 1)) n ≤ get_or l (k - 1) 0 = rw one_more (omega (arith, read, d.first)) in
      ap not (or_left (bad_column n j l) _ (next_low n j l (k - 1) at_place low))

  -- or its range does not hold the number
  pub down_out : {r : Bool} → r ≡ held lows ends j i → not r ≡ true → keeps n lows ends j l ≡ false
  down_out {r} e t = ap not (or_right (bad_column n j l) _ (breaks_at n lows ends j i l (k - 1) at_place read (row_out n lows ends j i r e t)))

  -- or it breaks neither rule
  pub down_next : {r : Bool} → i < behind → r ≡ held lows ends j i → not r ≡ false → Down n lows ends j l i (k - 1)
  down_next {r} lt e t =
      let high : i < n = omega (arith, d.few) in
      let rows : drop (k - 1) l ≡ i ∷ drop k l = rw one_more at rw (sym read) at (drop-cons l (k - 1) 0 at_place) in
      record {
        within = omega (arith, at_place);
        few = omega (arith, high);
        first = read ∙ get_d_default l (k - 1) 0 n at_place;
        rule = λ a low. rw rows (scan_next n a (i ∷ drop k l) a 0 refl (omega arith) low high ∙ d.rule i lt);
        ranges = rw rows (or_neither (misses n lows ends j i) _ (row_in n lows ends j i r high e t) d.ranges);
      }

-- all have been looked at
pub down_end : {n : ℕ} {lows ends : List ℕ} {j : ℕ} {l : List ℕ} {behind k : ℕ} → Down n lows ends j l behind k → k ≡ 0 → j < n
    → ltb j behind ≡ keeps n lows ends j l
down_end {n} {lows} {ends} {j} {l} {behind} d e lt = elim (lt_or_le j behind) [
  | inl less ↦ lt-ltb j behind less ∙ sym (ap not (or_neither (bad_column n j l) _ (rw e at (d.rule j less)) (rw e at d.ranges)))
  | inr le ↦ le-ltb j behind le ∙ sym (ap not (or_left (bad_column n j l) _ (first-low n j l lt (omega (arith, rw e at d.first)))))
]
