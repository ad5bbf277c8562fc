-- How long the listing is: that of a mesh of at most 256 nodes fits into 135,168 bytes, and a refusal's into 12.
use mathlib.Core.Path.{◌≡◌, refl, ap}
use mathlib.Core.Bool.{true}
use mathlib.Core.List.{List, [], ◌∷◌}
use Prim.Native.Nat.{ℕ, ◌+◌, ◌-◌, ◌*◌, ◌/◌, ◌≤◌, ◌<◌}
use native.Mathlib.Nat.{mul-le-mul}
use native.Mathlib.Omega.{arith}
use lib.ListN.{length, get_or, length-append}
use Rattle.plan.specs.Lists.{below, is_in, list_at}
use Rattle.plan.specs.Mesh.{Mesh}
use Rattle.plan.specs.Elimination.{column, columns}
use Rattle.plan.specs.Parts.{part_of}
use Rattle.plan.specs.Planning.{plan_by, plan_of}
use Rattle.plan.specs.Listing.{max_listed_nodes, head_line, line_of, position_line, refusal_line, print, listed_plan}
use Rattle.theory.specs.Rows.{is_row}
use Rattle.theory.proofs.Lists.{is_in-head, is_in_tail}
use Rattle.theory.proofs.Ranges.{is_in-below, length-up_from}
use Rattle.theory.proofs.Orders.{order-inside}
use Rattle.theory.proofs.PartOf.{part_lt}
use Rattle.theory.proofs.EliminationTree.{row_range}
use Rattle.theory.proofs.Slots.{column_at, slots-few}
use Rattle.theory.proofs.Planned.{planned-nodes, planned-once, planned-sizes, planned-few, planned-tree}
use Rattle.text.specs.Lines.{head_of}
use Rattle.text.specs.Room.{max_listed_slots, longest}
use Rattle.text.proofs.Sequences.{texts, texts-none, texts_one, texts-append}
use Rattle.text.proofs.Decimals.{digits_three, digits_five, spaced_one_lem, spaced-few}
use Rattle.text.proofs.Lines.{head-length, head-counts, line_length, refusal-length}

-- a line of numbers below 1,000
line_few : (j v q : ℕ) (rows : List ℕ) → j < 1000 → v < 1000 → q < 1000 → ((i : ℕ) → is_in i rows ≡ true → i < 1000)
    → length (line_of j v q rows) ≤ 12 + 4 * length rows
line_few j v q rows hj hv hq h =
    omega (
      arith,
      line_length j v q rows,
      digits_three j hj,
      ap length (spaced_one_lem v),
      digits_three v hv,
      ap length (spaced_one_lem q),
      digits_three q hq,
      spaced-few rows h,
    )

-- lines for some positions, each with the rows of its column
lines-few : (line rows : ℕ → List ℕ) (js : List ℕ) → ((j : ℕ) → is_in j js ≡ true → length (line j) ≤ 12 + 4 * length (rows j))
    → length (texts line js) ≤ 12 * length js + 4 * length (texts rows js)
lines-few line rows [] h = omega (arith, ap length (texts-none line))
lines-few line rows (j ∷ js) h =
    omega (
      arith,
      ap length (texts-append line (j ∷ []) js),
      length-append (texts line (j ∷ [])) (texts line js),
      ap length (texts_one line j),
      ap length (texts-append rows (j ∷ []) js),
      length-append (texts rows (j ∷ [])) (texts rows js),
      ap length (texts_one rows j),
      h j (is_in-head j js),
      lines-few line rows js (λ i m. h i (is_in_tail i j js m)),
    )

-- the first line of few nodes, parts and slots
head_few : (n p s : ℕ) → n < 1000 → p < 1000 → s < 100000 → length (head_of n p s) ≤ 32
head_few n p s hn hp hs =
    omega (
      arith,
      head-length n p s,
      ap length (spaced_one_lem n),
      digits_three n hn,
      ap length (spaced_one_lem p),
      digits_three p hp,
      ap length (spaced_one_lem s),
      digits_five s hs,
    )

-- ---- the plan of a mesh

module _ (m : Mesh) (few : m.nodes ≤ max_listed_nodes) where
  -- its column j
  abbrev rows : ℕ → List ℕ
  rows j = column m (listed_plan m).order j

  -- found by its starts
  column-listed_at : (j : ℕ) → j < m.nodes → list_at (listed_plan m).column_starts (listed_plan m).rows j ≡ rows j
  unfolding plan_of plan_by
  column-listed_at j h = column_at m (listed_plan m).order j h

  -- its rows are positions
  row_inside : (i j : ℕ) → is_in i (rows j) ≡ true → i < m.nodes
  unfolding is_row
  row_inside i j h = (row_range m (listed_plan m).order i j h).1

  -- a position's part is less than n
  part-inside : (j : ℕ) → j < m.nodes → part_of (listed_plan m).sizes j < m.nodes
  part-inside j h = omega (arith, part_lt (listed_plan m).sizes j (omega (arith, (planned-tree 1 m).whole)), planned-sizes 1 m, planned-few 1 m)

  -- its slots: no more than pairs of positions
  slots-within : (listed_plan m).slots ≤ m.nodes * (m.nodes - 1) / 2
  unfolding plan_of plan_by
  slots-within = slots-few m (listed_plan m).order

  -- they are the rows of all columns
  slots-listed : (listed_plan m).slots ≡ length (texts rows (below m.nodes))
  unfolding plan_of plan_by columns
  slots-listed = refl

  -- 256 · 255 / 2 of them at most
  pub slots_at_most : (listed_plan m).slots ≤ max_listed_slots
  slots_at_most =
      let fewer : m.nodes - 1 ≤ 255 = omega arith in
      let pairs : m.nodes * (m.nodes - 1) ≤ 256 * 255 = mul-le-mul few fewer in
      omega (arith, slots-within)

  -- a position's line
  line : (j : ℕ) → is_in j (below m.nodes) ≡ true → length (position_line (listed_plan m) j) ≤ 12 + 4 * length (rows j)
  unfolding position_line
  line j i =
      let h : j < m.nodes = is_in-below m.nodes j i in
      rw (column-listed_at j h)
      (line_few j (get_or (listed_plan m).order j 0) (part_of (listed_plan m).sizes j) (rows j)
      (omega arith)
      (omega (arith, order-inside m.nodes (listed_plan m).order (planned-once 1 m) j h))
      (omega (arith, part-inside j h))
      (λ r t. omega (arith, row_inside r j t)))

  -- the whole text
  pub plan-fits : length (print 0 (listed_plan m)) ≤ longest
  unfolding print
  plan-fits =
      omega (
        arith,
        length-append (head_line (listed_plan m)) (texts (position_line (listed_plan m)) (below (listed_plan m).nodes)),
        ap length (head-counts (listed_plan m)),
        head_few (listed_plan m).nodes (listed_plan m).parts (listed_plan m).slots (omega (arith, planned-nodes 1 m)) (omega (arith, planned-few 1 m)) (omega (arith, slots_at_most)),
        ap (λ (n : ℕ). length (texts (position_line (listed_plan m)) (below n))) (planned-nodes 1 m),
        lines-few (position_line (listed_plan m)) rows (below m.nodes) line,
        length-up_from m.nodes 0,
        slots-listed,
        slots_at_most,
      )

-- ---- a refusal

-- the text of a refusal with a number below 100
pub refusal-fits : (k : ℕ) → k < 100 → length (refusal_line k) ≤ 12
refusal-fits k h = omega (arith, refusal-length k, ap length (spaced_one_lem k), digits_three k (omega arith))
