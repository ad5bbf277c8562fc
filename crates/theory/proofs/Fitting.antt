-- A whole plan that passes checks 28, 13 and 15 to 19 has a place in a file.
use mathlib.Core.Path.{◌≡◌, sym, ap, ◌∙◌}
use mathlib.Core.Logic.{inl, inr}
use mathlib.Core.Bool.{Bool, true, false, not, ◌||◌}
use mathlib.Core.List.{List, ◌++◌}
use Prim.Native.Nat.{ℕ, ◌+◌, ◌-◌, ◌*◌, ◌/◌, ◌≤◌, ◌<◌}
use native.Mathlib.Nat.{mul-le-mul}
use native.Mathlib.Omega.{arith}
use lib.Dec.{ltb, eqb}
use lib.ListN.{length, get_or}
use lib.Seq.{take_all}
use borrow.Author.Tests.{eqb-true, eqb-false, ltb-false, not-false}
use Rattle.plan.specs.Lists.{segment, below, is_in, list_at, each_once, index_of}
use Rattle.plan.specs.Refusals.{Checks, first_fault}
use Rattle.plan.specs.Mesh.{max_nodes, max_unknowns, no_parent, bad_node_count, bad_starts}
use Rattle.plan.specs.Parts.{parent_of}
use Rattle.plan.specs.Planning.{Contents, row_counts, bad_unknowns}
use Rattle.plan.specs.File.{Whole, bad_header, bad_order, bad_parts, bad_rows, bad_column, bad_columns, not_nested, not_covered, contents_checks}
use Rattle.plan.specs.RoundTrips.{Sound}
use Rattle.theory.specs.Checked.{Starts}
use Rattle.theory.proofs.Bools.{or_false_left, or_false_right, eq_or_ne}
use Rattle.theory.proofs.Lists.{get_or-index_of, index_of_lt}
use Rattle.theory.proofs.Ranges.{is_in-below, get_or-map-below}
use Rattle.theory.proofs.Sums.{is_in-total}
use Rattle.theory.proofs.Counting.{same-members}
use Rattle.theory.proofs.Refusals.{no_fault}
use Rattle.theory.proofs.Checked.{node_count, good-starts}
use Rattle.theory.proofs.Orders.{passes-order}
use Rattle.theory.proofs.Compressed.{counts_sums, list_length, entry_listed}
use Rattle.theory.proofs.ColumnRule.{good-column, column-few, good-columns}
use Rattle.theory.proofs.FileFields.{Narrow, Fits, counts-length}
use Rattle.theory.proofs.PartChecks.{passes-tree, parents-known}

-- ---- what the checks say

-- a whole plan that passes 28, 13 and 15 to 19 has none of their faults
pub passes-sound : (c : Contents) → Whole c → bad_unknowns c.unknowns ≡ false → bad_header c ≡ false → first_fault (contents_checks c) ≡ 0 → Sound c
unfolding contents_checks
passes-sound c whole unknowns header h =
    let c15 = no_fault 15 (bad_order c) _ (omega arith) h in
    let c16 = no_fault 16 (bad_parts c) _ (omega arith) c15.1 in
    let c17 = no_fault 17 (bad_rows c) _ (omega arith) c16.1 in
    let c18 = no_fault 18 (not_nested c) _ (omega arith) c17.1 in
    let c19 = no_fault 19 (not_covered c) _ (omega arith) c18.1 in
    record {
      whole = whole;
      unknowns = unknowns;
      header = header;
      order = c15.0;
      parts = c16.0;
      rows = c17.0;
      nested = c18.0;
      covered = c19.0;
    }

-- and the other way round; the first fault is that of the checks to come
pub sound-passes : (c : Contents) (more : Checks) → Sound c → first_fault (contents_checks c ++ more) ≡ first_fault more
unfolding contents_checks first_fault
sound-passes c more h = rw (h.order, h.parts, h.rows, h.nested, h.covered)

-- 28: the unknowns are 1 to 6
pub unknowns_limits : (u : ℕ) → bad_unknowns u ≡ false → (0 < u) × (u ≤ max_unknowns)
unfolding bad_unknowns
unknowns_limits u h =
    let some = eqb-false u 0 (or_false_left (eqb u 0) _ h) in
    (omega arith, ltb-false max_unknowns u (or_false_right (eqb u 0) _ h))

-- 13: n passes check 1, so it is 1 to 4,096; p is 1 to n; s is at most n(n − 1)/2
pub record Limits (c : Contents) : Type 0 where
  pub count : bad_node_count c.nodes ≡ false
  pub nodes_few : c.nodes ≤ max_nodes
  pub parts_some : 0 < c.parts
  pub parts_few : c.parts ≤ c.nodes
  pub slots_few : c.slots ≤ c.nodes * (c.nodes - 1) / 2

-- 13 says so
pub header_limits : (c : Contents) → bad_header c ≡ false → Limits c
unfolding bad_header
header_limits c h =
    let bad : Bool = bad_node_count c.nodes in
    let three : (bad || eqb c.parts 0 || ltb c.nodes c.parts) ≡ false = or_false_left (bad || eqb c.parts 0 || ltb c.nodes c.parts) _ h in
    let two : (bad || eqb c.parts 0) ≡ false = or_false_left (bad || eqb c.parts 0) _ three in
    let count : bad ≡ false = or_false_left bad _ two in
    let some = eqb-false c.parts 0 (or_false_right bad _ two) in
    record {
      count = count;
      nodes_few = (node_count c.nodes count).1;
      parts_some = omega arith;
      parts_few = ltb-false c.nodes c.parts (or_false_right (bad || eqb c.parts 0) _ three);
      slots_few = ltb-false (c.nodes * (c.nodes - 1) / 2) c.slots (or_false_right (bad || eqb c.parts 0 || ltb c.nodes c.parts) _ h);
    }

-- n(n − 1) for few nodes
pub pairs-few : (n : ℕ) → n ≤ 4096 → n * (n - 1) ≤ 4096 * 4095
pairs-few n h = mul-le-mul {n₁ = n} {m₁ = n - 1} {n₂ = 4096} {m₂ = 4095} h (omega arith)

-- so no count is above some 8 million
pub counts-few : (c : Contents) → bad_header c ≡ false → (c.nodes ≤ 4096) × (c.parts ≤ 4096) × (c.slots ≤ 8386560)
counts-few c h =
    let limits : Limits c = header_limits c h in
    let pairs = pairs-few c.nodes limits.nodes_few in
    (limits.nodes_few, omega (arith, limits.nodes_few, limits.parts_few), omega (arith, limits.slots_few))

-- 17: starts of n columns without a fault, which end at s, and columns without a fault
pub record GoodRows (c : Contents) : Type 0 where
  pub starts : bad_starts c.nodes c.column_starts ≡ false
  pub last : get_or c.column_starts c.nodes 0 ≡ c.slots
  pub columns : bad_columns c.nodes c.column_starts c.rows ≡ false

-- 17 says so
pub good-rows : (c : Contents) → bad_rows c ≡ false → GoodRows c
unfolding bad_rows
good-rows c h =
    let starts : Bool = bad_starts c.nodes c.column_starts in
    let ends : Bool = eqb (get_or c.column_starts c.nodes 0) c.slots in
    let both : (starts || not ends) ≡ false = or_false_left (starts || not ends) _ h in
    record {
      starts = or_false_left starts _ both;
      last = eqb-true (get_or c.column_starts c.nodes 0) c.slots (not-false ends (or_false_right starts _ both));
      columns = or_false_right (starts || not ends) _ h;
    }

-- ---- what fits

module _ (c : Contents) (sound : Sound c) where
  -- 13, 15 and 17 of it
  limits : Limits c
  limits = header_limits c sound.header

  once : each_once c.nodes c.order ≡ true
  unfolding bad_order
  once = not-false (each_once c.nodes c.order) sound.order

  laid : GoodRows c
  laid = good-rows c sound.rows

  starts : Starts c.nodes c.column_starts
  starts = good-starts c.nodes c.column_starts laid.starts

  -- each column keeps 17's rule
  column : (j : ℕ) → j < c.nodes → bad_column c.nodes j (list_at c.column_starts c.rows j) ≡ false
  column = good-columns c.nodes c.column_starts c.rows laid.columns

  -- a parent is 65,535 or a part
  narrow-parents : Narrow c.parents
  unfolding parent_of
  narrow-parents x m =
      let q : ℕ = index_of x c.parents in
      let own : parent_of c.parents q ≡ x = get_or-index_of c.parents x no_parent (index_of_lt c.parents x m) in
      elim (eq_or_ne x no_parent) [
        | inl e ↦ omega arith
        | inr e ↦ omega (arith, own, parents-known c sound.parts sound.whole.parents q (λ t. e (sym own ∙ t)), sound.whole.parents, limits.parts_few, limits.nodes_few)
      ]

  -- a column has fewer rows than there are nodes
  narrow-counts : Narrow (row_counts c)
  unfolding row_counts
  narrow-counts x m =
      let n : ℕ = c.nodes in
      let own : List ℕ = c.column_starts in
      let j : ℕ = index_of x (row_counts c) in
      let place : j < length (row_counts c) = index_of_lt (row_counts c) x m in
      let inside : j < n = omega (arith, place, counts-length c) in
      omega (
        arith,
        get_or-index_of (row_counts c) x 0 place,
        get_or-map-below (λ j. get_or own (j + 1) 0 - get_or own j 0) 0 n j inside,
        list_length n own c.rows starts (omega (arith, laid.last, sound.whole.rows)) j inside,
        column-few n j (list_at own c.rows j) (column j inside),
        limits.nodes_few,
      )

  -- a row is a position
  narrow-rows : Narrow c.rows
  narrow-rows x m =
      let all : segment c.rows 0 (get_or c.column_starts c.nodes 0) ≡ c.rows = take_all (get_or c.column_starts c.nodes 0 - 0) c.rows (omega (arith, laid.last, sound.whole.rows)) in
      let r = entry_listed c.nodes c.column_starts c.rows starts c.nodes (omega arith) x (ap (is_in x) all ∙ m) in
      omega (arith, (good-column c.nodes r.0 _ (column r.0 r.1)).1 x r.2, limits.nodes_few)

  -- A plan without a fault fits.
  pub sound-fits : Fits c
  sound-fits = record {
    whole = sound.whole;
    unknowns = omega (arith, unknowns_limits c.unknowns sound.unknowns);
    nodes = omega (arith, limits.nodes_few);
    parts = omega (arith, limits.nodes_few, limits.parts_few);
    slots = omega (arith, counts-few c sound.header);
    order = λ x m. omega (arith, is_in-below c.nodes x (same-members c.order (below c.nodes) (passes-order c.nodes c.order once) x m), limits.nodes_few);
    sizes = λ x m. omega (arith, is_in-total c.sizes x m, (passes-tree c sound.parts sound.whole.parents sound.whole.sizes).whole, limits.nodes_few);
    parents = narrow-parents;
    counts = narrow-counts;
    rows = narrow-rows;
    starts = unfold row_counts in counts_sums c.nodes c.column_starts starts;
  }
