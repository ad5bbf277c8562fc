-- Checks 15 to 19 of a plan: which is the first fault, what 17 to 19 look at, and what those passed, and 13, tell the ones behind them.
use mathlib.Core.Path.{◌≡◌, refl, sym, ◌∙◌}
use mathlib.Core.Logic.{◌≢◌}
use mathlib.Core.Bool.{true, false}
use mathlib.Core.List.{[], ◌∷◌}
use Prim.Native.Nat.{ℕ, ◌≤◌}
use native.Mathlib.Omega.{arith}
use lib.ListN.{length, get_or}
use borrow.Author.Tests.{ne_eqb}
use Rattle.plan.specs.Refusals.{first_fault}
use Rattle.plan.specs.Mesh.{max_nodes, bad_starts}
use Rattle.plan.specs.Planning.{Contents}
use Rattle.plan.specs.File.{Whole, bad_order, bad_parts, bad_rows, not_nested, not_covered, contents_checks}
use Rattle.theory.proofs.Refusals.{no_fault, first_some, first-none}
use Rattle.theory.proofs.Fitting.{header_limits, counts-few}
use Rattle.filechecks.specs.Fields.{order_and_parts_checks}
use Rattle.rowchecks.specs.Rows.{parts_and_rows, SoundParts, Started, row_checks}
use Rattle.planfile.specs.Supplied.{Exact}

-- ---- the first fault

module _ (c : Contents) where
  -- what checks 15 and 16 refuse is refused
  pub order_refused : (k : ℕ) → k ≢ 0 → k ≡ first_fault (order_and_parts_checks c) → k ≡ first_fault (contents_checks c)
  unfolding contents_checks
  order_refused k some e = e ∙ sym (first_some (order_and_parts_checks c) (row_checks c) (λ z. some (e ∙ z)))

  -- where they found none, 17 to 19 are left
  pub order_passed : 0 ≡ first_fault (order_and_parts_checks c) → first_fault (contents_checks c) ≡ first_fault (row_checks c)
  unfolding contents_checks
  order_passed ordered = first-none (order_and_parts_checks c) (row_checks c) refl (sym ordered)

-- 17 refuses
pub rows_refused : (c : Contents) → 0 ≡ first_fault (order_and_parts_checks c) → bad_rows c ≡ true → 17 ≡ first_fault (contents_checks c)
unfolding first_fault
rows_refused c ordered bad = sym (order_passed c ordered ∙ rw bad)

-- ---- what a check looks at

-- 17 at the starts
pub starts_bad : (c : Contents) → bad_starts c.nodes c.column_starts ≡ true → bad_rows c ≡ true
unfolding bad_rows
starts_bad c bad = rw bad

-- at the last start
pub last_bad : (c : Contents) → bad_starts c.nodes c.column_starts ≡ false → get_or c.column_starts c.nodes 0 ≢ c.slots → bad_rows c ≡ true
unfolding bad_rows
last_bad c good ne = rw (good, ne_eqb _ _ ne)

-- 17 to 19 at the parts and the rows
pub looked : (c : Contents) → Whole c → first_fault (row_checks (parts_and_rows c.nodes c.sizes c.parents c.column_starts c.rows)) ≡ first_fault (row_checks c)
unfolding bad_rows not_nested not_covered
looked c w = rw w.rows

-- ---- what a plan tells that passed a check

module _ (c : Contents) (h : Exact c) where
  -- 13: the order, the sizes and the parents are few
  pub exact-few : (length c.order ≤ max_nodes) × (length c.sizes ≤ max_nodes) × (length c.parents ≡ length c.sizes)
  exact-few =
      let few = counts-few c h.header in
      let whole : Whole c = h.whole in
      (omega (arith, few, whole.order), omega (arith, few, whole.sizes), whole.parents ∙ sym whole.sizes)

  -- 15 and 16: the sizes and the parents are those of parts
  pub passed-parts : 0 ≡ first_fault (order_and_parts_checks c) → SoundParts c.nodes c.sizes c.parents
  unfolding bad_parts
  passed-parts ordered =
      let parts : bad_parts c ≡ false = (no_fault 16 (bad_parts c) [] (omega arith) (no_fault 15 (bad_order c) ((16, bad_parts c) ∷ []) (omega arith) (sym ordered)).1).0 in
      record { few = (header_limits c h.header).nodes_few; as_many = h.whole.parents ∙ sym h.whole.sizes; good = rw h.whole.sizes parts }

  -- 17 at the starts: the rows are those of n columns
  pub passed-starts : bad_starts c.nodes c.column_starts ≡ false → get_or c.column_starts c.nodes 0 ≡ length c.rows
      → Started c.nodes c.column_starts c.rows
  passed-starts starts last = record { few = (header_limits c h.header).nodes_few; starts = starts; last = last }
