-- `factor::column::factor_rows` meets its contract: a row is run down, and those that follow it are known.
use mathlib.Core.Path.{◌≡◌, refl, sym, ap, ◌∙◌, subst}
use mathlib.Core.Bool.{true, not}
use Prim.Native.Nat.{ℕ, ◌+◌, ◌-◌, ◌≤◌, ◌<◌}
use native.Mathlib.Omega.{arith}
use borrow.Author.Tests.{not-false}
use lib.ListN.{length, get_or}
use Rattle.factor.specs.Down.{continued, above32}
use Rattle.factor.specs.Working.{Advanced}
use Rattle.factor.proofs.ColumnSteps.{row_beside, row_inside, row_twins, advanced_on, following-begins, known_on, following_on}
use Rattle.factor.proofs.column.factor_rows.Goals.{Start, In-loop-at, Else-not-continues}
use Rattle.factor.proofs.column.factor_rows.Goals as goal

-- slot s is one of the plan
inside : (c : Start) → (c.args.s < length c.args.columns.now.rows.now) × (length c.args.columns.now.rows.now < above32)
inside c =
    let i = row_inside c.args.columns.now.starts.now c.args.columns.now.rows.now (length c.args.diagonal.now) (length c.args.values.now) (length c.args.kept.now) (length c.args.lower.now) c.args.first c.args.s c.args.to c.requires.0 in
    (i.0, i.1)

-- slot `at` is one too, and both rows have columns
inside_loop : (c : In-loop-at) → (c.loop-at.at < length c.args.columns.now.rows.now) × (length c.args.columns.now.rows.now < above32) × (c.loop-at.k + 1 < length c.args.columns.now.starts.now) × (get_or c.args.columns.now.rows.now c.loop-at.at 0 + 1 < length c.args.columns.now.starts.now)
inside_loop c =
    let r = c.loop-at.invariant.0.ready c.loop-at-test.true in
    let i = row_inside c.args.columns.now.starts.now c.args.columns.now.rows.now (length c.loop-at.diagonal) (length c.loop-at.values) (length c.args.kept.now) (length c.args.lower.now) c.args.first c.loop-at.at c.args.to r in
    let t = row_twins c.args.columns.now.starts.now c.args.columns.now.rows.now (length c.loop-at.diagonal) (length c.loop-at.values) (length c.args.kept.now) (length c.args.lower.now) c.args.first c.loop-at.at c.args.to r (omega (arith, c.loop-at.invariant.0.some, c.loop-at.invariant.1)) in
    (i.0, i.1, omega (arith, t.known, c.loop-at.invariant.0.row), t.known_next)

pub row_down-requires : goal.row_down-requires
row_down-requires c = c.requires

pub loop-at-init : goal.loop-at-init
loop-at-init c = (
  following-begins c.args.columns.now.starts.now c.args.columns.now.rows.now c.args.kept.now c.args.lower.now c.row_down.new.places (length c.args.diagonal.now) (length c.args.values.now) c.args.first c.args.s c.args.to
      c.row_down.new.diagonal c.row_down.new.values (get_or c.args.columns.now.rows.now c.args.s 0) c.requires.0 (omega (arith, c.requires.1, c.row_down.auto.places)) c.row_down.auto.diagonal c.row_down.auto.values refl c.row_down.ensures.placed,
  c.requires.0.low,
)

pub continues-requires : goal.continues-requires
continues-requires c =
    rw c.loop-at.invariant.0.row
    (row_twins c.args.columns.now.starts.now c.args.columns.now.rows.now (length c.loop-at.diagonal) (length c.loop-at.values) (length c.args.kept.now) (length c.args.lower.now) c.args.first c.loop-at.at c.args.to (c.loop-at.invariant.0.ready c.loop-at-test.true) (omega (arith, c.loop-at.invariant.0.some, c.loop-at.invariant.1)))

pub returns-then-not-continues : goal.returns-then-not-continues
returns-then-not-continues c = (
  advanced_on c.args.columns.now.starts.now c.args.columns.now.rows.now c.args.kept.now c.args.lower.now c.args.first c.args.to c.args.s (c.args.s + 1) c.loop-at.at c.args.diagonal.now c.args.values.now c.row_down.new.diagonal c.row_down.new.values c.loop-at.diagonal c.loop-at.values c.row_down.ensures.advanced c.loop-at.invariant.0.advanced,
  c.loop-at.invariant.0.some,
)

-- the next column continues k's
continuing : (c : Else-not-continues) → continued c.args.columns.now.starts.now c.args.columns.now.rows.now c.loop-at.k (get_or c.args.columns.now.rows.now c.loop-at.at 0) ≡ true
continuing c = sym c.continues.ensures ∙ not-false c.continues.result (ap not c.if-not-continues.false)

-- so its places are known
known : (c : Else-not-continues) → let next = get_or c.args.columns.now.rows.now c.loop-at.at 0 in
    let later = c.loop-at.shift + (get_or c.args.columns.now.starts.now next 0 - get_or c.args.columns.now.starts.now c.loop-at.k 0 - 1) in
    (get_or c.args.columns.now.starts.now c.loop-at.k 0 < get_or c.args.columns.now.starts.now next 0) × (later ≤ get_or c.args.columns.now.starts.now next 0) × (get_or c.args.columns.now.starts.now next 0 ≤ length c.args.columns.now.rows.now)
known c =
    let o = known_on c.args.columns.now.starts.now c.args.columns.now.rows.now c.args.kept.now c.args.lower.now _ c.args.first c.args.s c.args.to _ _ c.loop-at.diagonal c.loop-at.values c.loop-at.k c.loop-at.shift c.loop-at.at c.loop-at.invariant.0 c.loop-at.invariant.1 c.loop-at-test.true (continuing c) in
    let r = row_beside c.args.columns.now.starts.now c.args.columns.now.rows.now (length c.loop-at.diagonal) (length c.loop-at.values) (length c.args.kept.now) (length c.args.lower.now) c.args.first c.loop-at.at c.args.to (c.loop-at.invariant.0.ready c.loop-at-test.true) in
    (o.0, o.1, omega (arith, r.rising, r.inside))

pub row_known-requires : goal.row_known-requires
row_known-requires c =
    let o = known_on c.args.columns.now.starts.now c.args.columns.now.rows.now c.args.kept.now c.args.lower.now _ c.args.first c.args.s c.args.to _ _ c.loop-at.diagonal c.loop-at.values c.loop-at.k c.loop-at.shift c.loop-at.at c.loop-at.invariant.0 c.loop-at.invariant.1 c.loop-at-test.true (continuing (goal.at.row_known-requires c).Else-not-continues) in
    record {
      at_row = (c.loop-at.invariant.0.ready c.loop-at-test.true, c.loop-at.invariant.0.room);
      shift_bound = (o.1, o.2);
    }

pub loop-at-preserved : goal.loop-at-preserved
loop-at-preserved c = (
  (following_on c.args.columns.now.starts.now c.args.columns.now.rows.now c.args.kept.now c.args.lower.now _ c.args.first c.args.s c.args.to _ _ c.loop-at.diagonal c.loop-at.values c.row_known.new.diagonal c.row_known.new.values c.loop-at.k c.loop-at.shift c.loop-at.at
      c.loop-at.invariant.0 c.loop-at.invariant.1 c.loop-at-test.true (continuing (goal.at.loop-at-preserved c).Else-not-continues) c.row_known.ensures),
  c.loop-at.invariant.1,
)

-- the last slot is reached
pub returns : goal.returns
returns c =
    let end : c.loop-at.at ≡ c.args.to = omega (arith, c.loop-at-test.false, c.loop-at.invariant.0.advanced.high) in
    let P : ℕ → Type 0 = λ r. Advanced c.args.columns.now.starts.now c.args.columns.now.rows.now c.args.kept.now c.args.lower.now c.args.first c.args.to c.args.s r c.args.diagonal.now c.args.values.now c.loop-at.diagonal c.loop-at.values × (c.args.s < r) in
    subst P end (
      advanced_on c.args.columns.now.starts.now c.args.columns.now.rows.now c.args.kept.now c.args.lower.now c.args.first c.args.to c.args.s (c.args.s + 1) c.loop-at.at c.args.diagonal.now c.args.values.now c.row_down.new.diagonal c.row_down.new.values c.loop-at.diagonal c.loop-at.values c.row_down.ensures.advanced c.loop-at.invariant.0.advanced,
      c.loop-at.invariant.0.some,
    )

pub offset_bounds-columns-s : goal.offset_bounds-columns-s
offset_bounds-columns-s c = omega (arith, inside (goal.at.offset_bounds-columns-s c).Start)

pub bounds-columns-s : goal.bounds-columns-s
bounds-columns-s c = omega (arith, inside (goal.at.bounds-columns-s c).Start)

pub offset_bounds-columns-at : goal.offset_bounds-columns-at
offset_bounds-columns-at c = omega (arith, inside_loop (goal.at.offset_bounds-columns-at c).In-loop-at)

pub bounds-columns-at : goal.bounds-columns-at
bounds-columns-at c = omega (arith, inside_loop (goal.at.bounds-columns-at c).In-loop-at)

pub offset_bounds-columns-next : goal.offset_bounds-columns-next
offset_bounds-columns-next c = omega (arith, inside_loop (goal.at.offset_bounds-columns-next c).In-loop-at)

pub bounds-columns-next : goal.bounds-columns-next
bounds-columns-next c = omega (arith, inside_loop (goal.at.bounds-columns-next c).In-loop-at)

pub offset_bounds-columns-k : goal.offset_bounds-columns-k
offset_bounds-columns-k c = omega (arith, inside_loop (goal.at.offset_bounds-columns-k c).In-loop-at)

pub bounds-columns-k : goal.bounds-columns-k
bounds-columns-k c = omega (arith, inside_loop (goal.at.bounds-columns-k c).In-loop-at)

pub overflow_sub-shift : goal.overflow_sub-shift
overflow_sub-shift c = omega (arith, (known (goal.at.overflow_sub-shift c).Else-not-continues).0)

pub overflow_sub-shift-in-loop-at : goal.overflow_sub-shift-in-loop-at
overflow_sub-shift-in-loop-at c = omega (arith, (known (goal.at.overflow_sub-shift-in-loop-at c).Else-not-continues).0)

pub overflow_add-shift : goal.overflow_add-shift
overflow_add-shift c = omega (arith, known (goal.at.overflow_add-shift c).Else-not-continues, (inside_loop (goal.at.overflow_add-shift c).In-loop-at).1)
