-- `layout::checked::CheckedLayout::slot` meets its contract: row i stands at its place in the column or nowhere, and its slot is as far behind the column's start.
use mathlib.Core.Path.{◌≡◌, sym, ap, ◌∙◌}
use mathlib.Core.Logic.{inl, inr}
use mathlib.Core.Bool.{false}
use mathlib.Core.List.{List}
use Prim.Native.Nat.{ℕ, ◌≤◌, ◌<◌}
use native.Mathlib.Omega.{arith}
use lib.ListN.{length, get_or}
use Rattle.plan.specs.Lists.{is_in, index_of, list_at, ascending}
use Rattle.plan.specs.Answers.{accepted}
use Rattle.theory.proofs.Bools.{lt_or_le, refuted}
use Rattle.theory.proofs.Lists.{is_in-get_or, get_or-index_of, index_of_lt}
use Rattle.theory.proofs.Ascending.{ascending-index_of}
use Rattle.theory.proofs.SlotsAndPairs.{slot_none, slot_found_lem}
use Rattle.mesh.proofs.Lists.{list_long}
use Rattle.layout.proofs.Answered.{known-within, known-few, known-ascends}
use Rattle.std.proofs.Common.{Ok, Err}
use Rattle.mesh.proofs.Bisection.{no_greater}
use Rattle.std.proofs.lemmas.List.Sorted.{searched}
use Rattle.layout.proofs.checked.CheckedLayout.slot.Goals.{In-Ok, In-Err}
use Rattle.layout.proofs.checked.CheckedLayout.slot.Goals as goal

-- a number between two neighbours of a list that ascends is not in it
none_there : (l : List ℕ) (x k : ℕ) → ((q : ℕ) → q < k → get_or l q 0 < x) → ((q : ℕ) → k ≤ q → q < length l → x < get_or l q 0) → is_in x l ≡ false
none_there l x k low high = refuted (is_in x l) (λ h.
    let lt = index_of_lt l x h in
    let e = get_or-index_of l x 0 lt in
    elim (lt_or_le (index_of x l) k) [
      | inl before ↦ omega (arith, low _ before)
      | inr behind ↦ omega (arith, high _ behind lt)
    ])

-- where row i is found, it is at its place
found : (c : In-Ok) → (c.in-Ok.k < length (list_at c.args.self.now.column_starts.now c.args.self.now.rows.now c.args.j)) × (get_or (list_at c.args.self.now.column_starts.now c.args.self.now.rows.now c.args.j) c.in-Ok.k 0 ≡ c.args.i)
found c = rw c.column.ensures at (searched c.column.result.now c.args.i (Ok c.in-Ok.k) c.in-Ok.ensures.position (no_greater c.column.result.now (ap ascending c.column.ensures ∙ known-ascends c.args.self.now c.args.j c.requires)))

-- the slot is before the next column's start, which has 32 bits
pub overflow_cast-result : goal.overflow_cast-result
overflow_cast-result c = omega (arith, found (goal.at.overflow_cast-result c).In-Ok, list_long c.args.self.now.column_starts.now c.args.self.now.rows.now c.args.j (known-within c.args.self.now c.args.j c.requires), known-few c.args.self.now c.args.j c.requires)

pub overflow_add-result : goal.overflow_add-result
overflow_add-result c = omega (arith, found (goal.at.overflow_add-result c).In-Ok, list_long c.args.self.now.column_starts.now c.args.self.now.rows.now c.args.j (known-within c.args.self.now c.args.j c.requires), known-few c.args.self.now c.args.j c.requires)

pub returns-in-Ok : goal.returns-in-Ok
returns-in-Ok c =
    let column : List ℕ = list_at c.args.self.now.column_starts.now c.args.self.now.rows.now c.args.j in
    let f = found (goal.at.returns-in-Ok c).In-Ok in
    ap accepted
    (sym (slot_found_lem c.args.self.now.column_starts.now c.args.self.now.rows.now c.args.i c.args.j c.in-Ok.k
    (rw f.1 at (is_in-get_or column c.in-Ok.k 0 f.0)) (rw f.1 at (ascending-index_of column (known-ascends c.args.self.now c.args.j c.requires) c.in-Ok.k f.0))))

pub returns-in-Err : goal.returns-in-Err
returns-in-Err c =
    let column : List ℕ = list_at c.args.self.now.column_starts.now c.args.self.now.rows.now c.args.j in
    let none = rw c.column.ensures at (searched c.column.result.now c.args.i (Err c.in-Err.field-0) c.in-Err.ensures.position (no_greater c.column.result.now (ap ascending c.column.ensures ∙ known-ascends c.args.self.now c.args.j c.requires))) in
    ap accepted (sym (slot_none c.args.self.now.column_starts.now c.args.self.now.rows.now c.args.i c.args.j (none_there column c.args.i c.in-Err.field-0 none.1 none.2)))

-- column j has a start
pub offset_bounds-self-j : goal.offset_bounds-self-j
offset_bounds-self-j c = let w = known-within c.args.self.now c.args.j c.requires in omega (arith, w.started)

pub bounds-self-j : goal.bounds-self-j
bounds-self-j c = let w = known-within c.args.self.now c.args.j c.requires in omega (arith, w.started)
