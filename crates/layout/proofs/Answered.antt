-- Columns of a layout that a question has found no fault in, and the answers to the question about a column.
use mathlib.Core.Path.{◌≡◌, refl, sym, ap, ◌∙◌}
use mathlib.Core.Logic.{◌≢◌}
use mathlib.Core.Bool.{true}
use mathlib.Core.List.{List, [], ◌∷◌}
use Prim.Native.Nat.{ℕ, zero, suc, ◌+◌, ◌-◌, ◌*◌, ◌≤◌, ◌<◌}
use native.Mathlib.Numerals.{add-one}
use native.Mathlib.Omega.{arith}
use lib.ListN.{length, get_or}
use Rattle.plan.specs.Lists.{list_at, ascending}
use Rattle.plan.specs.Mesh.{max_nodes}
use Rattle.plan.specs.declared.refusal.Refusal.{Refusal}
use Rattle.plan.specs.Refusals.{number_of, first_fault}
use Rattle.plan.specs.Answers.{refused}
use Rattle.plan.specs.Questions.{layout_checks, pair_question, column_refusal, span_found, column_span, slot_question}
use Rattle.theory.proofs.Refusals.{number-suc}
use Rattle.theory.proofs.Lists.{is_in-head}
use Rattle.theory.proofs.Checked.{node_count, good-starts}
use Rattle.theory.proofs.Ascending.{ascending-few}
use Rattle.theory.proofs.Asked.{GoodLayout, good_layout, layout_fault, good_question}
use Rattle.theory.proofs.SlotsAndPairs.{column-kept, pair_layout, slot_layout}
use Rattle.mesh.specs.Lists.{ListWithin}
use Rattle.layout.specs.declared.checked.CheckedLayout.{CheckedLayout}
use Rattle.mesh.proofs.Lists.{good-starts-within, list_long}

-- a column of a layout without a fault lies within the rows, and ascends
module _ (n : ℕ) (column_starts rows : List ℕ) (g : GoodLayout n column_starts rows) (j : ℕ) (lt : j < n) where
  pub good-within : ListWithin column_starts rows j
  good-within = good-starts-within n column_starts rows g.starts g.last j lt

  pub good-ascends : ascending (list_at column_starts rows j) ≡ true
  good-ascends = (column-kept n column_starts rows g j lt).0

-- such a layout has at most 4,096 columns with fewer rows each, so that a slot's number has 32 bits
module _ (n : ℕ) (column_starts rows : List ℕ) (g : GoodLayout n column_starts rows) where
  pub starts-few : (j : ℕ) → j ≤ n → get_or column_starts j 0 ≤ max_nodes * j
  starts-few zero le = omega (arith, (good-starts n column_starts g.starts).zero_first)
  starts-few (suc j) le =
      let lt : j < n = omega arith in
      let kept = column-kept n column_starts rows g j lt in
      let w = good-within n column_starts rows g j lt in
      let next : get_or column_starts (j + 1) 0 ≤ max_nodes * (j + 1) = omega (
        arith,
        starts-few j (omega arith),
        w.ordered,
        list_long column_starts rows j w,
        ascending-few (list_at column_starts rows j) j n kept.0 (λ i m. (omega (arith, kept.1 i m), omega (arith, kept.1 i m))),
        node_count n g.count,
      ) in
      rw add-one at next

-- so it is of a layout that the code has checked
pub known-good : (l : CheckedLayout) → GoodLayout l.n l.column_starts.now l.rows.now
known-good l = good_layout l.n l.column_starts.now l.rows.now l.checked

module _ (l : CheckedLayout) (j : ℕ) (lt : j < l.n) where
  pub known-within : ListWithin l.column_starts.now l.rows.now j
  known-within = good-within l.n l.column_starts.now l.rows.now (known-good l) j lt

  pub known-few : get_or l.column_starts.now (j + 1) 0 ≤ max_nodes * max_nodes
  known-few = omega (arith, starts-few l.n l.column_starts.now l.rows.now (known-good l) (j + 1) (omega arith), node_count l.n (known-good l).count)

  pub known-ascends : ascending (list_at l.column_starts.now l.rows.now j) ≡ true
  known-ascends = good-ascends l.n l.column_starts.now l.rows.now (known-good l) j lt

-- a refusal of the layout is the question's
module _ (n : ℕ) (column_starts rows : List ℕ) (r : Refusal) (h : number_of r ≡ first_fault (layout_checks n column_starts rows)) where
  some_fault : first_fault (layout_checks n column_starts rows) ≢ 0
  some_fault z = let s = number-suc r in absurd (omega (arith, s.1, h, z))

  pub column_passed_on : (j : ℕ) → number_of r ≡ column_refusal n column_starts rows j
  unfolding column_refusal
  column_passed_on j = h ∙ sym (layout_fault n column_starts rows (j ∷ []) some_fault)

  pub pair_passed_on : (a b : ℕ) → refused (number_of r) ≡ pair_question n column_starts rows a b
  pair_passed_on a b = sym (pair_layout n column_starts rows a b (number_of r) h (λ z. some_fault (sym h ∙ z)))

  pub slot_passed_on : (s : ℕ) → refused (number_of r) ≡ slot_question n column_starts rows s
  slot_passed_on s = sym (slot_layout n column_starts rows s (number_of r) h (λ z. some_fault (sym h ∙ z)))

module _ (n : ℕ) (column_starts rows : List ℕ) (j : ℕ) where
  -- it is not refused: j is a column of a layout without a fault
  pub column-asked : column_refusal n column_starts rows j ≡ 0 → GoodLayout n column_starts rows × (j < n)
  unfolding column_refusal
  column-asked h =
      let q = good_question n column_starts rows (j ∷ []) h in
      (good_layout n column_starts rows q.0, q.1 j (is_in-head j []))

  -- so j is a small number, and column j lies within the rows
  pub column_there : column_refusal n column_starts rows j ≡ 0 → (j < max_nodes) × ListWithin column_starts rows j
  column_there h =
      let k = column-asked h in
      (omega (arith, k.1, node_count n k.0.count), good-within n column_starts rows k.0 j k.1)

  -- the span where it is refused, and where it is not
  pub span_refused : ◌≢◌ {A = ℕ} (column_refusal n column_starts rows j) 0 → column_span n column_starts rows j ≡ record { start = 0; count = 0 }
  unfolding column_span span_found
  span_refused = go (column_refusal n column_starts rows j)
    where
      go : (k : ℕ) → ◌≢◌ {A = ℕ} k 0 → span_found k column_starts j ≡ record { start = 0; count = 0 }
      go zero ne = absurd (ne refl)
      go (suc k) ne = refl

  pub span_found_lem : column_refusal n column_starts rows j ≡ 0 → column_span n column_starts rows j ≡ record { start = get_or column_starts j 0; count = get_or column_starts (j + 1) 0 - get_or column_starts j 0 }
  unfolding column_span span_found
  span_found_lem h = ap (λ (k : ℕ). span_found k column_starts j) h

  -- in either case it lies within the rows
  pub span_within : (column_span n column_starts rows j).start + (column_span n column_starts rows j).count ≤ length rows
  unfolding column_span span_found
  span_within = go (column_refusal n column_starts rows j) (λ h. (column_there h).1)
    where
      go : (k : ℕ) → (k ≡ 0 → ListWithin column_starts rows j) → (span_found k column_starts j).start + (span_found k column_starts j).count ≤ length rows
      go zero within = omega (arith, (within refl).ordered, (within refl).ended)
      go (suc k) within = omega arith
