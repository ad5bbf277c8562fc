-- E8: what both buffers hold, finished or refused, and that the pivots stand on the diagonal at the end.
use mathlib.Core.Path.{◌≡◌, refl, ap, ◌∙◌}
use mathlib.Core.Logic.{◌≢◌, ◌⊎◌, inl, inr}
use mathlib.Core.Bool.{Bool, true, false, cond}
use mathlib.Core.List.{List}
use Prim.Native.Nat.{ℕ, zero, suc, ◌+◌, ◌≤◌, ◌<◌}
use native.Mathlib.Omega.{arith}
use lib.ListN.{get_or}
use lib.Ieee.{Float, nan}
use lib.Ieee.Positive.{positive}
use Rattle.plan.specs.declared.Report.{Report}
use Rattle.plan.specs.Refusals.{first_fault}
use Rattle.plan.specs.Planning.{Contents}
use Rattle.plan.specs.File.{contents_checks}
use Rattle.plan.specs.Writing.{used, supplied_checks}
use Rattle.plan.specs.Filling.{Filling}
use Rattle.plan.specs.Factoring.{factor_column, column_operations, zero_report, open_report, after_column, FactorOutcome, not_factored, factor_from, factor_checks, factor_out, factoring}
use Rattle.plan.specs.FactorStatements.{columns_done, after_columns, HoldsReached, EndsOrStops, StopsAtPivot, RefusalReportsNothing, RefusalLeavesBoth, PivotsStand}
use Rattle.theory.specs.Covering.{Covering}
use Rattle.theory.proofs.Bools.{eq_or_ne}
use Rattle.theory.proofs.Refusals.{no_such}
use Rattle.theory.proofs.Factoring.{supplied_covering, factor_passed}
use Rattle.theory.proofs.FactorHeld.{column-diagonal}

-- ---- the columns from j on

-- what they leave: as after the worked ones
pub from-reached : (starts rows : List ℕ) (left j : ℕ) (r : Report) (f : Filling)
    → (factor_from starts rows j left r f).filling ≡ after_columns starts rows j (columns_done starts rows j left f) f
unfolding factor_from columns_done after_columns
from-reached starts rows zero j r f = refl
from-reached starts rows (suc left) j r f = go (positive d) (from-reached starts rows left (suc j) (after_column r d (column_operations starts j)) (factor_column starts rows j d f))
  where
    d : Float
    d = get_or f.diagonal j nan

    g : Filling
    g = factor_column starts rows j d f

    next : FactorOutcome
    next = factor_from starts rows (suc j) left (after_column r d (column_operations starts j)) g

    go : (b : Bool) → next.filling ≡ after_columns starts rows (suc j) (columns_done starts rows (suc j) left g) g
        → (cond b next (not_factored 31 f)).filling ≡ after_columns starts rows j (cond b (suc (columns_done starts rows (suc j) left g)) 0) f
    go true ih = ih
    go false ih = refl

-- what they answer: 0 where all are worked, and else 31, with no report and no pivot next
pub record Ended (starts rows : List ℕ) (left j : ℕ) (f : Filling) (o : FactorOutcome) : Type 0 where
  pub all : o.answer.refusal ≡ 0 → columns_done starts rows j left f ≡ left
  pub refused : o.answer.refusal ≢ 0 → (o.answer.refusal ≡ 31) × (o.answer.report ≡ zero_report) × (columns_done starts rows j left f < left)
      × (positive (get_or o.filling.diagonal (j + columns_done starts rows j left f) nan) ≡ false)

pub from-ended : (starts rows : List ℕ) (left j : ℕ) (r : Report) (f : Filling) → Ended starts rows left j f (factor_from starts rows j left r f)
unfolding factor_from columns_done
from-ended starts rows zero j r f = record { all = λ e. refl; refused = λ ne. absurd (ne refl) }
from-ended starts rows (suc left) j r f = go (positive d) refl (from-ended starts rows left (suc j) (after_column r d (column_operations starts j)) g)
  where
    d : Float
    d = get_or f.diagonal j nan

    g : Filling
    g = factor_column starts rows j d f

    next : FactorOutcome
    next = factor_from starts rows (suc j) left (after_column r d (column_operations starts j)) g

    go : (b : Bool) → positive d ≡ b → Ended starts rows left (suc j) g next → Ended starts rows (suc left) j f (cond b next (not_factored 31 f))
    go true p h =
        let later : ℕ = columns_done starts rows (suc j) left g in
        let done : columns_done starts rows j (suc left) f ≡ suc later = rw p in
        let at : j + suc later ≡ suc j + later = omega arith in
        record {
          all = λ e. done ∙ ap suc (h.all e);
          refused = λ ne. let q = h.refused ne in (q.0, q.1, omega (arith, done, q.2), rw (done, at) q.3);
        }
    go false p h =
        let done : columns_done starts rows j (suc left) f ≡ 0 = rw p in
        let at : j + 0 ≡ j = omega arith in
        record {
          all = λ e. absurd (omega (arith, e));
          refused = λ ne. (refl, refl, omega (arith, done), rw (done, at) p);
        }

-- ---- factoring, whole

module _ (c : Contents) (f : Filling) where
  abbrev starts : List ℕ
  starts = (used c).column_starts

  abbrev rows : List ℕ
  rows = (used c).rows

  -- by the first fault: 0, and the columns are gone through, or a refusal
  out : (P : FactorOutcome → Type 0) → (first_fault (factor_checks c f) ≡ 0 → P (factor_from starts rows 0 c.nodes open_report f))
      → ((k : ℕ) → first_fault (factor_checks c f) ≡ suc k → P (not_factored (suc k) f)) → P (factoring c f)
  unfolding factoring factor_out
  out P none some = go (first_fault (factor_checks c f)) refl
    where
      go : (k : ℕ) → first_fault (factor_checks c f) ≡ k → P (factor_out k c f)
      go zero e = none e
      go (suc k) e = some k e

  ended : Ended starts rows c.nodes 0 f (factor_from starts rows 0 c.nodes open_report f)
  ended = from-ended starts rows c.nodes 0 open_report f

-- "on a refused pivot the value buffers hold what the definition has reached before dividing by it"
pub holds-reached : HoldsReached
holds-reached c f none =
    out c f (λ o. o.filling ≡ after_columns (starts c f) (rows c f) 0 (columns_done (starts c f) (rows c f) 0 c.nodes f) f)
    (λ e. from-reached (starts c f) (rows c f) c.nodes 0 open_report f)
    (λ k e. absurd (omega (arith, none, e)))

-- "On every refusal the report is all zeros"
pub refusal_reports_nothing : RefusalReportsNothing
refusal_reports_nothing c f =
    out c f (λ o. o.answer.refusal ≢ 0 → o.answer.report ≡ zero_report)
    (λ e ne. ((ended c f).refused ne).1)
    (λ k e ne. refl)

-- a refusal other than 31 leaves both buffers as found
pub refusal_leaves_both : RefusalLeavesBoth
refusal_leaves_both c f =
    out c f (λ o. o.answer.refusal ≢ 0 → o.answer.refusal ≢ 31 → o.filling ≡ f)
    (λ e ne other. absurd (other ((ended c f).refused ne).0))
    (λ k e ne other. refl)

-- no check before the first column has number 31
not_a_check : (c : Contents) (f : Filling) → first_fault (factor_checks c f) ≢ 31
unfolding factor_checks supplied_checks contents_checks
not_a_check c f = no_such (factor_checks c f) 31 (omega arith) refl

-- where no check finds a fault, 0 is answered where all columns are worked, and 31 where not
pub ends_or_stops : EndsOrStops
ends_or_stops c f none =
    let m : ℕ = columns_done (starts c f) (rows c f) 0 c.nodes f in
    let at : 0 + m ≡ m = omega arith in
    out c f (λ o. ((m ≡ c.nodes) × (o.answer.refusal ≡ 0)) ⊎ ((m < c.nodes) × (o.answer.refusal ≡ 31) × (positive (get_or o.filling.diagonal m nan) ≡ false)))
    (λ e. elim (eq_or_ne (factor_from (starts c f) (rows c f) 0 c.nodes open_report f).answer.refusal 0) [
      | inl z ↦ inl ((ended c f).all z, z)
      | inr ne ↦ (let q = (ended c f).refused ne in inr (q.2, q.0, rw at at q.3))
    ])
    (λ k e. absurd (omega (arith, none, e)))

-- 31 is answered only there
pub stops_at_pivot : StopsAtPivot
stops_at_pivot c f =
    out c f (λ o. o.answer.refusal ≡ 31 → first_fault (factor_checks c f) ≡ 0)
    (λ e h. e)
    (λ k e h. absurd (not_a_check c f (e ∙ h)))

-- ---- the pivots

module _ (n : ℕ) (starts rows : List ℕ) (h : Covering n starts rows) where
  -- the columns from j on leave the diagonal before j
  after_diagonal : (m j : ℕ) → j + m ≤ n → (f : Filling) (i : ℕ) → i < j → get_or (after_columns starts rows j m f).diagonal i nan ≡ get_or f.diagonal i nan
  unfolding after_columns
  after_diagonal zero j room f i lt = refl
  after_diagonal (suc m) j room f i lt =
      after_diagonal m (suc j) (omega arith) (factor_column starts rows j (get_or f.diagonal j nan) f) i (omega arith)
      ∙ column-diagonal n starts rows h j (omega arith) (get_or f.diagonal j nan) f i (omega arith)

  -- and so does column j, so that the pivot of a later column i is there at the end as it is reached
  after_pivot : (m i j : ℕ) → i < m → j + m ≤ n → (f : Filling)
      → get_or (after_columns starts rows j m f).diagonal (j + i) nan ≡ get_or (after_columns starts rows j i f).diagonal (j + i) nan
  unfolding after_columns
  after_pivot zero i j lt room f = absurd (omega arith)
  after_pivot (suc m) zero j lt room f =
      let same : j + 0 ≡ j = omega arith in
      rw same
      (after_diagonal m (suc j) (omega arith) (factor_column starts rows j (get_or f.diagonal j nan) f) j (omega arith)
      ∙ column-diagonal n starts rows h j (omega arith) (get_or f.diagonal j nan) f j (omega arith))
  after_pivot (suc m) (suc i) j lt room f =
      let same : j + suc i ≡ suc j + i = omega arith in
      rw same (after_pivot m i (suc j) (omega arith) (omega arith) (factor_column starts rows j (get_or f.diagonal j nan) f))

-- "the smallest and the largest pivot": the number by which a column is divided stands on the diagonal at the end
pub pivots_stand : PivotsStand
pivots_stand c f j finished lt =
    out c f (λ o. o.answer.refusal ≡ 0 → get_or o.filling.diagonal j nan ≡ get_or (after_columns (starts c f) (rows c f) 0 j f).diagonal j nan)
    (λ e h.
    let plan : Covering c.nodes (starts c f) (rows c f) = supplied_covering c (factor_passed c f e).supplied in
    let zero-less : 0 + j ≡ j = omega arith in
    ap (λ (g : Filling). get_or g.diagonal j nan) (from-reached (starts c f) (rows c f) c.nodes 0 open_report f ∙ ap (λ (m : ℕ). after_columns (starts c f) (rows c f) 0 m f) ((ended c f).all h))
    ∙ rw zero-less at (after_pivot c.nodes (starts c f) (rows c f) plan c.nodes j 0 lt (omega arith) f))
    (λ k e h. absurd (omega (arith, h)))
    finished
