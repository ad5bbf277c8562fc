-- Nodes that get new numbers, and the loop that gives them. One relation serves every such loop: the first i nodes have theirs, the others the
-- numbers that they had.
use mathlib.Core.Path.{◌≡◌, refl, sym, ap, ◌∙◌}
use mathlib.Core.Logic.{inl, inr, ◌≢◌}
use mathlib.Core.Bool.{true, false, cond, or-false}
use mathlib.Core.List.{List}
use Prim.Native.Nat.{ℕ, ◌+◌, ◌≤◌, ◌<◌}
use native.Mathlib.Omega.{arith}
use lib.Dec.{eqb}
use lib.ListN.{length, take, get_or, set, length-set}
use lib.Seq.{take_all, get_or-set_same, get_or-set_other}
use borrow.Author.Tests.{ne_eqb}
use Rattle.plan.specs.Lists.{is_in, ascending}
use Rattle.theory.proofs.Bools.{or_right, refuted, cond_true, cond_false, eqb_same, eq_or_ne}
use Rattle.theory.proofs.Lists.{is_in-get_or, exists_more}
use Rattle.theory.proofs.Ascending.{front_less}
use Rattle.dissection.specs.Numbers.{Within, Only, NumberedBy, Renumbered}

-- a node of the list has the number that f makes of its old one
pub renumbered_in : (f : ℕ → ℕ) (nodes old new : List ℕ) → Renumbered f nodes old new → (v : ℕ) → is_in v nodes ≡ true → get_or new v 0 ≡ f (get_or old v 0)
renumbered_in f nodes old new h v t = h v ∙ cond_true (is_in v nodes) (f (get_or old v 0)) (get_or old v 0) t

-- every other node has the number that it had
pub renumbered_out : (f : ℕ → ℕ) (nodes old new : List ℕ) → Renumbered f nodes old new → (v : ℕ) → is_in v nodes ≡ false → get_or new v 0 ≡ get_or old v 0
renumbered_out f nodes old new h v t = h v ∙ cond_false (is_in v nodes) (f (get_or old v 0)) (get_or old v 0) t

-- and the nodes outside stay outside
pub renumbered_only : (n : ℕ) (f : ℕ → ℕ) (nodes old new : List ℕ) → Renumbered f nodes old new → Only n nodes old → Only n nodes new
renumbered_only n f nodes old new h only v lt o = renumbered_out f nodes old new h v o ∙ only v lt o

-- ---- the loop

-- the first i nodes have their new numbers
pub record Renumbering (number : ℕ → ℕ) (nodes old : List ℕ) (i : ℕ) (new : List ℕ) : Type 0 where
  pub long : length new ≡ length old
  pub front : NumberedBy number (take i nodes) old new

-- nothing yet
pub renumbering_none : (number : ℕ → ℕ) (nodes old : List ℕ) → Renumbering number nodes old 0 old
renumbering_none number nodes old = record { long = refl; front = λ v. refl }

module _ {number : ℕ → ℕ} {nodes old : List ℕ} {i : ℕ} {new : List ℕ} (r : Renumbering number nodes old i new) where
  -- the next node has a number
  pub renumbering_inside : {v : ℕ} → v ≡ get_or nodes i 0 → i < length nodes → ((w : ℕ) → is_in w nodes ≡ true → w < length old) → v < length new
  renumbering_inside e lt inside = omega (arith, e, inside (get_or nodes i 0) (is_in-get_or nodes i 0 lt), r.long)

  -- in an ascending list it is the old one
  pub renumbering_next : i < length nodes → ascending nodes ≡ true → get_or new (get_or nodes i 0) 0 ≡ get_or old (get_or nodes i 0) 0
  renumbering_next lt h =
      r.front (get_or nodes i 0)
      ∙ cond_false _ _ _ (refuted (is_in (get_or nodes i 0) (take i nodes)) (λ m. omega (arith, front_less nodes h i (get_or nodes i 0) lt m)))

  -- one more node
  pub renumbering_more : {v : ℕ} → v ≡ get_or nodes i 0 → i < length nodes → ((w : ℕ) → is_in w nodes ≡ true → w < length old) → (x : ℕ) → x ≡ number (get_or nodes i 0)
      → Renumbering number nodes old (i + 1) (set new v x)
  renumbering_more same lt inside x e =
      rw same (record {
        long = length-set new (get_or nodes i 0) x ∙ r.long;
        front = λ v. elim (eq_or_ne v (get_or nodes i 0)) [ inl s ↦ at v s | inr s ↦ off v s ];
      })
    where
      at : (v : ℕ) → v ≡ get_or nodes i 0 → get_or (set new (get_or nodes i 0) x) v 0 ≡ cond (is_in v (take (i + 1) nodes)) (number v) (get_or old v 0)
      at v s =
          rw s
          (get_or-set_same new (get_or nodes i 0) x 0 (renumbering_inside refl lt inside)
          ∙ e
          ∙ sym (cond_true _ _ _
          (exists_more (eqb (get_or nodes i 0)) nodes i lt
          ∙ or_right (is_in (get_or nodes i 0) (take i nodes)) (eqb (get_or nodes i 0) (get_or nodes i 0)) (eqb_same (get_or nodes i 0)))))

      off : (v : ℕ) → v ≢ get_or nodes i 0 → get_or (set new (get_or nodes i 0) x) v 0 ≡ cond (is_in v (take (i + 1) nodes)) (number v) (get_or old v 0)
      off v s =
          rw (get_or-set_other new (get_or nodes i 0) v x 0 s, exists_more (eqb v) nodes i lt, ne_eqb v (get_or nodes i 0) s, or-false (is_in v (take i nodes))) (r.front v)

  -- all of them
  pub renumbering_all : length nodes ≤ i → NumberedBy number nodes old new
  renumbering_all le v = rw (take_all i nodes le) at (r.front v)

-- one more node of an ascending list, where f makes the new number of the one that stands
pub renumbering_each : (f : ℕ → ℕ) {nodes old : List ℕ} {i : ℕ} {new : List ℕ} → Renumbering (λ u. f (get_or old u 0)) nodes old i new
    → {v x : ℕ} → v ≡ get_or nodes i 0 → i < length nodes → Within (length old) nodes → x ≡ f (get_or new v 0) → Renumbering (λ u. f (get_or old u 0)) nodes old (i + 1) (set new v x)
renumbering_each f {nodes} {old} {i} {new} r {v} {x} same lt within e =
    renumbering_more r same lt within.inside x (e ∙ ap (λ (u : ℕ). f (get_or new u 0)) same ∙ ap f (renumbering_next r lt within.ascends))
