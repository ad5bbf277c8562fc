-- Nodes tried one after the other, with a mark for each that was met: none of them stands twice where none is met again.
use mathlib.Core.Path.{◌≡◌, sym, ap, ◌∙◌}
use mathlib.Core.Logic.{◌≢◌, inl, inr}
use mathlib.Core.Bool.{Bool, true, false, ◌||◌, or-false}
use mathlib.Core.List.{List}
use Prim.Native.Nat.{ℕ, ◌+◌, ◌≤◌, ◌<◌}
use native.Mathlib.Omega.{arith}
use lib.Dec.{eqb}
use lib.ListN.{length, get_or, take, set, length-set}
use lib.Seq.{get_or-set_same, get_or-set_other, take_all}
use borrow.Author.Tests.{eq-eqb, ne_eqb}
use Rattle.plan.specs.Lists.{is_in, twice}
use Rattle.plan.specs.Mesh.{max_nodes}
use Rattle.theory.proofs.Bools.{or_right, or_neither, refuted, tested, eq_or_ne}
use Rattle.theory.proofs.Lists.{exists_more}
use Rattle.theory.proofs.Counting.{unit}
use Rattle.theory.proofs.Twice.{twice_more, twice-front}

-- none of the first k nodes stands twice among them; a node's mark is 1 where it is one of them, 0 elsewhere
pub record Seen (nodes marks : List ℕ) (k : ℕ) : Type 0 where
  pub long : length marks ≡ max_nodes
  pub once : twice (take k nodes) ≡ false
  pub marked : (v : ℕ) → v < max_nodes → get_or marks v 0 ≡ unit (is_in v (take k nodes))

module _ (nodes marks : List ℕ) where
  -- all were tried
  pub seen_all : (k : ℕ) → length nodes ≤ k → Seen nodes marks k → twice nodes ≡ false
  seen_all k le h = rw (take_all k nodes le) at h.once

  module _ (k v : ℕ) (lt : k < length nodes) (h : Seen nodes marks k) (own : v ≡ get_or nodes k 0) (few : v < max_nodes) where
    -- one is met again
    pub seen_again : get_or marks v 0 ≢ 0 → twice nodes ≡ true
    seen_again met = elim (tested (is_in v (take k nodes))) [
      | inl t ↦ twice-front nodes (k + 1)
          (twice_more nodes k lt ∙ or_right (twice (take k nodes)) _ (ap (λ (x : ℕ). is_in x (take k nodes)) (sym own) ∙ t))
      | inr t ↦ absurd (met (h.marked v few ∙ ap unit t))
    ]

    -- one more is marked
    pub seen_more : get_or marks v 0 ≡ 0 → Seen nodes (set marks v 1) (k + 1)
    seen_more fresh = record {
      long = length-set marks v 1 ∙ h.long;
      once = twice_more nodes k lt ∙ or_neither (twice (take k nodes)) _ h.once (ap (λ (x : ℕ). is_in x (take k nodes)) (sym own) ∙ new);
      marked = λ w l. elim (eq_or_ne w v) [
        | inl e ↦ ap (λ (x : ℕ). get_or (set marks v 1) x 0) e ∙ get_or-set_same marks v 1 0 (omega (arith, h.long, few))
            ∙ sym (ap unit (more w ∙ or_right (is_in w (take k nodes)) _ (eq-eqb w (get_or nodes k 0) (e ∙ own))))
        | inr e ↦ get_or-set_other marks v w 1 0 e ∙ h.marked w l
            ∙ sym (ap unit (more w ∙ ap (λ (b : Bool). is_in w (take k nodes) || b) (ne_eqb w (get_or nodes k 0) (λ q. e (q ∙ sym own))) ∙ or-false (is_in w (take k nodes))))
      ];
    }
      where
        more : (w : ℕ) → is_in w (take (k + 1) nodes) ≡ (is_in w (take k nodes) || eqb w (get_or nodes k 0))
        more w = exists_more (eqb w) nodes k lt

        new : is_in v (take k nodes) ≡ false
        new = refuted (is_in v (take k nodes)) (λ t. omega (arith, fresh, h.marked v few, ap unit t))
