-- The nodes that have gone nowhere follow the others in their order; after the paired nodes have gone, each node is where the book says.
use mathlib.Core.Path.{◌≡◌, refl, sym, ap, ◌∙◌}
use mathlib.Core.Logic.{◌≢◌, inl, inr}
use mathlib.Core.Bool.{true, false, not, cond}
use mathlib.Core.List.{List}
use Prim.Native.Nat.{ℕ, ◌+◌, ◌≤◌, ◌<◌}
use native.Mathlib.Omega.{arith}
use lib.Dec.{eqb}
use lib.ListN.{length, get_or, set, length-set}
use lib.Seq.{get_or-set_same, get_or-set_other}
use borrow.Author.Tests.{eq-eqb, ne_eqb}
use Rattle.plan.specs.Lists.{below, is_in, index_of}
use Rattle.plan.specs.Mesh.{max_nodes}
use Rattle.plan.specs.Joining.{Pairing, goes_to}
use Rattle.mesh.specs.Lists.{none}
use Rattle.theory.specs.Pairings.{Paired}
use Rattle.theory.proofs.Bools.{tested, cond_true, cond_false, eq_or_ne}
use Rattle.theory.proofs.Ranges.{length-up_from, is_in-below}
use Rattle.theory.proofs.Counting.{unit, count_le, count_ext, count-below_more}
use Rattle.theory.proofs.JoinedNodes.{unpaired_below, goes_with, goes_unpaired, goes_first}
use Rattle.join.specs.Numbers.{waiting, following}

-- ---- the waiting nodes

module _ (goes : List ℕ) (w : ℕ) where
  -- they are no more than the nodes
  pub waiting_few : waiting goes w ≤ w
  waiting_few = omega (arith, count_le (λ x. eqb (get_or goes x 0) none) (below w), length-up_from w 0)

  -- one node more
  waiting_more : waiting goes (w + 1) ≡ waiting goes w + unit (eqb (get_or goes w 0) none)
  waiting_more = count-below_more (λ x. eqb (get_or goes x 0) none) w

-- each node before node w is where it goes, the others are as found, and `next` is where the next waiting one goes
pub record Followed (n₁ : ℕ) (found left : List ℕ) (next w : ℕ) : Type 0 where
  pub long : length left ≡ length found
  pub counted : next ≡ n₁ + waiting found w
  pub done : (x : ℕ) → x < w → get_or left x 0 ≡ following n₁ found x
  pub rest : (x : ℕ) → w ≤ x → get_or left x 0 ≡ get_or found x 0

-- before the first node
pub followed_none : (n₁ : ℕ) (found : List ℕ) → Followed n₁ found found n₁ 0
followed_none n₁ found = record { long = refl; counted = omega arith; done = λ x l. absurd (omega arith); rest = λ x l. refl }

module _ {n₁ : ℕ} {found left : List ℕ} {next w : ℕ} (h : Followed n₁ found left next w) where
  -- node w waits, and goes
  pub followed_gone : w < length left → get_or left w 0 ≡ none → Followed n₁ found (set left w next) (next + 1) (w + 1)
  followed_gone lt waits =
      let t : eqb (get_or found w 0) none ≡ true = eq-eqb (get_or found w 0) none (sym (h.rest w (omega arith)) ∙ waits) in
      record {
        long = length-set left w next ∙ h.long;
        counted = omega (arith, h.counted, waiting_more found w, ap unit t);
        done = λ x l. elim (eq_or_ne x w) [
          | inl e ↦ rw e (get_or-set_same left w next 0 lt ∙ h.counted ∙ sym (cond_true (eqb (get_or found w 0) none) _ _ t))
          | inr e ↦ get_or-set_other left w x next 0 e ∙ h.done x (omega (arith, e))
        ];
        rest = λ x l. get_or-set_other left w x next 0 (λ e. omega arith) ∙ h.rest x (omega arith);
      }

  -- node w has gone before
  pub followed_kept : get_or left w 0 ≢ none → Followed n₁ found left next (w + 1)
  followed_kept gone =
      let own : get_or left w 0 ≡ get_or found w 0 = h.rest w (omega arith) in
      let f : eqb (get_or found w 0) none ≡ false = ne_eqb (get_or found w 0) none (λ e. gone (own ∙ e)) in
      record {
        long = h.long;
        counted = omega (arith, h.counted, waiting_more found w, ap unit f);
        done = λ x l. elim (eq_or_ne x w) [
          | inl e ↦ rw e (own ∙ sym (cond_false (eqb (get_or found w 0) none) _ _ f))
          | inr e ↦ h.done x (omega (arith, e))
        ];
        rest = λ x l. h.rest x (omega arith);
      }

-- ---- after the paired nodes have gone

module _ (n₁ n₂ : ℕ) (p : Pairing) (h : Paired n₁ n₂ p) (few : n₁ ≤ max_nodes) (goes : List ℕ)
    (paired : (w : ℕ) → w < n₂ → get_or goes w 0 ≡ cond (is_in w p.second) (get_or p.first (index_of w p.second) 0) none) where
  -- a paired one is where it goes
  gone_with : (w : ℕ) → w < n₂ → is_in w p.second ≡ true → get_or goes w 0 ≡ goes_to n₁ p w
  gone_with w lt t = paired w lt ∙ cond_true (is_in w p.second) _ _ t ∙ sym (goes_with n₁ n₂ p w t)

  -- those that wait are the unpaired ones
  waits : (w : ℕ) → w < n₂ → eqb (get_or goes w 0) none ≡ not (is_in w p.second)
  waits w lt = elim (tested (is_in w p.second)) [
    | inl t ↦ rw t (ne_eqb (get_or goes w 0) none (λ e. omega (arith, gone_with w lt t, goes_first n₁ n₂ p h w t)))
    | inr f ↦ rw f (eq-eqb (get_or goes w 0) none (paired w lt ∙ cond_false (is_in w p.second) _ _ f))
  ]

  waiting_unpaired : (w : ℕ) → w ≤ n₂ → waiting goes w ≡ unpaired_below p w
  waiting_unpaired w le = count_ext (λ x. eqb (get_or goes x 0) none) (λ x. not (is_in x p.second)) (below w) (λ x t. waits x (omega (arith, is_in-below w x t)))

  -- so they follow as the book says
  pub following_goes : (w : ℕ) → w < n₂ → following n₁ goes w ≡ goes_to n₁ p w
  following_goes w lt = elim (tested (is_in w p.second)) [
    | inl t ↦ cond_false (eqb (get_or goes w 0) none) _ _ (waits w lt ∙ ap not t) ∙ gone_with w lt t
    | inr f ↦ cond_true (eqb (get_or goes w 0) none) _ _ (waits w lt ∙ ap not f)
        ∙ ap (λ (k : ℕ). n₁ + k) (waiting_unpaired w (omega arith))
        ∙ sym (goes_unpaired n₁ n₂ p w f)
  ]
