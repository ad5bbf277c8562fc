-- The fresh nodes: the set at hand, as it stands in the numbers; and lists of nodes that stand ascending.
use mathlib.Core.Path.{◌≡◌, sym, ap, ◌∙◌}
use mathlib.Core.Logic.{◌≢◌, inl, inr}
use mathlib.Core.Bool.{Bool, true, false, not, cond, ◌&&◌, and-true, and-false}
use mathlib.Core.List.{List}
use Prim.Native.Nat.{ℕ, ◌+◌, ◌≤◌, ◌<◌}
use native.Mathlib.Omega.{arith}
use lib.Dec.{eqb}
use lib.ListN.{length, get_or, set}
use lib.Seq.{get_or-set_same, get_or-set_other}
use borrow.Author.Tests.{eqb-true, eqb-false, eq-eqb, ne_eqb}
use Rattle.plan.specs.Lists.{below, is_in, without}
use Rattle.theory.proofs.Bools.{tested, iff_eq}
use Rattle.theory.proofs.Lists.{in_keep, of_keep, is_in-keep, keep_ext, keep-keep}
use Rattle.theory.proofs.Ranges.{is_in-below, below-is_in, length-up_from}
use Rattle.theory.proofs.Ascending.{ascending-few, ascending-kept, ascending_ext}
use Rattle.theory.proofs.Counting.{unit, count_le, count_sum, count-once}
use Rattle.dissection.specs.Numbers.{fresh, fresh_of, Within, Renumbered}

-- nodes that stand ascending below n are at most n
pub within-few : (n : ℕ) (nodes : List ℕ) → Within n nodes → length nodes ≤ n
within-few n nodes w = omega (arith, ascending-few nodes 0 n w.ascends (λ v h. (omega arith, w.inside v h)))

-- a smaller number is not the fresh nodes' one
pub not_fresh : (x : ℕ) → x < fresh → eqb x fresh ≡ false
not_fresh x h = ne_eqb x fresh (λ e. omega arith)

module _ (n : ℕ) (numbers : List ℕ) where
  -- a node is in the set at hand where it is a node and its number is fresh
  pub fresh_is : (v : ℕ) → is_in v (fresh_of n numbers) ≡ (is_in v (below n) && eqb (get_or numbers v 0) fresh)
  fresh_is v = is_in-keep (λ v. eqb (get_or numbers v 0) fresh) (below n) v

  -- a node with the fresh number is in it
  pub in_fresh : (v : ℕ) → v < n → get_or numbers v 0 ≡ fresh → is_in v (fresh_of n numbers) ≡ true
  in_fresh v h e = in_keep (λ v. eqb (get_or numbers v 0) fresh) (below n) v (below-is_in n v h) (eq-eqb (get_or numbers v 0) fresh e)

  -- and a node of it has that number
  pub of_fresh : (v : ℕ) → is_in v (fresh_of n numbers) ≡ true → (v < n) × (get_or numbers v 0 ≡ fresh)
  of_fresh v h =
      let k = of_keep (λ v. eqb (get_or numbers v 0) fresh) (below n) v h in
      (is_in-below n v k.0, eqb-true (get_or numbers v 0) fresh k.1)

  -- it has at most n nodes
  pub fresh-few : length (fresh_of n numbers) ≤ n
  fresh-few = omega (arith, count_le (λ v. eqb (get_or numbers v 0) fresh) (below n), length-up_from n 0)

  -- nodes that stand ascending are the set at hand where they and no others are fresh
  pub fresh-same : (nodes : List ℕ) → Within n nodes → ((v : ℕ) → is_in v nodes ≡ true → get_or numbers v 0 ≡ fresh)
      → ((v : ℕ) → v < n → is_in v nodes ≡ false → get_or numbers v 0 ≢ fresh) → fresh_of n numbers ≡ nodes
  fresh-same nodes w own others =
      ascending_ext (fresh_of n numbers) nodes (ascending-kept (λ v. eqb (get_or numbers v 0) fresh) n) w.ascends
      (λ v. iff_eq _ _ (held v) (λ m. in_fresh v (w.inside v m) (own v m)))
    where
      held : (v : ℕ) → is_in v (fresh_of n numbers) ≡ true → is_in v nodes ≡ true
      held v h =
          let f = of_fresh v h in
          elim (tested (is_in v nodes)) [ inl t ↦ t | inr t ↦ absurd (others v f.0 t f.1) ]

-- a store that numbers a fresh node leaves one fresh node less
pub fresh-less : (n w x : ℕ) (numbers : List ℕ) → w < n → n ≤ length numbers → x < fresh → get_or numbers w 0 ≡ fresh → length (fresh_of n (set numbers w x)) + 1 ≡ length (fresh_of n numbers)
fresh-less n w x numbers lt long small e =
    omega (arith, count_sum (λ v. eqb (get_or numbers v 0) fresh) (λ v. eqb (get_or (set numbers w x) v 0) fresh) (eqb w) (below n) each, count-once n 0 w (omega arith) (omega arith))
  where
    each : (v : ℕ) → unit (eqb (get_or numbers v 0) fresh) ≡ unit (eqb (get_or (set numbers w x) v 0) fresh) + unit (eqb w v)
    each v = elim (tested (eqb w v)) [
      | inl t ↦ rw (t, ← eqb-true w v t, e, get_or-set_same numbers w x 0 (omega arith), not_fresh x small)
      | inr t ↦ rw (t, get_or-set_other numbers w v x 0 (λ q. eqb-false w v t (sym q))) (omega arith)
    ]

-- where the nodes of a list have got a number that is not `fresh`, the fresh nodes are those that are not in the list
pub fresh-without : (n x : ℕ) (taken old new : List ℕ) → x < fresh → Renumbered (λ _. x) taken old new → fresh_of n new ≡ without taken (fresh_of n old)
fresh-without n x taken old new lt r =
    keep_ext (λ v. eqb (get_or new v 0) fresh) (λ v. eqb (get_or old v 0) fresh && not (is_in v taken)) (below n) (λ v m. ap (λ (y : ℕ). eqb y fresh) (r v) ∙ each (is_in v taken) (get_or old v 0))
    ∙ sym (keep-keep (λ v. not (is_in v taken)) (λ v. eqb (get_or old v 0) fresh) (below n))
  where
    each : (b : Bool) (y : ℕ) → eqb (cond b x y) fresh ≡ (eqb y fresh && not b)
    each true y = not_fresh x lt ∙ sym (and-false (eqb y fresh))
    each false y = sym (and-true (eqb y fresh))
