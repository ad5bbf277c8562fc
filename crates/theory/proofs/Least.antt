-- The least number that passes a test.
use mathlib.Core.Path.{◌≡◌, sym, ap, ◌∙◌}
use mathlib.Core.Logic.{◌≢◌, ◌⊎◌, inl, inr}
use mathlib.Core.Bool.{Bool, true, false}
use Prim.Native.Nat.{ℕ, ◌+◌, ◌≤◌, zero, suc}
use native.Mathlib.Omega.{arith}
use Rattle.theory.proofs.Bools.{tested, clash, eq_or_ne}

pub record Least (q : ℕ → Bool) : Type 0 where
  pub value : ℕ
  pub passes : q value ≡ true
  pub least : (i : ℕ) → q i ≡ true → value ≤ i

least_from_lem : (q : ℕ → Bool) (d lo : ℕ) → q (lo + d) ≡ true → ((i : ℕ) → q i ≡ true → lo ≤ i) → Least q
least_from_lem q zero lo h low = record { value = lo + zero; passes = h; least = λ i t. omega (arith, low i t) }
least_from_lem q (suc d) lo h low = go (tested (q lo)) (least_from_lem q d (suc lo))
  where
    shift : suc lo + d ≡ lo + suc d
    shift = omega arith

    above : q lo ≡ false → (i : ℕ) → q i ≡ true → (lo ≡ i) ⊎ (lo ≢ i) → suc lo ≤ i
    above e i t (inl s) = clash (q i) t (ap q (sym s) ∙ e)
    above e i t (inr s) = omega (arith, low i t)

    go : (q lo ≡ true) ⊎ (q lo ≡ false) → (q (suc lo + d) ≡ true → ((i : ℕ) → q i ≡ true → suc lo ≤ i) → Least q) → Least q
    go (inl e) f = record { value = lo; passes = e; least = low }
    go (inr e) f = f (rw shift h) (λ i t. above e i t (eq_or_ne lo i))

pub least_of : (q : ℕ → Bool) (j : ℕ) → q j ≡ true → Least q
least_of q j h = least_from_lem q j 0 (rw zero_plus h) (λ i t. omega arith)
  where
    zero_plus : 0 + j ≡ j
    zero_plus = omega arith
