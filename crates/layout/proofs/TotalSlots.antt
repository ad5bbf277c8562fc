-- Sums over the first counts, one count more at a time.
use mathlib.Core.Path.{◌≡◌, ap}
use mathlib.Core.List.{List, [], ◌∷◌, ◌++◌, map, map-append}
use Prim.Native.Nat.{ℕ, ◌+◌, ◌*◌, ◌/◌, ◌≤◌, ◌<◌}
use native.Mathlib.Nat.{zero-add, mul-le-mul}
use native.Mathlib.Omega.{arith}
use lib.ListN.{length, take, get_or}
use Rattle.plan.specs.Lists.{total, running_sums}
use Rattle.plan.specs.Elimination.{multiplications}
use Rattle.theory.proofs.Lists.{take_more}
use Rattle.theory.proofs.Sums.{total-append, total_more}

-- the multiplications of a column of c rows
abbrev pub work : ℕ → ℕ
work c = c * (c + 3) / 2

-- a count of 16 bits keeps their double below 33 bits
pub product_few : (c : ℕ) → c < 65536 → c * (c + 3) ≤ 65535 * 65538
product_few c h = mul-le-mul {n₁ = c} {m₁ = c + 3} {n₂ = 65535} {m₂ = 65538} (omega arith) (omega arith)

module _ (l : List ℕ) (j : ℕ) (h : j < length l) where
  -- one element more, in the multiplications
  pub multiplications_more : multiplications (take (j + 1) l) ≡ multiplications (take j l) + work (get_or l j 0)
  unfolding multiplications
  multiplications_more =
      let t = total-append (map work (take j l)) (work (get_or l j 0) ∷ []) in
      rw (take_more l j 0 h, map-append work (take j l) (get_or l j 0 ∷ [])) (omega arith)

  -- in the running sums
  pub sums_more : running_sums 0 (take (j + 1) l) ≡ running_sums 0 (take j l) ++ (total (take (j + 1) l) ∷ [])
  sums_more = rw (total_more l j h, take_more l j 0 h) (rw zero-add at (snoc 0 (take j l) (get_or l j 0)))
    where
      snoc : (a : ℕ) (cs : List ℕ) (c : ℕ) → running_sums a (cs ++ (c ∷ [])) ≡ running_sums a cs ++ ((a + (total cs + c)) ∷ [])
      snoc a [] c = let z : a + (0 + c) ≡ a + c = omega arith in rw z
      snoc a (x ∷ cs) c = let z : a + (x + total cs + c) ≡ a + x + (total cs + c) = omega arith in rw z (ap (λ (t : List ℕ). a ∷ t) (snoc (a + x) cs c))
