-- What stands in a list after a store, and after stores in its front alone.
use mathlib.Core.Path.{◌≡◌, sym, ap, ap₂, subst, ◌∙◌}
use mathlib.Core.Logic.{◌≢◌, inl, inr}
use mathlib.Core.List.{List, ◌++◌}
use Prim.Native.Nat.{ℕ, ◌≤◌, ◌<◌}
use native.Mathlib.Omega.{arith}
use lib.ListN.{length, take, drop, get_or, set, take-append-drop}
use lib.Seq.{length-take-le, get_or-take, ext_get_or, get_or-set_same, get_or-set_other}
use Rattle.plan.specs.Lists.{written}
use Rattle.theory.proofs.Bools.{eq_or_ne}

-- what is so of the number that is stored, and of those that stood at the other places, is so of each place after the store
pub get_or-set_cases : (P : ℕ → Type 0) (l : List ℕ) (k x i : ℕ) → k < length l → (i ≡ k → P x) → (i ≢ k → P (get_or l i 0)) → P (get_or (set l k x) i 0)
get_or-set_cases P l k x i lt here there = elim (eq_or_ne i k) [
  | inl e ↦ subst P (sym (ap (λ (j : ℕ). get_or (set l k x) j 0) e ∙ get_or-set_same l k x 0 lt)) (here e)
  | inr e ↦ subst P (sym (get_or-set_other l k i x 0 e)) (there e)
]

-- a list with k entries at its front, and as found behind their places
pub written-parts : (k : ℕ) (entries found left : List ℕ) → k ≡ length entries → take k left ≡ entries → drop (length entries) left ≡ drop (length entries) found → left ≡ written entries found
written-parts k entries found left many front behind =
    sym (take-append-drop k left) ∙ ap₂ (λ (a b : List ℕ). a ++ b) front (ap (λ (i : ℕ). drop i left) many ∙ behind)

-- the same, entry by entry
pub written-front : (n : ℕ) (entries found left : List ℕ) → length entries ≡ n → n ≤ length left → ((k : ℕ) → k < n → get_or left k 0 ≡ get_or entries k 0)
    → drop n left ≡ drop n found → left ≡ written entries found
written-front n entries found left many room each rest =
    let long : length (take n left) ≡ n = length-take-le n left room in
    let front : take n left ≡ entries = ext_get_or 0 (take n left) entries (long ∙ sym many) (λ k l. let lk : k < n = omega (arith, long) in get_or-take n left k 0 lk ∙ each k lk) in
    written-parts n entries found left (sym many) front (rw many rest)
