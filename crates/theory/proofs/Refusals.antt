-- The first fault of a list of checks: 0 where no check finds one.
use mathlib.Core.Path.{◌≡◌, refl, ap}
use mathlib.Core.Logic.{◌≢◌}
use mathlib.Core.Bool.{Bool, true, false, not, cond}
use mathlib.Core.List.{[], ◌∷◌, ◌++◌}
use Prim.Native.Nat.{ℕ, suc, ◌<◌}
use native.Mathlib.Omega.{arith}
use lib.Dec.{ltb, eqb}
use borrow.Author.Tests.{ltb-true}
use Rattle.plan.specs.Lists.{every}
use Rattle.plan.specs.declared.refusal.Refusal.{Refusal}
use Rattle.plan.specs.declared.refusal.Refusal.TheVariants as refusal
use Rattle.plan.specs.Refusals.{number_of, refusal_of, Checks, first_fault}
use Rattle.theory.proofs.Bools.{and_left, and_right, not_eqb}

-- no refusal has the number 0
pub number-suc : (r : Refusal) → (k : ℕ) × (number_of r ≡ suc k)
number-suc refusal.NodeCount = (0, refl)
number-suc refusal.Starts = (1, refl)
number-suc refusal.EntryCount = (2, refl)
number-suc refusal.NeighbourOutside = (3, refl)
number-suc refusal.ListsItself = (4, refl)
number-suc refusal.NotAscending = (5, refl)
number-suc refusal.OneSided = (6, refl)
number-suc refusal.BuffersTooShort = (7, refl)
number-suc refusal.RowsTooShort = (8, refl)
number-suc refusal.TooFewBytes = (9, refl)
number-suc refusal.Magic = (10, refl)
number-suc refusal.Version = (11, refl)
number-suc refusal.Header = (12, refl)
number-suc refusal.FileLength = (13, refl)
number-suc refusal.Order = (14, refl)
number-suc refusal.Parts = (15, refl)
number-suc refusal.Rows = (16, refl)
number-suc refusal.RowOutside = (17, refl)
number-suc refusal.NotCovered = (18, refl)
number-suc refusal.Input = (19, refl)
number-suc refusal.PositionOutside = (20, refl)
number-suc refusal.Layout = (21, refl)
number-suc refusal.Text = (22, refl)
number-suc refusal.Matrix = (23, refl)
number-suc refusal.RepeatedPair = (24, refl)
number-suc refusal.TooManyNeighbours = (25, refl)
number-suc refusal.SlotOutside = (26, refl)
number-suc refusal.Unknowns = (27, refl)
number-suc refusal.ManyUnknowns = (28, refl)
number-suc refusal.ValueCount = (29, refl)
number-suc refusal.Pivot = (30, refl)
number-suc refusal.Pairing = (31, refl)
number-suc refusal.PairedTwice = (32, refl)

-- a refusal is the one that its number stands for
pub refusal-of_number : (r : Refusal) → refusal_of (number_of r) ≡ r
refusal-of_number refusal.NodeCount = refl
refusal-of_number refusal.Starts = refl
refusal-of_number refusal.EntryCount = refl
refusal-of_number refusal.NeighbourOutside = refl
refusal-of_number refusal.ListsItself = refl
refusal-of_number refusal.NotAscending = refl
refusal-of_number refusal.OneSided = refl
refusal-of_number refusal.BuffersTooShort = refl
refusal-of_number refusal.RowsTooShort = refl
refusal-of_number refusal.TooFewBytes = refl
refusal-of_number refusal.Magic = refl
refusal-of_number refusal.Version = refl
refusal-of_number refusal.Header = refl
refusal-of_number refusal.FileLength = refl
refusal-of_number refusal.Order = refl
refusal-of_number refusal.Parts = refl
refusal-of_number refusal.Rows = refl
refusal-of_number refusal.RowOutside = refl
refusal-of_number refusal.NotCovered = refl
refusal-of_number refusal.Input = refl
refusal-of_number refusal.PositionOutside = refl
refusal-of_number refusal.Layout = refl
refusal-of_number refusal.Text = refl
refusal-of_number refusal.Matrix = refl
refusal-of_number refusal.RepeatedPair = refl
refusal-of_number refusal.TooManyNeighbours = refl
refusal-of_number refusal.SlotOutside = refl
refusal-of_number refusal.Unknowns = refl
refusal-of_number refusal.ManyUnknowns = refl
refusal-of_number refusal.ValueCount = refl
refusal-of_number refusal.Pivot = refl
refusal-of_number refusal.Pairing = refl
refusal-of_number refusal.PairedTwice = refl

-- of no checks there is none
pub first_nil : first_fault [] ≡ 0
unfolding first_fault
first_nil = refl

-- where there is none, a check found nothing, and neither did those after it
pub no_fault : (k : ℕ) (b : Bool) (cs : Checks) → 0 < k → first_fault ((k, b) ∷ cs) ≡ 0 → (b ≡ false) × (first_fault cs ≡ 0)
unfolding first_fault
no_fault k true cs p h = absurd (omega arith)
no_fault k false cs p h = (refl, h)

-- a check that finds a fault is the first; behind one that finds none the first is to be found
pub fault_here : (k : ℕ) (b : Bool) (cs : Checks) → b ≡ true → first_fault ((k, b) ∷ cs) ≡ k
unfolding first_fault
fault_here k b cs e = rw e

pub fault_later : (k : ℕ) (b : Bool) (cs : Checks) → b ≡ false → first_fault ((k, b) ∷ cs) ≡ first_fault cs
unfolding first_fault
fault_later k b cs e = rw e

-- where a longer list has no fault, neither have those that come first in it
pub no_fault_first : (xs ys : Checks) → first_fault (xs ++ ys) ≡ 0 → first_fault xs ≡ 0
unfolding first_fault
no_fault_first [] ys h = refl
no_fault_first (c ∷ xs) ys h = go c.1 h (no_fault_first xs ys)
  where
    go : (b : Bool) → cond b c.0 (first_fault (xs ++ ys)) ≡ 0 → (first_fault (xs ++ ys) ≡ 0 → first_fault xs ≡ 0) → cond b c.0 (first_fault xs) ≡ 0
    go true h ih = h
    go false h ih = ih h

-- the first fault of checks is that of any longer list of them
pub first_some : (xs ys : Checks) → (first_fault xs ≡ 0 → ⊥) → first_fault (xs ++ ys) ≡ first_fault xs
unfolding first_fault
first_some [] ys h = absurd (h refl)
first_some (c ∷ xs) ys h = go c.1 h (first_some xs ys)
  where
    go : (b : Bool) → (cond b c.0 (first_fault xs) ≡ 0 → ⊥) → ((first_fault xs ≡ 0 → ⊥) → first_fault (xs ++ ys) ≡ first_fault xs) → cond b c.0 (first_fault (xs ++ ys)) ≡ cond b c.0 (first_fault xs)
    go true h ih = refl
    go false h ih = ih h

-- whether the checks have numbers above 0
abbrev pub numbered : Checks → Bool
numbered cs = every (λ (c : ℕ × Bool). ltb 0 c.0) cs

-- where checks find no fault, the first fault is that of the checks behind them
pub first-none : (xs ys : Checks) → numbered xs ≡ true → first_fault xs ≡ 0 → first_fault (xs ++ ys) ≡ first_fault ys
unfolding first_fault
first-none [] ys above h = refl
first-none (c ∷ xs) ys above h =
    let r = no_fault c.0 c.1 xs (ltb-true 0 c.0 (and_left (ltb 0 c.0) _ above)) h in
    rw r.0 (first-none xs ys (and_right (ltb 0 c.0) _ above) r.1)

-- checks behind that find no fault change nothing
pub none-behind : (xs ys : Checks) → first_fault ys ≡ 0 → first_fault (xs ++ ys) ≡ first_fault xs
unfolding first_fault
none-behind [] ys h = h
none-behind (c ∷ xs) ys h = ap (λ (k : ℕ). cond c.1 c.0 k) (none-behind xs ys h)

-- where the checks have numbers below b, so has the first fault
pub fault_below : (b : ℕ) (cs : Checks) → 0 < b → every (λ c. ltb c.0 b) cs ≡ true → first_fault cs < b
unfolding first_fault
fault_below b [] pos h = pos
fault_below b (c ∷ cs) pos h = go c.1 (fault_below b cs pos (and_right (ltb c.0 b) _ h))
  where
    go : (t : Bool) → first_fault cs < b → cond t c.0 (first_fault cs) < b
    go true later = ltb-true c.0 b (and_left (ltb c.0 b) _ h)
    go false later = later

-- a number above 0 that no check has is not the first fault
pub no_such : (cs : Checks) (k : ℕ) → 0 < k → every (λ (c : ℕ × Bool). not (eqb c.0 k)) cs ≡ true → first_fault cs ≢ k
unfolding first_fault
no_such [] k some h e = absurd (omega (arith, e))
no_such (c ∷ cs) k some h e = go c.1 e (no_such cs k some (and_right (not (eqb c.0 k)) _ h))
  where
    go : (b : Bool) → cond b c.0 (first_fault cs) ≡ k → first_fault cs ≢ k → ⊥
    go true e rest = not_eqb c.0 k (and_left (not (eqb c.0 k)) _ h) e
    go false e rest = rest e
