-- Bisection: how many elements of an ascending list are less than x, and so where x would stand in it.
use mathlib.Core.Path.{◌≡◌, sym, ap, ◌∙◌}
use mathlib.Core.Logic.{inl, inr, ◌≢◌}
use mathlib.Core.Bool.{Bool, true, false}
use mathlib.Core.List.{List, [], ◌∷◌}
use Prim.Native.Nat.{ℕ, zero, suc, ◌+◌, ◌≤◌, ◌<◌}
use native.Mathlib.Omega.{arith}
use lib.Dec.{eqb, ltb}
use lib.ListN.{length, get_or}
use borrow.Author.Tests.{eq-eqb, ne_eqb, lt-ltb, le-ltb}
use Rattle.plan.specs.Lists.{is_in, below, ascending}
use Rattle.theory.proofs.Bools.{eq_or_ne, lt_or_le}
use Rattle.theory.proofs.Lists.{none-exists}
use Rattle.theory.proofs.Ranges.{is_in-below}
use Rattle.theory.proofs.Ascending.{ascending_tail, ascending_lt, ascending-get_or}
use Rattle.theory.specs.Counting.{count}
use Rattle.theory.proofs.Counting.{unit, count_cons, count_none}
use Rattle.std.specs.List.Sorted.{IsNonDecreasingBy}
use Rattle.std.proofs.lemmas.List.{get_or_default}
use Rattle.mesh.specs.Lists.{LowerBound}
use Rattle.theory.proofs.Scans.{element_at, found_in, none_in}

-- each element before `low` is less than x, and none from `high` on is
pub record Bracket (l : List ℕ) (x low high : ℕ) : Type 0 where
  pub ordered : low ≤ high
  pub within : high ≤ length l
  pub less : (i : ℕ) → i < low → get_or l i 0 < x
  pub not_less : (i : ℕ) → high ≤ i → i < length l → x ≤ get_or l i 0

-- before the first turn
pub bracket_start : (l : List ℕ) (x : ℕ) → Bracket l x 0 (length l)
bracket_start l x = record { ordered = omega arith; within = omega arith; less = λ i lt. absurd (omega arith); not_less = λ i le lt. absurd (omega arith) }

-- an earlier place holds no greater number
pub no_greater : (l : List ℕ) → ascending l ≡ true → (i j : ℕ) → i ≤ j → j < length l → get_or l i 0 ≤ get_or l j 0
no_greater l h i j le lt = elim (lt_or_le i j) [
  | inl s ↦ omega (arith, ascending-get_or l h i j s lt)
  | inr s ↦ (let e : i ≡ j = omega arith in rw e (omega arith))
]

-- what the library asks of a list that is searched
pub ascending-rises : (l : List ℕ) → ascending l ≡ true → IsNonDecreasingBy (λ y. y) l
ascending-rises l h = λ i j d le lt. rw (get_or_default l i d 0 (omega arith), get_or_default l j d 0 lt) (no_greater l h i j le lt)

module _ (l : List ℕ) (x low high middle : ℕ) (h : ascending l ≡ true) (b : Bracket l x low high) (above : low ≤ middle) (under : middle < high) where
  -- the element in the middle is less: the search goes on behind it
  pub bracket_up : (next : ℕ) → next ≡ middle + 1 → get_or l middle 0 < x → Bracket l x next high
  bracket_up next e lt = record {
    ordered = omega arith;
    within = b.within;
    less = λ i s. omega (arith, no_greater l h i middle (omega arith) (omega (arith, b.within)));
    not_less = b.not_less;
  }

  -- it is not: the search goes on before it
  pub bracket_down : x ≤ get_or l middle 0 → Bracket l x low middle
  bracket_down le = record {
    ordered = above;
    within = omega (arith, b.within);
    less = b.less;
    not_less = λ i s t. omega (arith, no_greater l h middle i s t);
  }

-- the first k elements are less, and the others are not: k are less
pub less-count : (l : List ℕ) (x k : ℕ) → k ≤ length l → ((i : ℕ) → i < k → get_or l i 0 < x) → ((i : ℕ) → k ≤ i → i < length l → x ≤ get_or l i 0) → k ≡ count (λ y. ltb y x) l
less-count [] x k h f g = omega arith
less-count (y ∷ l) x zero h f g =
    omega (
      arith,
      count_cons (λ y. ltb y x) y l,
      ap unit (le-ltb y x (g 0 (omega arith) (omega arith))),
      less-count l x 0 (omega arith) (λ i s. absurd (omega arith)) (λ i s t. g (suc i) (omega arith) (omega arith)),
    )
less-count (y ∷ l) x (suc k) h f g =
    omega (
      arith,
      count_cons (λ y. ltb y x) y l,
      ap unit (lt-ltb y x (f 0 (omega arith))),
      less-count l x k (omega arith) (λ i s. f (suc i) (omega arith)) (λ i s t. g (suc i) (omega arith) (omega arith)),
    )

-- where the two have met, so many are less
pub bracket_met : (l : List ℕ) (x low high : ℕ) → Bracket l x low high → high ≤ low → low ≡ count (λ y. ltb y x) l
bracket_met l x low high b met = less-count l x low (omega (arith, b.ordered, b.within)) b.less (λ i s t. b.not_less i (omega arith) t)

-- an ascending list has those that are less in front: their number is the place
counted_bound : (l : List ℕ) (x : ℕ) → ascending l ≡ true → LowerBound l x (count (λ y. ltb y x) l)
counted_bound [] x h = record { within = omega arith; before = λ i s. absurd (omega arith); from = λ s. absurd (omega arith) }
counted_bound (y ∷ l) x h = elim (lt_or_le y x) [
  | inl s ↦ more s (counted_bound l x (ascending_tail y l h))
  | inr s ↦ none s
]
  where
    p : ℕ → Bool
    p z = ltb z x

    more : y < x → LowerBound l x (count p l) → LowerBound (y ∷ l) x (count p (y ∷ l))
    more s b =
        let e : count p (y ∷ l) ≡ suc (count p l) = omega (arith, count_cons p y l, ap unit (lt-ltb y x s)) in
        rw e (record { within = omega (arith, b.within); before = earlier; from = λ t. b.from (omega arith) })
      where
        earlier : (i : ℕ) → i < suc (count p l) → get_or (y ∷ l) i 0 < x
        earlier zero t = s
        earlier (suc i) t = b.before i (omega arith)

    none : x ≤ y → LowerBound (y ∷ l) x (count p (y ∷ l))
    none s =
        let e : count p (y ∷ l) ≡ 0 =
        omega (
          arith,
          count_cons p y l,
          ap unit (le-ltb y x s),
          count_none p l (λ z m. le-ltb z x (omega (arith, ascending_lt y l h z m))),
        ) in
        rw e (record { within = omega arith; before = λ i t. absurd (omega arith); from = λ t. s })

-- what `lower_bound` promises
pub less-bound : (l : List ℕ) (x k : ℕ) → ascending l ≡ true → k ≡ count (λ y. ltb y x) l → LowerBound l x k
less-bound l x k h e = rw e (counted_bound l x h)

module _ (l : List ℕ) (x k : ℕ) (h : ascending l ≡ true) (b : LowerBound l x k) where
  -- where x is not at its place, it is nowhere
  pub place_none : (k < length l → get_or l k 0 ≢ x) → is_in x l ≡ false
  place_none other = none_in (eqb x) l (length l) (omega arith) (none-exists (element_at (eqb x) l) (below (length l)) (λ i m. ne_eqb x (get_or l i 0) (each i (is_in-below (length l) i m))))
    where
      each : (i : ℕ) → i < length l → x ≢ get_or l i 0
      each i lt e = elim (lt_or_le i k) [
        | inl s ↦ omega (arith, b.before i s)
        | inr s ↦ elim (eq_or_ne k i) [
          | inl t ↦ other (omega arith) (rw t (omega arith))
          | inr t ↦ omega (arith, b.from (omega arith), ascending-get_or l h k i (omega arith) lt)
        ]
      ]

  -- so x is in the list exactly when it is there
  pub place_in : k < length l → eqb (get_or l k 0) x ≡ is_in x l
  place_in lt = elim (eq_or_ne (get_or l k 0) x) [
    | inl e ↦ eq-eqb (get_or l k 0) x e ∙ sym (found_in (eqb x) l k lt (eq-eqb x (get_or l k 0) (sym e)))
    | inr e ↦ ne_eqb (get_or l k 0) x e ∙ sym (place_none (λ s. e))
  ]
