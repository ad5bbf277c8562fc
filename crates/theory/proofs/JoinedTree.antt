-- The elimination tree of the relation `joined_after`.
use mathlib.Core.Path.{◌≡◌, subst}
use mathlib.Core.Logic.{◌⊎◌, inl, inr, ◌≢◌}
use mathlib.Core.Bool.{Bool, true, ◌&&◌}
use Prim.Native.Nat.{ℕ, zero, suc, ◌+◌, ◌≤◌, ◌<◌}
use native.Mathlib.Omega.{arith}
use lib.Dec.{ltb}
use borrow.Author.Tests.{ltb-true, lt-ltb}
use Rattle.theory.proofs.Bools.{and_left, and_right, and_both, eq_or_ne}
use Rattle.theory.proofs.Joined.{joined_after, JoinedAfter, New, joined-start, joined_new, joined-up, Source, joined_source}
use Rattle.theory.proofs.Least.{Least, least_of}

-- row i of column j
pub record Slot (e : ℕ → ℕ → Bool) (i j : ℕ) : Type 0 where
  pub later : j < i
  pub joined : JoinedAfter e j j i

-- p is the first row of column k
pub record Parent (e : ℕ → ℕ → Bool) (p k : ℕ) : Type 0 where
  pub row : Slot e p k
  pub least : (i : ℕ) → Slot e i k → p ≤ i

-- j is met on the way up the parents from a neighbour k < i of i, while below i
pub data Climbed (e : ℕ → ℕ → Bool) (i : ℕ) : ℕ → Type 0 where
  start : {k : ℕ} → k < i → e k i ≡ true → Climbed e i k
  up : {k p : ℕ} → Climbed e i k → Parent e p k → p < i → Climbed e i p

-- two rows i and j of one column k < j
pub record Shared (e : ℕ → ℕ → Bool) (i j : ℕ) : Type 0 where
  pub column : ℕ
  pub low : Slot e j column
  pub high : Slot e i column

-- a column whose first row is j, and which has row i
pub record Child (e : ℕ → ℕ → Bool) (i j : ℕ) : Type 0 where
  pub column : ℕ
  pub first : Parent e j column
  pub high : Slot e i column

module _ (e : ℕ → ℕ → Bool) where
  -- of two rows of a column the later is a row of the earlier's column
  pub slot_clique : (k p i : ℕ) → Slot e p k → Slot e i k → p < i → Slot e i p
  slot_clique k p i r s lt =
      let pair : New (joined_after e k) k p i = record { apart = omega arith; left = r.joined; after_left = r.later; right = s.joined; after_right = s.later } in
      record { later = lt; joined = joined-up e (suc k) p p i r.later (joined_new e k p i pair) }

  -- a row of column j is joined to j at the start, or shares with j an earlier column
  pub slot_source : (i j : ℕ) → Slot e i j → (e j i ≡ true) ⊎ Shared e i j
  slot_source i j s = go (joined_source e j j i s.joined)
    where
      go : (e j i ≡ true) ⊎ Source e j j i → (e j i ≡ true) ⊎ Shared e i j
      go (inl h) = inl h
      go (inr h) =
          let p : New (joined_after e h.at) h.at j i = h.new_pair in
          inr (record {
            column = h.at;
            low = record { later = p.after_left; joined = p.left };
            high = record { later = p.after_right; joined = p.right };
          })

  pub slot_neighbour : (i j : ℕ) → j < i → e j i ≡ true → Slot e i j
  slot_neighbour i j lt h = record { later = lt; joined = joined-up e 0 j j i (omega arith) (joined-start e j i h) }

  test : ℕ → ℕ → Bool
  test k i = ltb k i && joined_after e k k i

  test_slot : (k i : ℕ) → test k i ≡ true → Slot e i k
  unfolding test
  test_slot k i h = record { later = ltb-true k i (and_left (ltb k i) _ h); joined = and_right (ltb k i) _ h }

  slot_test : (k i : ℕ) → Slot e i k → test k i ≡ true
  unfolding test
  slot_test k i s = and_both (ltb k i) _ (lt-ltb k i s.later) s.joined

  -- a column with a row has a first row
  has_parent : (i k : ℕ) → Slot e i k → (p : ℕ) × Parent e p k
  has_parent i k s =
      let l : Least (test k) = least_of (test k) i (slot_test k i s) in
      (l.value, record { row = test_slot k l.value l.passes; least = λ x t. l.least x (slot_test k x t) })

  -- a row of a column is met on the way up from that column
  climb_to : (fuel i j k : ℕ) → j < i → j ≤ k + fuel → Climbed e i k → Slot e j k → Climbed e i j
  climb_to zero i j k lt enough c s = absurd (omega (arith, s.later))
  climb_to (suc fuel) i j k lt enough c s = go (has_parent j k s) (λ p. climb_to fuel i j p)
    where
      rest : (p : ℕ) → Parent e p k → (j < i → j ≤ p + fuel → Climbed e i p → Slot e j p → Climbed e i j) → (p ≡ j) ⊎ (p ≢ j) → Climbed e i j
      rest p q ih (inl same) =
          let c' : Climbed e i p = up c q (omega (arith, q.least j s)) in
          subst (λ x. Climbed e i x) same c'
      rest p q ih (inr apart) =
          let below : p ≤ j = q.least j s in
          let above : k < p = q.row.later in
          ih lt (omega arith) (up c q (omega arith)) (slot_clique k p j q.row s (omega arith))

      go : (p : ℕ) × Parent e p k → ((p : ℕ) → j < i → j ≤ p + fuel → Climbed e i p → Slot e j p → Climbed e i j) → Climbed e i j
      go q ih = rest q.0 q.1 (ih q.0) (eq_or_ne q.0 j)

  climbed_from : (fuel i j : ℕ) → j < fuel → Slot e i j → Climbed e i j
  climbed_from zero i j lt s = absurd (omega arith)
  climbed_from (suc fuel) i j lt s = go (λ k. climbed_from fuel i k) (slot_source i j s)
    where
      go : ((k : ℕ) → k < fuel → Slot e i k → Climbed e i k) → (e j i ≡ true) ⊎ Shared e i j → Climbed e i j
      go ih (inl h) = start s.later h
      go ih (inr h) = climb_to j i j h.column s.later (omega arith) (ih h.column (omega (arith, h.low.later)) h.high) h.low

  -- a column with row i is met by climbing
  pub slot_climbed : (i j : ℕ) → Slot e i j → Climbed e i j
  slot_climbed i j s = climbed_from (suc j) i j (omega arith) s

  child_from_lem : (fuel i j k : ℕ) → j < i → j ≤ k + fuel → Slot e j k → Slot e i k → Child e i j
  child_from_lem zero i j k lt enough low high = absurd (omega (arith, low.later))
  child_from_lem (suc fuel) i j k lt enough low high = go (has_parent j k low) (λ p. child_from_lem fuel i j p)
    where
      rest : (p : ℕ) → Parent e p k → (j < i → j ≤ p + fuel → Slot e j p → Slot e i p → Child e i j) → (p ≡ j) ⊎ (p ≢ j) → Child e i j
      rest p q ih (inl same) = record { column = k; first = subst (λ x. Parent e x k) same q; high = high }
      rest p q ih (inr apart) =
          let below : p ≤ j = q.least j low in
          let above : k < p = q.row.later in
          ih lt (omega arith) (slot_clique k p j q.row low (omega arith)) (slot_clique k p i q.row high (omega arith))

      go : (p : ℕ) × Parent e p k → ((p : ℕ) → j < i → j ≤ p + fuel → Slot e j p → Slot e i p → Child e i j) → Child e i j
      go q ih = rest q.0 q.1 (ih q.0) (eq_or_ne q.0 j)

  -- a row of column j is joined to j at the start, or a row of a column whose first row is j
  pub slot_child : (i j : ℕ) → Slot e i j → (e j i ≡ true) ⊎ Child e i j
  slot_child i j s = go (slot_source i j s)
    where
      go : (e j i ≡ true) ⊎ Shared e i j → (e j i ≡ true) ⊎ Child e i j
      go (inl h) = inl h
      go (inr h) = inr (child_from_lem j i j h.column s.later (omega arith) h.low h.high)

  pub child_slot : (i j : ℕ) → i ≢ j → Child e i j → Slot e i j
  child_slot i j ne c =
      let le : j ≤ i = c.first.least i c.high in
      slot_clique c.column j i c.first.row c.high (omega arith)
