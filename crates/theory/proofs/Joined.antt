-- Elimination as a relation. `joined_after e k a b`: positions a and b are joined when the first k have been eliminated, where e says which are joined
-- at the start.
use mathlib.Core.Path.{◌≡◌, ap}
use mathlib.Core.Logic.{◌⊎◌, inl, inr, ◌≢◌}
use mathlib.Core.Bool.{Bool, true, not, ◌&&◌, ◌||◌}
use Prim.Native.Nat.{ℕ, zero, suc, ◌≤◌, ◌<◌}
use native.Mathlib.Decide.{le_ind}
use native.Mathlib.Omega.{arith}
use lib.Dec.{eqb, ltb}
use borrow.Author.Tests.{ltb-true, lt-ltb, ne_eqb}
use Rattle.theory.proofs.Bools.{or_cases, or_left, or_right, and_left, and_right, and_both, not_eqb}

-- the pairs that the elimination of k joins
unfoldable pub new : (ℕ → ℕ → Bool) → ℕ → ℕ → ℕ → Bool
new f k a b = not (eqb a b) && ((f k a && ltb k a) && (f k b && ltb k b))

unfoldable pub joined_after : (ℕ → ℕ → Bool) → ℕ → ℕ → ℕ → Bool
unfolding new
joined_after e zero a b = e a b
joined_after e (suc k) a b = joined_after e k a b || new (joined_after e k) k a b

abbrev pub JoinedAfter : (ℕ → ℕ → Bool) → ℕ → ℕ → ℕ → Type 0
JoinedAfter e k a b = joined_after e k a b ≡ true

-- a and b are different, remaining, and both joined to k
pub record New (f : ℕ → ℕ → Bool) (k a b : ℕ) : Type 0 where
  pub apart : a ≢ b
  pub left : f k a ≡ true
  pub after_left : k < a
  pub right : f k b ≡ true
  pub after_right : k < b

new_fact : (f : ℕ → ℕ → Bool) (k a b : ℕ) → new f k a b ≡ true → New f k a b
unfolding new
new_fact f k a b h =
    let x = and_right (not (eqb a b)) _ h in
    let l = and_left (f k a && ltb k a) _ x in
    let r = and_right (f k a && ltb k a) _ x in
    record {
      apart = not_eqb a b (and_left (not (eqb a b)) _ h);
      left = and_left (f k a) _ l;
      after_left = ltb-true k a (and_right (f k a) _ l);
      right = and_left (f k b) _ r;
      after_right = ltb-true k b (and_right (f k b) _ r);
    }

new_test : (f : ℕ → ℕ → Bool) (k a b : ℕ) → New f k a b → new f k a b ≡ true
unfolding new
new_test f k a b p =
    and_both (not (eqb a b)) _ (ap not (ne_eqb a b p.apart))
    (and_both (f k a && ltb k a) _
    (and_both (f k a) _ p.left (lt-ltb k a p.after_left))
    (and_both (f k b) _ p.right (lt-ltb k b p.after_right)))

module _ (e : ℕ → ℕ → Bool) where
  pub joined-start : (a b : ℕ) → e a b ≡ true → JoinedAfter e 0 a b
  unfolding joined_after
  joined-start a b h = h

  pub start-joined : (a b : ℕ) → JoinedAfter e 0 a b → e a b ≡ true
  unfolding joined_after
  start-joined a b h = h

  pub joined_cases : (k a b : ℕ) → JoinedAfter e (suc k) a b → JoinedAfter e k a b ⊎ New (joined_after e k) k a b
  unfolding joined_after
  joined_cases k a b h = go (or_cases (joined_after e k a b) _ h)
    where
      go : (joined_after e k a b ≡ true) ⊎ (new (joined_after e k) k a b ≡ true) → JoinedAfter e k a b ⊎ New (joined_after e k) k a b
      go (inl x) = inl x
      go (inr x) = inr (new_fact (joined_after e k) k a b x)

  pub joined-keep : (k a b : ℕ) → JoinedAfter e k a b → JoinedAfter e (suc k) a b
  unfolding joined_after
  joined-keep k a b h = or_left (joined_after e k a b) _ h

  pub joined_new : (k a b : ℕ) → New (joined_after e k) k a b → JoinedAfter e (suc k) a b
  unfolding joined_after
  joined_new k a b p = or_right (joined_after e k a b) _ (new_test (joined_after e k) k a b p)

  -- what is joined stays joined
  pub joined-up : (k l a b : ℕ) → k ≤ l → JoinedAfter e k a b → JoinedAfter e l a b
  joined-up k l a b le h = le_ind (λ m. JoinedAfter e m a b) h (λ m le' t. joined-keep m a b t) l le

  -- where a join comes from: the start, or an earlier elimination
  pub record Source (k a b : ℕ) : Type 0 where
    pub at : ℕ
    pub before : at < k
    pub new_pair : New (joined_after e at) at a b

  pub joined_source : (k a b : ℕ) → JoinedAfter e k a b → (e a b ≡ true) ⊎ Source k a b
  joined_source zero a b h = inl (start-joined a b h)
  joined_source (suc k) a b h = go (joined_source k a b) (joined_cases k a b h)
    where
      up : (e a b ≡ true) ⊎ Source k a b → (e a b ≡ true) ⊎ Source (suc k) a b
      up (inl x) = inl x
      up (inr s) = inr (record { at = s.at; before = omega (arith, s.before); new_pair = s.new_pair })

      go : (JoinedAfter e k a b → (e a b ≡ true) ⊎ Source k a b) → JoinedAfter e k a b ⊎ New (joined_after e k) k a b → (e a b ≡ true) ⊎ Source (suc k) a b
      go ih (inl x) = up (ih x)
      go ih (inr p) = inr (record { at = k; before = omega arith; new_pair = p })
