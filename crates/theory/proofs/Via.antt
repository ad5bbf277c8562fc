-- The path theorem for the relation `joined_after`: a and b, both k or later, are joined when the first k have been eliminated exactly when a path
-- leads from a to b over positions before k.
use mathlib.Core.Path.{◌≡◌, subst}
use mathlib.Core.Logic.{◌⊎◌, inl, inr, ◌≢◌}
use mathlib.Core.Bool.{Bool, true}
use Prim.Native.Nat.{ℕ, zero, suc, ◌≤◌, ◌<◌}
use native.Mathlib.Omega.{arith}
use Rattle.theory.proofs.Bools.{eq_or_ne}
use Rattle.theory.proofs.Joined.{joined_after, JoinedAfter, New, joined-start, start-joined, joined_cases, joined-keep, joined_new}

-- a path from a to b along e, every position between before k
pub data Via (e : ℕ → ℕ → Bool) (k : ℕ) : ℕ → ℕ → Type 0 where
  direct : {a b : ℕ} → e a b ≡ true → Via e k a b
  through : {a c b : ℕ} → e a c ≡ true → c < k → Via e k c b → Via e k a b

-- a path over positions before k + 1 avoids k, or falls into two that do
data Split (e : ℕ → ℕ → Bool) (k a b : ℕ) : Type 0 where
  avoids : Via e k a b → Split e k a b
  meets : Via e k a k → Via e k k b → Split e k a b

module _ (e : ℕ → ℕ → Bool) where
  via_up : {k a b : ℕ} → Via e k a b → Via e (suc k) a b
  via_up (direct h) = direct h
  via_up (through h lt v) = through h (omega arith) (via_up v)

  via_join : {k a c b : ℕ} → c < k → Via e k a c → Via e k c b → Via e k a b
  via_join lt (direct h) w = through h lt w
  via_join lt (through h lt' v) w = through h lt' (via_join lt v w)

  via_none : {a b : ℕ} → Via e 0 a b → e a b ≡ true
  via_none (direct h) = h
  via_none (through h lt v) = absurd (omega arith)

  via_split-step : (k a c b : ℕ) → e a c ≡ true → c < suc k → (c ≡ k) ⊎ (c ≢ k) → Split e k c b → Split e k a b
  via_split-step k a c b h lt (inl s) (avoids v) = meets (direct (rw s at h)) (subst (λ x. Via e k x b) s v)
  via_split-step k a c b h lt (inl s) (meets v w) = meets (direct (rw s at h)) w
  via_split-step k a c b h lt (inr s) (avoids v) = avoids (through h (omega arith) v)
  via_split-step k a c b h lt (inr s) (meets v w) = meets (through h (omega arith) v) w

  via_split : (k : ℕ) {a b : ℕ} → Via e (suc k) a b → Split e k a b
  via_split k (direct h) = avoids (direct h)
  via_split k (through {a = a} {c = c} {b = b} h lt v) = via_split-step k a c b h lt (eq_or_ne c k) (via_split k v)

  module _ (mirror : (a b : ℕ) → e a b ≡ true → e b a ≡ true) where
    via_sym : {k a b : ℕ} → Via e k a b → Via e k b a
    via_sym (direct {a = a} {b = b} h) = direct (mirror a b h)
    via_sym (through {a = a} {c = c} h lt v) = via_join lt (via_sym v) (direct (mirror a c h))

    -- what is joined has a path
    pub joined_via : (k a b : ℕ) → JoinedAfter e k a b → Via e k a b
    joined_via zero a b h = direct (start-joined e a b h)
    joined_via (suc k) a b h = go (λ a b. joined_via k a b) (joined_cases e k a b h)
      where
        go : ((a b : ℕ) → JoinedAfter e k a b → Via e k a b) → JoinedAfter e k a b ⊎ New (joined_after e k) k a b → Via e (suc k) a b
        go ih (inl x) = via_up (ih a b x)
        go ih (inr p) = via_join (omega arith) (via_up (via_sym (ih k a p.left))) (via_up (ih k b p.right))

    -- and what has a path is joined
    pub via_joined : (k a b : ℕ) → k ≤ a → k ≤ b → a ≢ b → Via e k a b → JoinedAfter e k a b
    via_joined zero a b la lb ne v = joined-start e a b (via_none v)
    via_joined (suc k) a b la lb ne v = go (λ a b. via_joined k a b) (via_split k v)
      where
        go : ((a b : ℕ) → k ≤ a → k ≤ b → a ≢ b → Via e k a b → JoinedAfter e k a b) → Split e k a b → JoinedAfter e (suc k) a b
        go ih (avoids w) = joined-keep e k a b (ih a b (omega arith) (omega arith) ne w)
        go ih (meets w x) = joined_new e k a b (record {
          apart = ne;
          left = ih k a (omega arith) (omega arith) (omega arith) (via_sym w);
          after_left = la;
          right = ih k b (omega arith) (omega arith) (omega arith) x;
          after_right = lb;
        })
