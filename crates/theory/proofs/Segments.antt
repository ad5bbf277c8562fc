-- Segments of a list: from one place up to, not including, another.
use mathlib.Core.Path.{◌≡◌, sym, ap, ◌∙◌}
use mathlib.Core.Bool.{Bool, ◌||◌}
use mathlib.Core.List.{List, [], ◌∷◌, ◌++◌}
use Prim.Native.Nat.{ℕ, zero, suc, ◌+◌, ◌-◌, ◌≤◌, ◌<◌}
use native.Mathlib.Omega.{arith}
use lib.ListN.{length, get_or, take, drop, length-drop}
use lib.Seq.{take-nil, take-take, take-add, drop-drop, get_or-drop}
use Rattle.plan.specs.Lists.{exists, segment}
use Rattle.theory.proofs.Lists.{exists_more}

module _ {A : Type 0} where
  -- an empty segment
  pub segment-none : (l : List A) (a : ℕ) → segment l a a ≡ []
  segment-none l a = let z : a - a ≡ 0 = omega arith in rw z

  -- a segment in two
  pub segment-append : (l : List A) (a b c : ℕ) → a ≤ b → b ≤ c → segment l a c ≡ segment l a b ++ segment l b c
  segment-append l a b c le le' =
      let z : c - a ≡ b - a + (c - b) = omega arith in
      let y : a + (b - a) ≡ b = omega arith in
      rw (z, take-add (b - a) (c - b) (drop a l), drop-drop (b - a) a l, y)

  -- the segments of a list's front are its own
  segment-take : (l : List A) (a k c : ℕ) → a + k ≤ c → take k (drop a (take c l)) ≡ take k (drop a l)
  segment-take l zero k c h = take-take k c l (omega arith)
  segment-take [] (suc a) k c h = rw (take-nil {A = A} c)
  segment-take (x ∷ l) (suc a) k zero h = absurd (omega arith)
  segment-take (x ∷ l) (suc a) k (suc c) h = segment-take l a k c (omega arith)

  -- lists with the same front have the same segments in it
  pub segment-front : (l r : List A) (a b c : ℕ) → a ≤ b → b ≤ c → take c l ≡ take c r → segment l a b ≡ segment r a b
  segment-front l r a b c le le' e =
      sym (segment-take l a (b - a) c (omega arith)) ∙ ap (λ (q : List A). take (b - a) (drop a q)) e ∙ segment-take r a (b - a) c (omega arith)

-- one more element of a segment is tried
pub segment_more : (p : ℕ → Bool) (l : List ℕ) (a k : ℕ) → a ≤ k → k < length l → exists p (segment l a (k + 1)) ≡ (exists p (segment l a k) || p (get_or l k 0))
segment_more p l a k le lt =
    let z : k + 1 - a ≡ k - a + 1 = omega arith in
    let y : a + (k - a) ≡ k = omega arith in
    let e : get_or (drop a l) (k - a) 0 ≡ get_or l k 0 = get_or-drop a l (k - a) 0 ∙ ap (λ (i : ℕ). get_or l i 0) y in
    rw (z, ← e) (exists_more p (drop a l) (k - a) (omega (arith, length-drop a l)))
