-- Levels by number: level 0 is the root, and each next one is every node of the region next to the last level and in no earlier one.
use mathlib.Core.Path.{◌≡◌, refl, sym, ap, ap₂, ◌∙◌}
use mathlib.Core.Bool.{Bool, true, false, not, ◌&&◌}
use mathlib.Core.List.{reverse_aux, reverse, List, [], ◌∷◌, head_d, flatten}
use Prim.Native.Nat.{ℕ, zero, suc, ◌-◌, ◌<◌, max}
use native.Mathlib.Omega.{arith}
use lib.ListN.{length, get_or, take, drop, length-reverse}
use lib.Seq.{drop-cons}
use borrow.Author.Tests.{not-true}
use Rattle.plan.specs.Lists.{exists, keep, is_in}
use Rattle.plan.specs.Levels.{Graph, next_level, levels_back, levels, widest}
use Rattle.theory.proofs.Bools.{and_left, and_right}
use Rattle.theory.proofs.Lists.{of_keep, keep_ext, Kept, take-reverse, get_d_reverse}
use Rattle.theory.proofs.Flatten.{is_in-flatten-reverse}
use Rattle.theory.proofs.Levels.{Levelled, first, after, levelled}

-- ---- the widest of them

widest-reverse_onto : (ls acc : List (List ℕ)) → widest (reverse_aux ls acc) ≡ max (widest ls) (widest acc)
unfolding widest
widest-reverse_onto [] acc = omega arith
widest-reverse_onto (l ∷ ls) acc = omega (arith, widest-reverse_onto ls (l ∷ acc))

-- it does not matter which way round they stand
pub widest-reverse : (ls : List (List ℕ)) → widest (reverse ls) ≡ widest ls
unfolding widest
widest-reverse ls = omega (arith, widest-reverse_onto ls [])

module _ (edge : Graph) (region : List ℕ) (root : ℕ) where
  -- ---- the last one first: number i of them is level ℓ - i

  -- there is a level
  some-levels : {ls : List (List ℕ)} → Levelled edge region root ls → 0 < length ls
  some-levels first = omega arith
  some-levels (after v e some) = omega arith

  -- the last of them is the root
  first_back : {ls : List (List ℕ)} → Levelled edge region root ls → (i : ℕ) → suc i ≡ length ls → get_or ls i [] ≡ root ∷ []
  first_back first zero h = refl
  first_back first (suc i) h = absurd (omega arith)
  first_back (after v e some) zero h = absurd (omega (arith, some-levels v))
  first_back (after v e some) (suc i) h = first_back v i (omega arith)

  -- each other one is the next level of those behind it
  next-back : {ls : List (List ℕ)} → Levelled edge region root ls → (i : ℕ) → suc i < length ls → get_or ls i [] ≡ next_level edge region (drop (suc i) ls)
  next-back first i h = absurd (omega arith)
  next-back (after v e some) zero h = e
  next-back (after v e some) (suc i) h = next-back v i (omega arith)

  -- each has a node
  some_back : {ls : List (List ℕ)} → Levelled edge region root ls → (i : ℕ) → i < length ls → 0 < length (get_or ls i [])
  some_back first zero h = omega arith
  some_back first (suc i) h = absurd (omega arith)
  some_back (after v e some) zero h = some
  some_back (after v e some) (suc i) h = some_back v i (omega arith)

  -- ---- in their order

  abbrev back : List (List ℕ)
  back = levels_back (length region) edge region root

  pub levels-length : length (levels edge region root) ≡ length back
  unfolding levels
  levels-length = length-reverse back

  level-back : (j : ℕ) → j < length back → get_or (levels edge region root) j [] ≡ get_or back (length back - suc j) []
  unfolding levels
  level-back j h = get_d_reverse back [] j h

  -- there is a level
  pub levels-some : 0 < length (levels edge region root)
  levels-some = omega (arith, levels-length, some-levels (levelled edge region root (length region)))

  -- "level 0 is the root"
  pub level-first : get_or (levels edge region root) 0 [] ≡ root ∷ []
  level-first =
      let some : 0 < length back = some-levels (levelled edge region root (length region)) in
      level-back 0 some ∙ first_back (levelled edge region root (length region)) (length back - 1) (omega arith)

  -- the levels before level j + 1, the last one first: the first of them is level j
  head-before : (j : ℕ) → j < length back → head_d (drop (length back - suc j) back) [] ≡ get_or (levels edge region root) j []
  unfolding head_d
  head-before j h =
      ap (λ (ls : List (List ℕ)). head_d ls []) (drop-cons back (length back - suc j) [] (omega arith)) ∙ sym (level-back j h)

  -- and together they hold what the first j + 1 levels hold
  held-before : (j v : ℕ) → j < length back → is_in v (flatten (drop (length back - suc j) back)) ≡ is_in v (flatten (take (suc j) (levels edge region root)))
  unfolding levels
  held-before j v h =
      sym (is_in-flatten-reverse v (drop (length back - suc j) back)) ∙ ap (λ (ls : List (List ℕ)). is_in v (flatten ls)) (sym (take-reverse (suc j) back h))

  -- "the next level is every node of the region next to the last level and in no earlier one"
  pub level-next : (j : ℕ) → suc j < length (levels edge region root) → get_or (levels edge region root) (suc j) []
      ≡ keep (λ v. exists (λ u. edge u v) (get_or (levels edge region root) j []) && not (is_in v (flatten (take (suc j) (levels edge region root))))) region
  unfolding next_level
  level-next j h =
      let i : ℕ = length back - suc (suc j) in
      let e : suc i ≡ length back - suc j = omega (arith, levels-length) in
      let l : j < length back = omega (arith, levels-length) in
      level-back (suc j) (omega (arith, levels-length))
      ∙ next-back (levelled edge region root (length region)) i (omega (arith, levels-length))
      ∙ ap (λ (k : ℕ). next_level edge region (drop k back)) e
      ∙ keep_ext _ _ region (λ v m. ap₂ (λ (last : List ℕ) (b : Bool). exists (λ u. edge u v) last && not b) (head-before j l) (held-before j v l))

  -- a level after level 0 is kept from the region
  pub level-kept : (j : ℕ) → 0 < j → j < length (levels edge region root) → Kept region (get_or (levels edge region root) j [])
  level-kept zero p h = absurd (omega arith)
  level-kept (suc j) p h = record { test = _; same = level-next j h }

  -- every level has a node
  pub level-some : (j : ℕ) → j < length (levels edge region root) → 0 < length (get_or (levels edge region root) j [])
  level-some j h =
      rw (level-back j (omega (arith, levels-length)))
      (some_back (levelled edge region root (length region)) (length back - suc j) (omega (arith, levels-length)))

  -- the test of level j + 1, at a node of it
  level_test : (j : ℕ) → suc j < length (levels edge region root) → (v : ℕ) → is_in v (get_or (levels edge region root) (suc j) []) ≡ true
      → (exists (λ u. edge u v) (get_or (levels edge region root) j []) && not (is_in v (flatten (take (suc j) (levels edge region root))))) ≡ true
  level_test j h v m =
      (of_keep (λ v. exists (λ u. edge u v) (get_or (levels edge region root) j []) && not (is_in v (flatten (take (suc j) (levels edge region root))))) region v
      (ap (is_in v) (sym (level-next j h)) ∙ m)).1

  -- every node of a level after level 0 is next to a node of the level before
  pub level_near : (j : ℕ) → suc j < length (levels edge region root) → (v : ℕ) → is_in v (get_or (levels edge region root) (suc j) []) ≡ true
      → exists (λ u. edge u v) (get_or (levels edge region root) j []) ≡ true
  level_near j h v m = and_left (exists (λ u. edge u v) (get_or (levels edge region root) j [])) _ (level_test j h v m)

  -- and in no level before
  pub level-fresh : (j : ℕ) → suc j < length (levels edge region root) → (v : ℕ) → is_in v (get_or (levels edge region root) (suc j) []) ≡ true
      → is_in v (flatten (take (suc j) (levels edge region root))) ≡ false
  level-fresh j h v m = not-true _ (and_right (exists (λ u. edge u v) (get_or (levels edge region root) j [])) _ (level_test j h v m))
