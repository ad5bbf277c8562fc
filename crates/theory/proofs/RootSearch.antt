-- The root search ends, at a root on which none of its candidates improves, and a larger bound on its turns changes nothing.
use mathlib.Core.Path.{◌≡◌, refl, sym, ap, subst, ◌∙◌}
use mathlib.Core.Logic.{◌⊎◌, inl, inr}
use mathlib.Core.Bool.{true, false, ◌&&◌, false≢true}
use mathlib.Core.List.{List, [], ◌∷◌, head_d}
use Prim.Native.Nat.{ℕ, zero, suc, ◌≤◌, ◌<◌}
use native.Mathlib.Omega.{arith}
use lib.Dec.{eqb, ltb}
use lib.ListN.{length}
use borrow.Author.Tests.{eqb-true, ltb-true, ltb-false, eq-eqb, lt-ltb}
use Rattle.plan.specs.Lists.{exists, keep, is_in}
use Rattle.plan.specs.Mesh.{Mesh, adjacent}
use Rattle.plan.specs.Levels.{Graph, eccentricity, width, widest, levels, levels_back}
use Rattle.plan.specs.Choice.{candidates, improves, next_root, root_from, root_of}
use Rattle.plan.specs.Enough.{RootStays, RootsDiffer}
use Rattle.theory.specs.Counting.{count}
use Rattle.theory.proofs.Bools.{or_cases, or_left, or_right, or_false_left, and_left, and_right, and_both, tested, clash, refuted, eq_or_ne, cond_true, cond_false}
use Rattle.theory.proofs.Lists.{is_in-head, exists-is_in, exists-none, in_keep, of_keep}
use Rattle.theory.proofs.Counting.{count_le, count_less}
use Rattle.theory.proofs.Levels.{levelled, levels-room}
use Rattle.theory.proofs.LevelNumbers.{levels-length}
use Rattle.theory.proofs.RootInside.{next-inside}

-- ℓ is at most the number of nodes
pub eccentricity_le : (edge : Graph) (region : List ℕ) (root : ℕ) → eccentricity edge region root ≤ length region
unfolding eccentricity
eccentricity_le edge region root =
    omega (arith, levels-length edge region root, levels-room edge region root (levelled edge region root (length region)))

module _ (m : Mesh) (region : List ℕ) where
  abbrev far : ℕ → ℕ
  far r = eccentricity (adjacent m) region r

  abbrev wide : ℕ → ℕ
  wide r = width (adjacent m) region r

  -- ---- what improves

  -- x is farther than r, or as far and slimmer
  Ahead : ℕ → ℕ → Type 0
  Ahead r x = (far r < far x) ⊎ ((far x ≡ far r) × (wide x < wide r))

  -- what the test says
  of_improves : (r x : ℕ) → improves m region r x ≡ true → Ahead r x
  unfolding improves Ahead
  of_improves r x h = elim (or_cases (ltb (far r) (far x)) (eqb (far x) (far r) && ltb (wide x) (wide r)) h) [
    | inl t ↦ inl (ltb-true (far r) (far x) t)
    | inr t ↦ inr (eqb-true (far x) (far r) (and_left (eqb (far x) (far r)) _ t), ltb-true (wide x) (wide r) (and_right (eqb (far x) (far r)) _ t))
  ]

  -- and what it needs
  in_improves : (r x : ℕ) → Ahead r x → improves m region r x ≡ true
  unfolding improves Ahead
  in_improves r x (inl lt) = or_left (ltb (far r) (far x)) _ (lt-ltb (far r) (far x) lt)
  in_improves r x (inr p) =
      or_right (ltb (far r) (far x)) _ (and_both (eqb (far x) (far r)) _ (eq-eqb (far x) (far r) p.0) (lt-ltb (wide x) (wide r) p.1))

  -- no node improves on itself
  pub improves_itself : (r : ℕ) → improves m region r r ≡ false
  unfolding Ahead
  improves_itself r = refuted (improves m region r r) (λ h. elim (of_improves r r h) [ inl lt ↦ omega arith | inr p ↦ omega (arith, p.1) ])

  -- and what improves on x improves on all that x does
  improves_trans : (r x y : ℕ) → improves m region r x ≡ true → improves m region x y ≡ true → improves m region r y ≡ true
  unfolding Ahead
  improves_trans r x y h k = in_improves r y (go (of_improves r x h) (of_improves x y k))
    where
      go : Ahead r x → Ahead x y → Ahead r y
      go (inl a) (inl b) = inl (omega arith)
      go (inl a) (inr b) = inl (omega (arith, b.0))
      go (inr a) (inl b) = inl (omega (arith, a.0))
      go (inr a) (inr b) = inr (b.0 ∙ a.0, omega (arith, a.1, b.1))

  -- so a root that was replaced does not improve on the one that replaced it
  pub improves-back : (r x : ℕ) → improves m region r x ≡ true → improves m region x r ≡ false
  improves-back r x h = refuted (improves m region x r) (λ k. clash (improves m region r r) (improves_trans r x r h k) (improves_itself r))

  -- what does not improve is no farther
  not_farther : (r x : ℕ) → improves m region r x ≡ false → far x ≤ far r
  unfolding improves
  not_farther r x h = ltb-false (far r) (far x) (or_false_left (ltb (far r) (far x)) _ h)

  -- ---- the search

  -- the next root is r itself, or improves on it
  pub next_cases : (r : ℕ) → (next_root m region r ≡ r) ⊎ (improves m region r (next_root m region r) ≡ true)
  unfolding next_root head_d
  next_cases r = go (keep (improves m region r) (candidates m region r)) (λ x h. (of_keep (improves m region r) (candidates m region r) x h).1)
    where
      go : (l : List ℕ) → ((x : ℕ) → is_in x l ≡ true → improves m region r x ≡ true) → (head_d l r ≡ r) ⊎ (improves m region r (head_d l r) ≡ true)
      go [] f = inl refl
      go (x ∷ xs) f = inr (f x (is_in-head x xs))

  -- one turn of the search
  pub turn_ends : (most r : ℕ) → eqb (next_root m region r) r ≡ true → root_from (suc most) m region r ≡ r
  unfolding root_from
  turn_ends most r e = cond_true (eqb (next_root m region r) r) r (root_from most m region (next_root m region r)) e

  pub turn_goes : (most r : ℕ) → eqb (next_root m region r) r ≡ false → root_from (suc most) m region r ≡ root_from most m region (next_root m region r)
  unfolding root_from
  turn_goes most r e = cond_false (eqb (next_root m region r) r) r (root_from most m region (next_root m region r)) e

  -- how many nodes of the region improve on r
  pub improvers : ℕ → ℕ
  improvers r = count (improves m region r) region

  -- no more than there are
  pub improvers_le : (r : ℕ) → improvers r ≤ length region
  unfolding improvers
  improvers_le r = count_le (improves m region r) region

  -- where a turn goes on, it goes to a root on which fewer improve
  pub goes_fewer : (r : ℕ) → is_in r region ≡ true → eqb (next_root m region r) r ≡ false → improvers (next_root m region r) < improvers r
  unfolding improvers
  goes_fewer r h e = elim (next_cases r) [
    | inl s ↦ clash (eqb (next_root m region r) r) (eq-eqb _ _ s) e
    | inr t ↦
        let next : ℕ = next_root m region r in
        count_less (improves m region next) (improves m region r) next region (λ y u. improves_trans r next y t u) (next-inside m region r h) t (improves_itself next)
  ]

  -- where none of the region improves on r, the search stops
  next_stays : (r : ℕ) → is_in r region ≡ true → improvers r ≤ 0 → eqb (next_root m region r) r ≡ true
  next_stays r h none = elim (tested (eqb (next_root m region r) r)) [ inl e ↦ e | inr e ↦ absurd (omega (arith, goes_fewer r h e)) ]

  -- with as many turns as nodes improve on r, the search has ended
  search_ends : (most r : ℕ) → is_in r region ≡ true → improvers r ≤ most → next_root m region (root_from most m region r) ≡ root_from most m region r
  search_ends zero r h l = unfold root_from in eqb-true _ _ (next_stays r h l)
  search_ends (suc most) r h l = elim (tested (eqb (next_root m region r) r)) [
    | inl e ↦ rw (turn_ends most r e) (eqb-true _ _ e)
    | inr e ↦ rw (turn_goes most r e) (search_ends most (next_root m region r) (next-inside m region r h) (omega (arith, goes_fewer r h e)))
  ]

  -- and more turns change nothing
  pub search_same : (most more r : ℕ) → is_in r region ≡ true → improvers r ≤ most → improvers r ≤ more → root_from most m region r ≡ root_from more m region r
  search_same zero zero r h k l = refl
  search_same zero (suc more) r h k l = sym (turn_ends more r (next_stays r h k) ∙ unfold root_from in refl)
  search_same (suc most) zero r h k l = turn_ends most r (next_stays r h l) ∙ unfold root_from in refl
  search_same (suc most) (suc more) r h k l = elim (tested (eqb (next_root m region r) r)) [
    | inl e ↦ turn_ends most r e ∙ sym (turn_ends more r e)
    | inr e ↦
        let fewer : improvers (next_root m region r) < improvers r = goes_fewer r h e in
        turn_goes most r e ∙ search_same most more (next_root m region r) (next-inside m region r h) (omega arith) (omega arith) ∙ sym (turn_goes more r e)
  ]

  -- one more turn is a turn from the root found so far
  turn_last : (most r : ℕ) → root_from (suc most) m region r ≡ next_root m region (root_from most m region r)
  turn_last zero r = elim (tested (eqb (next_root m region r) r)) [
    | inl e ↦ unfold root_from in (turn_ends 0 r e ∙ sym (eqb-true _ _ e))
    | inr e ↦ unfold root_from in turn_goes 0 r e
  ]
  turn_last (suc most) r = elim (tested (eqb (next_root m region r) r)) [
    | inl e ↦ turn_ends (suc most) r e ∙ sym (ap (next_root m region) (turn_ends most r e) ∙ eqb-true _ _ e)
    | inr e ↦ turn_goes (suc most) r e ∙ turn_last most (next_root m region r) ∙ ap (next_root m region) (sym (turn_goes most r e))
  ]

  -- the search has ended at root r, or x improves on it
  Later : ℕ → ℕ → Type 0
  Later r x = (next_root m region r ≡ r) ⊎ (improves m region r x ≡ true)

  -- what comes after a later root is a later root
  later-next : (r x : ℕ) → Later r x → Later r (next_root m region x)
  unfolding Later
  later-next r x (inl e) = inl e
  later-next r x (inr t) = elim (next_cases x) [
    | inl s ↦ inr (ap (improves m region r) s ∙ t)
    | inr u ↦ inr (improves_trans r x (next_root m region x) t u)
  ]

  -- so is the root after any number of turns more
  later-root : (r i j : ℕ) → i < j → Later (root_from i m region r) (root_from j m region r)
  later-root r i zero lt = absurd (omega arith)
  later-root r i (suc j) lt = subst (Later (root_from i m region r)) (sym (turn_last j r)) (elim (eq_or_ne i j) [
    | inl e ↦ subst (λ (k : ℕ). Later (root_from i m region r) (next_root m region (root_from k m region r))) e (unfold Later in next_cases (root_from i m region r))
    | inr other ↦ later-next (root_from i m region r) (root_from j m region r) (later-root r i j (omega arith))
  ])

  -- where r stays, none of its candidates improves on it
  root_best : (r : ℕ) → next_root m region r ≡ r → exists (improves m region r) (candidates m region r) ≡ false
  unfolding next_root head_d
  root_best r e = refuted _ (λ t.
      let x = exists-is_in (improves m region r) (candidates m region r) t in
      none (keep (improves m region r) (candidates m region r)) (λ y h. (of_keep (improves m region r) (candidates m region r) y h).1) e
      x.0 (in_keep (improves m region r) (candidates m region r) x.0 x.1 x.2))
    where
      none : (l : List ℕ) → ((y : ℕ) → is_in y l ≡ true → improves m region r y ≡ true) → head_d l r ≡ r → (x : ℕ) → is_in x l ≡ true → ⊥
      none [] f s x h = false≢true h
      none (y ∷ ys) f s x h = clash (improves m region r r) (ap (improves m region r) (sym s) ∙ f y (is_in-head y ys)) (improves_itself r)

-- in the empty set nothing improves: there is no level but the root's
none-next : (m : Mesh) (r : ℕ) → next_root m [] r ≡ r
unfolding Ahead
none-next m r = elim (next_cases m [] r) [
  | inl e ↦ e
  | inr t ↦ elim (of_improves m [] r (next_root m [] r) t) [
    | inl lt ↦ absurd (omega (arith, lt, eccentricity_le (adjacent m) [] (next_root m [] r)))
    | inr p ↦ absurd (omega (arith, p.1, one r, one (next_root m [] r)))
  ]
]
  where
    one : (v : ℕ) → width (adjacent m) [] v ≡ 1
    one v = unfold width widest levels levels_back in refl

-- one more search leaves the root
pub root_stays : RootStays
unfolding root_of root_from head_d
root_stays m [] = none-next m 0
root_stays m (v ∷ vs) = search_ends m (v ∷ vs) (length (v ∷ vs)) v (is_in-head v vs) (improvers_le m (v ∷ vs) v)

-- no root comes twice
pub roots_differ : RootsDiffer
unfolding Later
roots_differ m region r i j lt same = elim (later-root m region r i j lt) [
  | inl e ↦ e
  | inr t ↦ clash (improves m region root root) (ap (improves m region root) same ∙ t) (improves_itself m region root)
]
  where
    root : ℕ
    root = root_from i m region r

-- Where none improves, "r stays": no candidate of the root found improves on it.
pub no_candidate_improves : (m : Mesh) (region : List ℕ) → exists (improves m region (root_of m region)) (candidates m region (root_of m region)) ≡ false
no_candidate_improves m region = root_best m region (root_of m region) (root_stays m region)

-- so each candidate's ℓ is at most the root's
pub candidate_near : (m : Mesh) (region : List ℕ) (x : ℕ) → is_in x (candidates m region (root_of m region)) ≡ true
    → eccentricity (adjacent m) region x ≤ eccentricity (adjacent m) region (root_of m region)
candidate_near m region x h =
    let root : ℕ = root_of m region in
    not_farther m region root x (exists-none (improves m region root) (candidates m region root) (no_candidate_improves m region) x h)

-- "and the search begins again": any bound on its turns from the number of nodes on gives the same root
pub root-same : (m : Mesh) (region : List ℕ) (most : ℕ) → length region ≤ most → root_from most m region (head_d region 0) ≡ root_of m region
unfolding root_of root_from head_d
root-same m [] zero h = refl
root-same m [] (suc most) h = turn_ends m [] most 0 (eq-eqb _ _ (none-next m 0))
root-same m (v ∷ vs) most h =
    let few : improvers m (v ∷ vs) v ≤ length (v ∷ vs) = improvers_le m (v ∷ vs) v in
    search_same m (v ∷ vs) most (length (v ∷ vs)) v (is_in-head v vs) (omega arith) few
