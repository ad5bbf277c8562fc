-- The root that the search ends at is a node of its region, and so is each candidate on the way; no node of a candidate's component has less degree.
use mathlib.Core.Path.{◌≡◌, sym, ap, ◌∙◌}
use mathlib.Core.Logic.{inl, inr}
use mathlib.Core.Bool.{Bool, true, false, cond, false≢true}
use mathlib.Core.List.{List, [], ◌∷◌, map, head_d, get_last_d, flatten}
use Prim.Native.Nat.{ℕ, zero, suc, ◌≤◌, ◌<◌}
use native.Mathlib.Omega.{arith}
use lib.Dec.{eqb, ltb}
use lib.ListN.{length}
use borrow.Author.Tests.{eq-eqb, ltb-true, ltb-false}
use Rattle.plan.specs.Lists.{keep, is_in}
use Rattle.plan.specs.Mesh.{Mesh, adjacent}
use Rattle.plan.specs.Levels.{levels, components}
use Rattle.plan.specs.Choice.{degree_in, lesser, least_from, least_degree, candidates, improves, next_root, root_from, root_of}
use Rattle.theory.specs.Regions.{All}
use Rattle.theory.proofs.Bools.{or_left, tested, cond_true, cond_false}
use Rattle.theory.proofs.Lists.{is_in-head, is_in_tail, is_in_cons, is_in-append-left, is_in-append_right, is_in-get_or, of_keep}
use Rattle.theory.proofs.Flatten.{is_in-flatten-last}
use Rattle.theory.proofs.Ascending.{head_or-is_in}
use Rattle.theory.proofs.Counting.{same-members}
use Rattle.theory.proofs.Components.{of_component, components-count, components-some}
use Rattle.theory.proofs.LevelSets.{levels_cover}

-- ---- a node of least degree

-- the best of v and a list is v or in the list
least_from-is_in : (degree : ℕ → ℕ) (v : ℕ) (l : List ℕ) → is_in (least_from degree v l) (v ∷ l) ≡ true
unfolding least_from lesser
least_from-is_in degree v [] = is_in-head v []
least_from-is_in degree v (w ∷ ws) = go (ltb (degree w) (degree v)) (least_from-is_in degree (lesser degree v w) ws)
  where
    go : (b : Bool) → is_in (least_from degree (cond b w v) ws) (cond b w v ∷ ws) ≡ true → is_in (least_from degree (cond b w v) ws) (v ∷ (w ∷ ws)) ≡ true
    go true h = is_in_tail (least_from degree w ws) v (w ∷ ws) h
    go false h =
        let x : ℕ = least_from degree v ws in
        elim (is_in_cons x v ws h) [ inl e ↦ or_left (eqb x v) _ (eq-eqb x v e) | inr t ↦ is_in_tail x v (w ∷ ws) (is_in_tail x w ws t) ]

-- the node of least degree of a list that has a node is in it
pub least_degree-is_in : (degree : ℕ → ℕ) (l : List ℕ) → 0 < length l → is_in (least_degree degree l) l ≡ true
unfolding least_degree
least_degree-is_in degree [] h = absurd (omega arith)
least_degree-is_in degree (v ∷ vs) h = least_from-is_in degree v vs

-- the lesser of two has no more degree than either
lesser_le : (degree : ℕ → ℕ) (a b : ℕ) → (degree (lesser degree a b) ≤ degree a) × (degree (lesser degree a b) ≤ degree b)
unfolding lesser
lesser_le degree a b = elim (tested (ltb (degree b) (degree a))) [
  | inl t ↦ rw (cond_true (ltb (degree b) (degree a)) b a t) (omega (arith, ltb-true (degree b) (degree a) t))
  | inr t ↦ rw (cond_false (ltb (degree b) (degree a)) b a t) (omega (arith, ltb-false (degree b) (degree a) t))
]

-- the best of v and a list has no more degree than any of them
least_from_least : (degree : ℕ → ℕ) (v : ℕ) (l : List ℕ) (y : ℕ) → is_in y (v ∷ l) ≡ true → degree (least_from degree v l) ≤ degree y
unfolding least_from
least_from_least degree v [] y h = elim (is_in_cons y v [] h) [ inl e ↦ omega (arith, ap degree e) | inr t ↦ absurd (false≢true t) ]
least_from_least degree v (w ∷ ws) y h =
    let x : ℕ = lesser degree v w in
    let best : degree (least_from degree x ws) ≤ degree x = least_from_least degree x ws x (is_in-head x ws) in
    elim (is_in_cons y v (w ∷ ws) h) [
      | inl e ↦ omega (arith, best, lesser_le degree v w, ap degree e)
      | inr t ↦ elim (is_in_cons y w ws t) [
        | inl e ↦ omega (arith, best, lesser_le degree v w, ap degree e)
        | inr u ↦ least_from_least degree x ws y (is_in_tail y x ws u)
      ]
    ]

-- no node of a list has less degree than its node of least degree
pub least_degree_least : (degree : ℕ → ℕ) (l : List ℕ) (y : ℕ) → is_in y l ≡ true → degree (least_degree degree l) ≤ degree y
unfolding least_degree
least_degree_least degree [] y h = absurd (false≢true h)
least_degree_least degree (v ∷ vs) y h = least_from_least degree v vs y h

-- those of several lists that each have a node are in the lists together
least_inside : (degree : ℕ → ℕ) (ls : List (List ℕ)) → All (λ l. 0 < length l) ls → (x : ℕ) → is_in x (map (least_degree degree) ls) ≡ true → is_in x (flatten ls) ≡ true
unfolding flatten
least_inside degree [] s x h = absurd (false≢true h)
least_inside degree (l ∷ ls) s x h = elim (is_in_cons x (least_degree degree l) (map (least_degree degree) ls) h) [
  | inl e ↦ is_in-append-left x l (flatten ls) (ap (λ (y : ℕ). is_in y l) e ∙ least_degree-is_in degree l s.0)
  | inr t ↦ is_in-append_right x l (flatten ls) (least_inside degree ls s.1 x t)
]

-- ---- the search

module _ (m : Mesh) (region : List ℕ) where
  -- a candidate of a root of the region is a node of the region
  pub candidate_inside : (r : ℕ) → is_in r region ≡ true → (x : ℕ) → is_in x (candidates m region r) ≡ true → is_in x region ≡ true
  unfolding candidates
  candidate_inside r h x t =
      let ls : List (List ℕ) = levels (adjacent m) region r in
      let last : List ℕ = get_last_d ls [] in
      let cs : List (List ℕ) = components (adjacent m) last in
      let held : is_in x (flatten cs) ≡ true = least_inside (degree_in m region) cs (components-some (adjacent m) last) x t in
      let level : is_in x last ≡ true = same-members (flatten cs) last (components-count (adjacent m) last) x held in
      (of_component (adjacent m) region r x (sym (levels_cover (adjacent m) region r h x) ∙ is_in-flatten-last ls x level)).0

  -- so is the next root
  pub next-inside : (r : ℕ) → is_in r region ≡ true → is_in (next_root m region r) region ≡ true
  unfolding next_root head_d
  next-inside r h =
      go (keep (improves m region r) (candidates m region r)) (λ x t. candidate_inside r h x (of_keep (improves m region r) (candidates m region r) x t).0)
    where
      go : (l : List ℕ) → ((x : ℕ) → is_in x l ≡ true → is_in x region ≡ true) → is_in (head_d l r) region ≡ true
      go [] f = h
      go (x ∷ xs) f = f x (is_in-head x xs)

  -- and the root after any number of turns
  found_inside : (most r : ℕ) → is_in r region ≡ true → is_in (root_from most m region r) region ≡ true
  unfolding root_from
  found_inside zero r h = h
  found_inside (suc most) r h = go (eqb (next_root m region r) r) (found_inside most (next_root m region r) (next-inside r h))
    where
      go : (b : Bool) → is_in (root_from most m region (next_root m region r)) region ≡ true → is_in (cond b r (root_from most m region (next_root m region r))) region ≡ true
      go true f = h
      go false f = f

  -- the root that the search ends at is a node of the region
  pub root-inside : 0 < length region → is_in (root_of m region) region ≡ true
  unfolding root_of
  root-inside h = found_inside (length region) (head_d region 0) (head_or-is_in 0 region _ (is_in-get_or region 0 0 h))
