-- The children of a column in the elimination tree, the greatest first: linking them one column more, and walking them down.
use mathlib.Core.Path.{◌≡◌, refl, sym, ap, subst, ◌∙◌}
use mathlib.Core.Logic.{◌⊎◌, inl, inr, ◌≢◌}
use mathlib.Core.Bool.{Bool, true, cond, ◌&&◌, ◌||◌}
use mathlib.Core.List.{List}
use Prim.Native.Nat.{ℕ, zero, suc, ◌+◌, ◌-◌, ◌≤◌, ◌<◌}
use native.Mathlib.Nat.{sub-zero}
use native.Mathlib.Numerals.{add-one}
use native.Mathlib.Omega.{arith}
use lib.Dec.{eqb}
use lib.ListN.{length, set, get_or, length-set}
use borrow.Author.Tests.{eqb-true, eq-eqb, ne_eqb}
use Rattle.plan.specs.Lists.{exists, up_from, below, is_in}
use Rattle.theory.proofs.Bools.{or_cases, or_left, or_right, and_left, and_right, and_both, iff_eq, cond_true, cond_false, eq_or_ne, lt_or_le}
use Rattle.theory.proofs.Lists.{exists-is_in, is_in-exists}
use Rattle.theory.proofs.Ranges.{is_in-up_from, up_from-is_in}
use Rattle.mesh.specs.Lists.{none}
use Rattle.layout.specs.Arrays.{child_below, Children, Marked}
use Rattle.layout.proofs.Stores.{get_or-set_cases}
use Rattle.layout.proofs.Marks.{marked_as, marked_both}

-- ---- the greatest child below a bound

module _ (tree : List ℕ) (p : ℕ) where
  -- column `bound` is it, where its parent is p
  child_here : (bound : ℕ) → get_or tree bound 0 ≡ p → child_below tree p (suc bound) ≡ bound
  unfolding child_below
  child_here bound e = cond_true (eqb (get_or tree bound 0) p) bound (child_below tree p bound) (eq-eqb _ _ e)

  -- else it is an earlier one
  child_before : (bound : ℕ) → get_or tree bound 0 ≢ p → child_below tree p (suc bound) ≡ child_below tree p bound
  unfolding child_below
  child_before bound ne = cond_false (eqb (get_or tree bound 0) p) bound (child_below tree p bound) (ne_eqb _ _ ne)

  -- it is a child, where there is one
  child_found : (bound : ℕ) → child_below tree p bound ≢ none → (child_below tree p bound < bound) × (get_or tree (child_below tree p bound) 0 ≡ p)
  unfolding child_below
  child_found zero some = absurd (some refl)
  child_found (suc bound) some = go (eq_or_ne (get_or tree bound 0) p) (child_found bound)
    where
      go : (get_or tree bound 0 ≡ p) ⊎ (get_or tree bound 0 ≢ p)
          → (child_below tree p bound ≢ none → (child_below tree p bound < bound) × (get_or tree (child_below tree p bound) 0 ≡ p))
          → (child_below tree p (suc bound) < suc bound) × (get_or tree (child_below tree p (suc bound)) 0 ≡ p)
      go (inl e) ih = rw (child_here bound e) (omega arith, e)
      go (inr ne) ih =
          let t = ih (λ e. some (child_before bound ne ∙ e)) in
          rw (child_before bound ne) (omega (arith, t.0), t.1)

  -- and no child below the bound is greater
  child_last : (bound k : ℕ) → k < bound → get_or tree k 0 ≡ p → (k ≤ child_below tree p bound) × (child_below tree p bound < bound)
  child_last zero k lt e = absurd (omega arith)
  child_last (suc bound) k lt e = go (eq_or_ne (get_or tree bound 0) p) (child_last bound k)
    where
      go : (get_or tree bound 0 ≡ p) ⊎ (get_or tree bound 0 ≢ p)
          → (k < bound → get_or tree k 0 ≡ p → (k ≤ child_below tree p bound) × (child_below tree p bound < bound))
          → (k ≤ child_below tree p (suc bound)) × (child_below tree p (suc bound) < suc bound)
      go (inl h) ih = rw (child_here bound h) (omega arith, omega arith)
      go (inr ne) ih =
          let other : k ≢ bound = λ same. ne (ap (λ (x : ℕ). get_or tree x 0) (sym same) ∙ e) in
          let t = ih (omega arith) e in
          rw (child_before bound ne) (t.0, omega (arith, t.1))

-- ---- linking

module _ (n : ℕ) (tree firsts nexts : List ℕ) where
  -- no column is linked yet
  pub children_start : ((p : ℕ) → p < n → get_or firsts p 0 ≡ none) → n ≤ length firsts → n ≤ length nexts → Children n tree 0 firsts nexts
  unfolding child_below
  children_start clear room more = record { first = clear; next = λ c lt h. absurd (omega arith); first_room = room; next_room = more }

  module _ (c : ℕ) (h : Children n tree c firsts nexts) where
    -- column c has no parent
    pub children_none : get_or tree c 0 ≡ none → n ≤ none → Children n tree (c + 1) firsts nexts
    children_none root few = record {
      first = λ p lt. rw (add-one, child_before tree p c (omega arith)) (h.first p lt);
      next = λ k lt below. h.next k (earlier k lt below) below;
      first_room = h.first_room;
      next_room = h.next_room;
    }
      where
        earlier : (k : ℕ) → k < c + 1 → get_or tree k 0 < n → k < c
        earlier k lt below = elim (eq_or_ne k c) [
          | inl e ↦ absurd (omega (arith, ap (λ (x : ℕ). get_or tree x 0) e))
          | inr e ↦ omega arith
        ]

    -- column c comes before the children of its parent
    pub children_link : c < n → get_or tree c 0 < n → Children n tree (c + 1) (set firsts (get_or tree c 0) c) (set nexts c (get_or firsts (get_or tree c 0) 0))
    children_link lt inside = record {
      first = λ p lp. rw add-one
          (get_or-set_cases (λ x. x ≡ child_below tree p (suc c)) firsts (get_or tree c 0) c p (omega (arith, h.first_room))
          (λ e. sym (child_here tree p c (sym e))) (λ ne. h.first p lp ∙ sym (child_before tree p c (λ e. ne (sym e)))));
      next = λ k lk below.
          get_or-set_cases (λ x. x ≡ child_below tree (get_or tree k 0) k) nexts c (get_or firsts (get_or tree c 0) 0) k (omega (arith, h.next_room))
          (λ e. rw e (h.first (get_or tree c 0) inside)) (λ ne. h.next k (omega arith) below);
      first_room = rw length-set h.first_room;
      next_room = rw length-set h.next_room;
    }

-- ---- walking

-- whether a child of p among the columns from `from` up to n passes
abbrev child_from : ℕ → List ℕ → ℕ → (ℕ → Bool) → ℕ → Bool
child_from n tree p r from = exists (λ c. eqb (get_or tree c 0) p && r c) (up_from from (n - from))

module _ (n : ℕ) (tree : List ℕ) (p : ℕ) (r : ℕ → Bool) where
  -- a child that passes
  child_passes : (from c : ℕ) → from ≤ c → c < n → get_or tree c 0 ≡ p → r c ≡ true → child_from n tree p r from ≡ true
  child_passes from c le lt e t =
      is_in-exists (λ c. eqb (get_or tree c 0) p && r c) (up_from from (n - from)) c (up_from-is_in (n - from) from c le (omega arith))
      (and_both (eqb (get_or tree c 0) p) (r c) (eq-eqb _ _ e) t)

  -- and back
  passing_child : (from : ℕ) → child_from n tree p r from ≡ true → (c : ℕ) × (from ≤ c) × (c < n) × (get_or tree c 0 ≡ p) × (r c ≡ true)
  passing_child from h =
      let t = exists-is_in (λ c. eqb (get_or tree c 0) p && r c) (up_from from (n - from)) h in
      let range = is_in-up_from (n - from) from t.0 t.1 in
      (t.0, range.0, omega (arith, range.1, range.0), eqb-true _ _ (and_left (eqb (get_or tree t.0 0) p) _ t.2), and_right (eqb (get_or tree t.0 0) p) _ t.2)

  -- the greatest child below a bound is one child more
  child_more : (bound : ℕ) → bound ≤ n → child_below tree p bound ≢ none
      → (child_from n tree p r bound || r (child_below tree p bound)) ≡ child_from n tree p r (child_below tree p bound)
  child_more bound few some =
      iff_eq (child_from n tree p r bound || r (child_below tree p bound)) (child_from n tree p r (child_below tree p bound))
      (λ h. elim (or_cases (child_from n tree p r bound) (r (child_below tree p bound)) h) [
        | inl t ↦ (let k = passing_child bound t in child_passes (child_below tree p bound) k.0 (omega (arith, k.1, c.0)) k.2 k.3 k.4)
        | inr t ↦ child_passes (child_below tree p bound) (child_below tree p bound) (omega arith) (omega (arith, c.0)) c.1 t
      ])
      (λ h. let k = passing_child (child_below tree p bound) h in elim (lt_or_le k.0 bound) [
        | inl l ↦ or_right (child_from n tree p r bound) _ (ap r (let e : child_below tree p bound ≡ k.0 = omega (arith, k.1, child_last tree p bound k.0 l k.3) in e) ∙ k.4)
        | inr l ↦ or_left (child_from n tree p r bound) _ (child_passes bound k.0 l k.2 k.3 k.4)
      ])
    where
      c : (child_below tree p bound < bound) × (get_or tree (child_below tree p bound) 0 ≡ p)
      c = child_found tree p bound some

  -- and where there is none, all have been met
  child_end : (bound : ℕ) → bound ≤ n → n ≤ none → child_below tree p bound ≡ none → child_from n tree p r bound ≡ child_from n tree p r 0
  child_end bound few small end =
      iff_eq (child_from n tree p r bound) (child_from n tree p r 0)
      (λ h. let k = passing_child bound h in child_passes 0 k.0 (omega arith) k.2 k.3 k.4)
      (λ h. let k = passing_child 0 h in elim (lt_or_le k.0 bound) [
        | inl l ↦ absurd (omega (arith, child_last tree p bound k.0 l k.3))
        | inr l ↦ child_passes bound k.0 l k.2 k.3 k.4
      ])

-- the lists of j's children from `bound` on have been marked, and c is the next child
pub record Walked (n : ℕ) (tree : List ℕ) (lists : ℕ → List ℕ) (j : ℕ) (before marks : List ℕ) (c : ℕ) : Type 0 where
  pub bound : ℕ
  pub few : bound ≤ n
  pub here : c ≡ child_below tree j bound
  pub marked : Marked j (λ i. child_from n tree j (λ k. is_in i (lists k)) bound) before marks

-- how far it is at most to the end
abbrev pub way_down_lem : ℕ → ℕ
way_down_lem c = cond (eqb c none) 0 (suc c)

-- each child is nearer to it
pub way_down : (tree : List ℕ) (p c : ℕ) → c ≢ none → way_down_lem (child_below tree p c) < way_down_lem c
way_down tree p c some = rw (ne_eqb c none some) (go (eq_or_ne (child_below tree p c) none))
  where
    go : (child_below tree p c ≡ none) ⊎ (child_below tree p c ≢ none) → way_down_lem (child_below tree p c) < suc c
    go (inl e) = rw e (omega arith)
    go (inr ne) = rw (ne_eqb (child_below tree p c) none ne) (omega (arith, (child_found tree p c ne).0))

module _ (n : ℕ) (tree : List ℕ) (lists : ℕ → List ℕ) (j : ℕ) (before : List ℕ) where
  module _ (marks : List ℕ) (c : ℕ) (w : Walked n tree lists j before marks c) where
    -- the next child is one
    pub walked_child : c ≢ none → (c < n) × (get_or tree c 0 ≡ j)
    walked_child some =
        let t = child_found tree j w.bound (λ e. some (w.here ∙ e)) in
        (omega (arith, t.0, w.here, w.few), ap (λ (x : ℕ). get_or tree x 0) w.here ∙ t.1)

    -- its list is marked too
    pub walked_more : (after : List ℕ) (d : ℕ) → c ≢ none → Marked j (λ i. is_in i (lists c)) marks after → d ≡ child_below tree j c → Walked n tree lists j before after d
    walked_more after d some h e =
        record {
          bound = c;
          few = omega (arith, (walked_child some).0);
          here = e;
          marked =
              marked_as j (λ i. child_from n tree j (λ k. is_in i (lists k)) w.bound || is_in i (lists c)) (λ i. child_from n tree j (λ k. is_in i (lists k)) c) before after
              (λ i. subst (λ (x : ℕ). (child_from n tree j (λ k. is_in i (lists k)) w.bound || is_in i (lists x)) ≡ child_from n tree j (λ k. is_in i (lists k)) x) (sym w.here)
              (child_more n tree j (λ k. is_in i (lists k)) w.bound w.few (λ e. some (w.here ∙ e))))
              (marked_both j (λ i. child_from n tree j (λ k. is_in i (lists k)) w.bound) (λ i. is_in i (lists c)) before marks after w.marked h);
        }

    -- all have been met
    pub walked_end : c ≡ none → n ≤ none → Marked j (λ i. exists (λ k. eqb (get_or tree k 0) j && is_in i (lists k)) (below n)) before marks
    walked_end end small =
        marked_as j (λ i. child_from n tree j (λ k. is_in i (lists k)) w.bound) (λ i. exists (λ k. eqb (get_or tree k 0) j && is_in i (lists k)) (below n)) before marks
        (λ i. child_end n tree j (λ k. is_in i (lists k)) w.bound w.few small (sym w.here ∙ end) ∙ rw sub-zero) w.marked
