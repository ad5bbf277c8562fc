-- A part's range of numbers holds the first numbers of exactly the parts at or below it.
use mathlib.Core.Path.{◌≡◌, refl, sym, ap, subst, ◌∙◌}
use mathlib.Core.Logic.{inl, inr}
use mathlib.Core.Bool.{true, not}
use mathlib.Core.List.{List}
use Prim.Native.Nat.{ℕ, zero, suc, ◌+◌, ◌≤◌, ◌<◌}
use native.Mathlib.Omega.{arith}
use lib.Dec.{eqb, ltb}
use lib.ListN.{length, get_or}
use borrow.Author.Tests.{lt-ltb, ltb-true, ltb-false, le-ltb, not-true}
use Rattle.plan.specs.Mesh.{no_parent}
use Rattle.plan.specs.Parts.{parent_of, at_or_above}
use Rattle.theory.proofs.Bools.{and_left, and_right, cond_true, eqb_same, iff_eq, eq_or_ne, lt_or_le}
use Rattle.theory.proofs.PartAncestors.{Under, here, up, under_of_test, test_of_under}
use Rattle.rowchecks.specs.Numbering.{SoundParents, rooted_parent, width_after, width, Numbered}
use Rattle.rowchecks.specs.Rows.{in_range}
use Rattle.rowchecks.proofs.Widths.{width_grows, width_some, parent-later, parent-known, rooted_none, rooted-some, rooted-later}

-- y is x or met on the way from x up to the root
data Below (parents : List ℕ) : ℕ → ℕ → Type 0 where
  same : {x : ℕ} → Below parents x x
  step : {x y : ℕ} → x < length parents → Below parents (rooted_parent parents x) y → Below parents x y

-- a number between a range's ends passes the test
in_range_lem : (x low end : ℕ) → low ≤ x → x < end → in_range x low end ≡ true
in_range_lem x low end l h = rw (le-ltb x low l) (lt-ltb x end h)

module _ (parents : List ℕ) (sound : SoundParents parents) where
  -- the way goes up
  below_le : {x y : ℕ} → Below parents x y → x ≤ y
  below_le same = omega arith
  below_le (step {x = x} h u) = omega (arith, (rooted-later parents sound x h).0, below_le u)

  -- what is at or above a part in the tree is met on its way
  below_of_under : {x y : ℕ} → Under parents x y → Below parents x y
  below_of_under here = same
  below_of_under (up {p = x} {q = y} has u) =
      let s : x < length parents = omega (arith, parent-later parents sound x has, parent-known parents sound x has) in
      step s (subst (λ (z : ℕ). Below parents z y) (sym (rooted-some parents sound x s has)) (below_of_under u))

  -- and a part that is met on its way is at or above it in the tree
  under_of_below : {x y : ℕ} → y < length parents → Below parents x y → Under parents x y
  under_of_below l same = here
  under_of_below l (step {x = x} {y = y} h u) = elim (eq_or_ne (parent_of parents x) no_parent) [
    | inl e ↦ absurd (omega (arith, rooted_none parents sound x h e, below_le u))
    | inr has ↦ up has (subst (λ (z : ℕ). Under parents z y) (rooted-some parents sound x h has) (under_of_below l u))
  ]

  module _ (firsts : List ℕ) (numbered : Numbered parents firsts) where
    -- where a part's range ends in that of its parent or the root
    range_end : (q : ℕ) → q < length parents
        → get_or firsts q 0 + width parents q ≡ get_or firsts (rooted_parent parents q) 0 + width_after parents (suc q) (rooted_parent parents q)
    unfolding width_after
    range_end q h =
        let r : ℕ = rooted_parent parents q in
        omega (arith, numbered.next q h, cond_true (eqb r r) (width_after parents q q) 0 (eqb_same r))

    -- a part's range lies in that of its parent or the root, behind its first number
    ranges_nest : (q : ℕ) → q < length parents → (get_or firsts (rooted_parent parents q) 0 < get_or firsts q 0)
        × (get_or firsts q 0 + width parents q ≤ get_or firsts (rooted_parent parents q) 0 + width parents (rooted_parent parents q))
    ranges_nest q h =
        let r : ℕ = rooted_parent parents q in
        let grows : width_after parents (suc q) r ≤ width parents r = width_grows parents (suc q) r r (omega (arith, (rooted-later parents sound q h).0)) in
        (omega (arith, numbered.next q h, width_some parents q r), omega (arith, range_end q h, grows))

    -- the range of x lies in that of y
    inside : {x y : ℕ} → Below parents x y
        → (get_or firsts y 0 ≤ get_or firsts x 0) × (get_or firsts x 0 + width parents x ≤ get_or firsts y 0 + width parents y)
    inside same = (omega arith, omega arith)
    inside (step {x = x} h u) = let n = ranges_nest x h in let i = inside u in (omega (arith, n.0, i.0), omega (arith, n.1, i.1))

    -- and behind its first number
    deeper : {x y : ℕ} → Below parents x y → x < y → get_or firsts y 0 < get_or firsts x 0
    deeper same l = absurd (omega arith)
    deeper (step {x = x} h u) l = omega (arith, (ranges_nest x h).0, (inside u).0)

    -- what is below r, behind the child x of r, has its range behind that of x
    apart : (x : ℕ) {y r : ℕ} → x < length parents → x < y → rooted_parent parents x ≡ r → Below parents y r → y < r
        → get_or firsts x 0 + width parents x ≤ get_or firsts y 0
    apart x s l e same m = absurd (omega arith)
    apart x s l e (step {x = y} {y = r} h u) m =
        let z : ℕ = rooted_parent parents y in
        elim (eq_or_ne z r) [
          | inl f ↦
              let end : get_or firsts x 0 + width parents x ≡ get_or firsts z 0 + width_after parents (suc x) z =
              range_end x s ∙ ap (λ (c : ℕ). get_or firsts c 0 + width_after parents (suc x) c) (e ∙ sym f) in
              omega (arith, end, numbered.next y h, width_grows parents (suc x) y z l)
          | inr f ↦
              omega (arith, (ranges_nest y h).0, apart x s (omega (arith, (rooted-later parents sound y h).0)) e u (omega (arith, f, below_le u)))
        ]

    -- where two ranges meet, the earlier part is below the later
    meet : (k x y : ℕ) → length parents ≤ x + k → x < y → y ≤ length parents
        → get_or firsts x 0 < get_or firsts y 0 + width parents y → get_or firsts y 0 < get_or firsts x 0 + width parents x → Below parents x y
    meet zero x y f l h a b = absurd (omega arith)
    meet (suc k) x y f l h a b =
        let r : ℕ = rooted_parent parents x in
        let s : x < length parents = omega arith in
        let rise = rooted-later parents sound x s in
        let n = ranges_nest x s in
        elim (lt_or_le r y) [
          | inl t ↦ step s (meet k r y (omega (arith, rise.0)) t h (omega (arith, n.0)) (omega (arith, n.1)))
          | inr t ↦ elim (eq_or_ne y r) [
            | inl e ↦ step s (subst (λ (z : ℕ). Below parents r z) (sym e) same)
            | inr e ↦
                let m : y < r = omega (arith, e) in
                let u : Below parents y r = meet k y r (omega arith) m rise.1 (omega (arith, n.1)) (omega (arith, n.0)) in
                absurd (omega (arith, apart x s l refl u m))
          ]
        ]

    -- the range that holds a's first number is that of a part on a's way
    holds-below : (a b : ℕ) → a < length parents → b < length parents → get_or firsts b 0 ≤ get_or firsts a 0
        → get_or firsts a 0 < get_or firsts b 0 + width parents b → Below parents a b
    holds-below a b h k low high = elim (eq_or_ne a b) [
      | inl e ↦ subst (λ (z : ℕ). Below parents a z) e same
      | inr e ↦ elim (lt_or_le a b) [
        | inl l ↦ meet (length parents) a b (omega arith) l (omega arith) high (omega (arith, width_some parents a a))
        | inr l ↦
            let m : b < a = omega (arith, e) in
            absurd (omega (arith, deeper (meet (length parents) b a (omega arith) m (omega arith) (omega (arith, width_some parents a a)) high) m))
      ]
    ]

  -- part a's first number lies in part b's range exactly where b is a or an ancestor of it
  pub range_exact : (firsts : List ℕ) → Numbered parents firsts → (a b : ℕ) → a < length parents → b < length parents
      → in_range (get_or firsts a 0) (get_or firsts b 0) (get_or firsts b 0 + width parents b) ≡ at_or_above parents a b
  range_exact firsts numbered a b h k =
      let x : ℕ = get_or firsts a 0 in
      let low : ℕ = get_or firsts b 0 in
      let end : ℕ = low + width parents b in
      iff_eq (in_range x low end) (at_or_above parents a b)
      (λ t. test_of_under parents (parent-later parents sound) (parent-known parents sound) a b (under_of_below k (holds-below firsts numbered a b h k
      (ltb-false x low (not-true (ltb x low) (and_left (not (ltb x low)) _ t))) (ltb-true x end (and_right (not (ltb x low)) _ t)))))
      (λ t.
      let i = inside firsts numbered (below_of_under (under_of_test parents a b t)) in
      in_range_lem x low end i.0 (omega (arith, i.1, width_some parents a a)))
