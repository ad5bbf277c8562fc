-- The widths of the parts' ranges: a part's parent is later, its width grows as its children's come in, and together the widths of the parts that
-- have not come in yet, and the root's, stay as many as there are parts, and one.
use mathlib.Core.Path.{◌≡◌, refl, sym, ap, ◌∙◌}
use mathlib.Core.Logic.{◌≢◌, inl, inr}
use mathlib.Core.Bool.{cond}
use mathlib.Core.List.{List, map}
use Prim.Native.Nat.{ℕ, zero, suc, ◌+◌, ◌-◌, ◌≤◌, ◌<◌}
use native.Mathlib.Nat.{add-zero, add-suc}
use native.Mathlib.Numerals.{add-one}
use native.Mathlib.Omega.{arith}
use lib.Dec.{eqb}
use lib.ListN.{length, get_or}
use borrow.Author.Tests.{eq-eqb, ne_eqb}
use Rattle.plan.specs.Lists.{total, up_from}
use Rattle.plan.specs.Mesh.{no_parent}
use Rattle.plan.specs.Parts.{parent_of}
use Rattle.theory.proofs.Bools.{cond_true, cond_false, eq_or_ne, eqb_same}
use Rattle.theory.proofs.Lists.{get_d_default}
use Rattle.theory.proofs.Ranges.{map_ext_up_from}
use Rattle.theory.proofs.PartChecks.{parent_is}
use Rattle.rowchecks.specs.Numbering.{SoundParents, rooted_parent, width_after, width}

-- ---- sums over a range

-- ones
total-ones : (k a : ℕ) → total (map (λ (b : ℕ). 1) (up_from a k)) ≡ k
total-ones zero a = refl
total-ones (suc k) a = omega (arith, total-ones k (suc a))

module _ (f : ℕ → ℕ) where
  -- each number is within the sum
  one_within : (k a b : ℕ) → a ≤ b → b < a + k → f b ≤ total (map f (up_from a k))
  one_within zero a b l h = absurd (omega arith)
  one_within (suc k) a b l h = elim (eq_or_ne b a) [
    | inl e ↦ omega (arith, ap f e)
    | inr e ↦ omega (arith, one_within k (suc a) b (omega (arith, e)) (omega arith))
  ]

  -- x more at a place before the range is nothing more
  more_before : (r x k a : ℕ) → r < a → total (map (λ b. f b + cond (eqb r b) x 0) (up_from a k)) ≡ total (map f (up_from a k))
  more_before r x k a h =
      ap total (map_ext_up_from (λ b. f b + cond (eqb r b) x 0) f k a
      (λ i l m. omega (arith, cond_false (eqb r i) x 0 (ne_eqb r i (λ e. omega arith)))))

  -- and at one of its places x more
  more_within : (r x k a : ℕ) → a ≤ r → r < a + k → total (map (λ b. f b + cond (eqb r b) x 0) (up_from a k)) ≡ total (map f (up_from a k)) + x
  more_within r x zero a l h = absurd (omega arith)
  more_within r x (suc k) a l h = elim (eq_or_ne r a) [
    | inl e ↦ omega (arith, cond_true (eqb r a) x 0 (eq-eqb r a e), more_before r x k (suc a) (omega arith))
    | inr e ↦ omega (arith, cond_false (eqb r a) x 0 (ne_eqb r a e), more_within r x k (suc a) (omega (arith, e)) (omega arith))
  ]

module _ (parents : List ℕ) where
  -- ---- widths, turn by turn

  -- at first each is 1
  pub width-first : (b : ℕ) → width_after parents 0 b ≡ 1
  unfolding width_after
  width-first b = refl

  -- part q's comes in at its parent
  pub width-parent : (q : ℕ) → width_after parents (q + 1) (rooted_parent parents q) ≡ width_after parents q (rooted_parent parents q) + width parents q
  unfolding width_after
  width-parent q =
      let r : ℕ = rooted_parent parents q in
      rw add-one (ap (λ (x : ℕ). width_after parents q r + x) (cond_true (eqb r r) (width_after parents q q) 0 (eqb_same r)))

  -- and nowhere else
  pub width_other : (q b : ℕ) → b ≢ rooted_parent parents q → width_after parents (q + 1) b ≡ width_after parents q b
  unfolding width_after
  width_other q b ne =
      let r : ℕ = rooted_parent parents q in
      rw add-one (omega (arith, cond_false (eqb r b) (width_after parents q q) 0 (ne_eqb r b (λ e. ne (sym e)))))

  -- none becomes less
  grows_by : (k q b : ℕ) → width_after parents q b ≤ width_after parents (q + k) b
  unfolding width_after
  grows_by zero q b = rw add-zero (omega arith)
  grows_by (suc k) q b = rw add-suc (omega (arith, grows_by k q b))

  pub width_grows : (q s b : ℕ) → q ≤ s → width_after parents q b ≤ width_after parents s b
  width_grows q s b l =
      let e : q + (s - q) ≡ s = omega arith in
      rw e at (grows_by (s - q) q b)

  -- a part is itself in its range
  pub width_some : (q b : ℕ) → 1 ≤ width_after parents q b
  width_some q b = omega (arith, width-first b, width_grows 0 q b (omega arith))

  module _ (sound : SoundParents parents) where
    -- a part's parent, where it has one, is a later part
    pub parent-later : (q : ℕ) → parent_of parents q ≢ no_parent → q < parent_of parents q
    parent-later q has = (parent_is parents sound.good q has).0

    -- and one of them
    pub parent-known : (q : ℕ) → parent_of parents q ≢ no_parent → parent_of parents q < length parents
    parent-known q has = (parent_is parents sound.good q has).1

    -- a part without a parent hangs below the root
    pub rooted_none : (q : ℕ) → q < length parents → parent_of parents q ≡ no_parent → rooted_parent parents q ≡ length parents
    unfolding parent_of
    rooted_none q h e =
        cond_true (eqb (get_or parents q 0) no_parent) (length parents) (get_or parents q 0) (eq-eqb _ _ (get_d_default parents q 0 no_parent h ∙ e))

    -- any other below its parent
    pub rooted-some : (q : ℕ) → q < length parents → parent_of parents q ≢ no_parent → rooted_parent parents q ≡ parent_of parents q
    unfolding parent_of
    rooted-some q h has =
        let e : get_or parents q 0 ≡ get_or parents q no_parent = get_d_default parents q 0 no_parent h in
        cond_false (eqb (get_or parents q 0) no_parent) (length parents) (get_or parents q 0) (ne_eqb _ _ (λ n. has (sym e ∙ n))) ∙ e

    -- a step to the parent or to the root goes up
    pub rooted-later : (q : ℕ) → q < length parents → (q < rooted_parent parents q) × (rooted_parent parents q ≤ length parents)
    rooted-later q h = elim (eq_or_ne (parent_of parents q) no_parent) [
      | inl e ↦ let r = rooted_none q h e in (omega (arith, r), omega (arith, r))
      | inr has ↦ let r = rooted-some q h has in (omega (arith, r, parent-later q has), omega (arith, r, parent-known q has))
    ]

    -- ---- all widths together

    -- the widths of the parts that have not come in, and the root's, are one more than there are parts
    all_widths : (q k : ℕ) → q + k ≡ length parents → total (map (width_after parents q) (up_from q (suc k))) ≡ length parents + 1
    unfolding width_after
    all_widths zero k e = omega (arith, total-ones (suc k) 0)
    all_widths (suc q) k e =
        let r : ℕ = rooted_parent parents q in
        let later = rooted-later q (omega arith) in
        omega (arith, all_widths q (suc k) (omega arith), more_within (width_after parents q) r (width_after parents q q) (suc k) (suc q) (omega arith) (omega arith))

    -- so no two of them are more
    pub two_widths : (q b : ℕ) → q < b → b ≤ length parents → width parents q + width_after parents q b ≤ length parents + 1
    two_widths q b lt le =
        let k : ℕ = length parents - q in
        omega (arith, all_widths q k (omega arith), one_within (width_after parents q) k (suc q) b (omega arith) (omega arith))

    -- and the root's is all of them in the end
    pub root-width : width parents (length parents) ≡ length parents + 1
    root-width = omega (arith, all_widths (length parents) 0 (omega arith))
