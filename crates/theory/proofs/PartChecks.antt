-- Check 16 and the tree of parts: sizes and parents pass it exactly where they make a tree; and the last ancestor has no parent.
use mathlib.Core.Path.{◌≡◌, sym, ◌∙◌, ap}
use mathlib.Core.Logic.{◌≢◌, ◌⊎◌, inl, inr}
use mathlib.Core.Bool.{not, Bool, true, false, ◌&&◌, ◌||◌}
use mathlib.Core.List.{List}
use Prim.Native.Nat.{ℕ, ◌<◌}
use native.Mathlib.Omega.{arith}
use lib.Dec.{eqb, ltb}
use lib.ListN.{length, get_or, get_or-eq_default}
use borrow.Author.Tests.{eqb-true, ltb-true, eq-eqb, lt-ltb, not-false}
use Rattle.plan.specs.Lists.{exists, below, total, is_in}
use Rattle.plan.specs.Mesh.{no_parent}
use Rattle.plan.specs.Enough.{AncestorsEnd}
use Rattle.plan.specs.File.{bad_parts, may_be_parent}
use Rattle.plan.specs.Parts.{parent_of, ancestors}
use Rattle.plan.specs.Planning.{Contents}
use Rattle.theory.specs.PartTree.{PartTree}
use Rattle.theory.proofs.Bools.{or_cases, or_left, or_right, or_false_left, or_false_right, and_left, and_right, and_both, eq_or_ne, lt_or_le}
use Rattle.theory.proofs.Lists.{exists-none, none-exists, get_d_default}
use Rattle.theory.proofs.Ranges.{is_in-below, below-is_in}
use Rattle.theory.proofs.Sums.{no_zero, zero_none}
use Rattle.theory.proofs.PartAncestors.{last_ancestor}

module _ (c : Contents) (sizesMany : length c.sizes ≡ c.parts) (tree : PartTree c.nodes c.sizes c.parents) where
  -- a parent is a later part, or none
  tree-parent : (q : ℕ) → q < c.parts → may_be_parent c.parts q (get_or c.parents q 0) ≡ true
  unfolding may_be_parent parent_of
  tree-parent q l =
      let r : ℕ = get_or c.parents q 0 in
      let many : length c.parents ≡ c.parts = tree.as_many ∙ sizesMany in
      let same : r ≡ parent_of c.parents q = get_d_default c.parents q 0 no_parent (omega arith) in
      elim (eq_or_ne r no_parent) [
        | inl e ↦ or_left (eqb r no_parent) _ (eq-eqb r no_parent e)
        | inr e ↦
            let has : parent_of c.parents q ≢ no_parent = λ n. e (same ∙ n) in
            or_right (eqb r no_parent) _
            (and_both (ltb q r) _ (lt-ltb q r (omega (arith, same, tree.later q has))) (lt-ltb r c.parts (omega (arith, same, many, tree.known q has))))
      ]

  -- a tree of parts passes check 16
  pub tree-passes : bad_parts c ≡ false
  unfolding bad_parts
  tree-passes =
      rw (no_zero c.sizes tree.positive, eq-eqb (total c.sizes) c.nodes tree.whole)
      (none-exists (λ q. not (may_be_parent c.parts q (get_or c.parents q 0))) (below c.parts)
      (λ q h. ap not (tree-parent q (is_in-below c.parts q h))))

-- check 16's rule as a fact: no parent, or a later part below p
may_be : (p q r : ℕ) → may_be_parent p q r ≡ true → (r ≡ no_parent) ⊎ ((q < r) × (r < p))
unfolding may_be_parent
may_be p q r h = elim (or_cases (eqb r no_parent) (ltb q r && ltb r p) h) [
  | inl e ↦ inl (eqb-true r no_parent e)
  | inr t ↦ inr (ltb-true q r (and_left (ltb q r) _ t), ltb-true r p (and_right (ltb q r) _ t))
]

-- parents that keep the rule: a part's parent, where it has one, is a later part, and one of them
pub parent_is : (parents : List ℕ) → ((q : ℕ) → q < length parents → may_be_parent (length parents) q (get_or parents q 0) ≡ true)
    → (q : ℕ) → parent_of parents q ≢ no_parent → (q < parent_of parents q) × (parent_of parents q < length parents)
unfolding parent_of
parent_is parents good q has = elim (lt_or_le q (length parents)) [
  | inl l ↦ elim (may_be (length parents) q (parent_of parents q) (ap (may_be_parent (length parents) q) (get_d_default parents q no_parent 0 l) ∙ good q l)) [
    | inl e ↦ absurd (has e)
    | inr r ↦ r
  ]
  | inr l ↦ absurd (has (get_or-eq_default parents no_parent l))
]

module _ (c : Contents) (good : bad_parts c ≡ false) (many : length c.parents ≡ c.parts) where
  -- parents that pass check 16 keep it
  pub parents_may : (q : ℕ) → q < length c.parents → may_be_parent (length c.parents) q (get_or c.parents q 0) ≡ true
  unfolding bad_parts
  parents_may q h =
      let bad : ℕ → Bool = λ q. not (may_be_parent c.parts q (get_or c.parents q 0)) in
      let none : exists bad (below c.parts) ≡ false = or_false_right (is_in 0 c.sizes || not (eqb (total c.sizes) c.nodes)) _ good in
      ap (λ (p : ℕ). may_be_parent p q (get_or c.parents q 0)) many
      ∙ not-false _ (exists-none bad (below c.parts) none q (below-is_in c.parts q (omega arith)))

  -- so a parent is a later part
  parents-later : (q : ℕ) → parent_of c.parents q ≢ no_parent → q < parent_of c.parents q
  parents-later q has = (parent_is c.parents parents_may q has).0

  -- and one of them
  pub parents-known : (q : ℕ) → parent_of c.parents q ≢ no_parent → parent_of c.parents q < length c.parents
  parents-known q has = (parent_is c.parents parents_may q has).1

  -- sizes and parents that pass check 16 make a tree of parts
  pub passes-tree : length c.sizes ≡ c.parts → PartTree c.nodes c.sizes c.parents
  unfolding bad_parts
  passes-tree sizesMany =
      let whole : Bool = eqb (total c.sizes) c.nodes in
      let both : (is_in 0 c.sizes || not whole) ≡ false = or_false_left (is_in 0 c.sizes || not whole) _ good in
      record {
        whole = eqb-true (total c.sizes) c.nodes (not-false whole (or_false_right (is_in 0 c.sizes) _ both));
        positive = zero_none c.sizes (or_false_left (is_in 0 c.sizes) _ both);
        as_many = many ∙ sym sizesMany;
        later = parents-later;
        known = parents-known;
      }

-- the last ancestor has no parent, by check 16's rule
pub ancestors-end : AncestorsEnd
unfolding ancestors
ancestors-end c q good many h =
    last_ancestor c.parents (parents-later c good many) (parents-known c good many) (length c.parents) q q (omega arith)
