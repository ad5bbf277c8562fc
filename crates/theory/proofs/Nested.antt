-- A forest in which no edge joins different regions has only edges to ancestors.
use mathlib.Core.Path.{◌≡◌, sym, ap, subst, ◌∙◌}
use mathlib.Core.Logic.{inl, inr, ◌≢◌}
use mathlib.Core.Bool.{Bool, true}
use mathlib.Core.List.{List, ◌∷◌, ◌++◌}
use Prim.Native.Nat.{ℕ, suc, ◌+◌, ◌-◌, ◌≤◌, ◌<◌}
use native.Mathlib.Nat.{zero-add}
use native.Mathlib.Omega.{arith}
use lib.ListN.{length, get_or, get_or-eq_default}
use Rattle.plan.specs.Lists.{is_in}
use Rattle.plan.specs.Mesh.{no_parent}
use Rattle.plan.specs.Dissection.{Forest, empty, tree, parts, parents_from, parents, order, sizes}
use Rattle.plan.specs.Parts.{part_of, parent_of}
use Rattle.theory.specs.PartTree.{PartTree, Nested}
use Rattle.theory.proofs.Bools.{lt_or_le}
use Rattle.theory.proofs.Lists.{is_in-append-left, is_in-append_right, is_in-get_or}
use Rattle.theory.proofs.Sums.{positive-append, positive_cons}
use Rattle.theory.proofs.PartOf.{part_lt}
use Rattle.theory.proofs.PartAncestors.{up, Under, here, under_trans, test_of_under}
use Rattle.theory.proofs.Forest.{order-empty, order-length-tree, sizes-tree, parts-length-empty, parts-length-tree, sizes-length, total-sizes, parents-length, Lies, in_children, in_members, in_others, lies, node, node_children, node_members, node_others, part_children, part-members, part-others, Placed, placed-whole, PlacedTree, placed-tree, parent-later}

-- no edge leads from a region to a later one
abbrev pub Separated : (ℕ → ℕ → Bool) → Forest → Type 0
Separated edge empty = Unit {0}
Separated edge (tree s c r) =
    Separated edge c × Separated edge r × ((a b : ℕ) → is_in a (order c ++ s) ≡ true → is_in b (order r) ≡ true → edge a b ≡ true → ⊥)

-- every part has a node
abbrev pub NoneEmpty : Forest → Type 0
NoneEmpty empty = Unit {0}
NoneEmpty (tree s c r) = NoneEmpty c × NoneEmpty r × (0 < length s)

pub parts_le : (t : Forest) → NoneEmpty t → length (parts t) ≤ length (order t)
parts_le empty h = omega (arith, parts-length-empty)
parts_le (tree s c r) h = omega (arith, parts-length-tree s c r, parts_le c h.0, parts_le r h.1, h.2, order-length-tree s c r)

-- ---- edges

-- the parts of a forest stand below the parent of its outermost parts; ps holds the parents of all parts
climb : (ps : List ℕ) (t : Forest) (k f : ℕ) → f ≢ no_parent → k + length (parts t) ≤ no_parent → Placed ps k (parents_from k f t)
    → (i : ℕ) → i < length (parts t) → Under ps (k + i) f
climb ps empty k f known small pl i h = absurd (omega (arith, parts-length-empty))
climb ps (tree s c r) k f known small pl i h =
    let all : length (parts (tree s c r)) ≡ length (parts c) + suc (length (parts r)) = parts-length-tree s c r in
    let at_tree : PlacedTree ps k f c r = placed-tree ps k f s c r pl in
    let top : Under ps (k + length (parts c)) f =
    up (λ e. known (sym at_tree.top ∙ e)) (subst (λ (x : ℕ). Under ps (parent_of ps (k + length (parts c))) x) at_tree.top here) in
    elim (lt_or_le i (length (parts c))) [
      | inl l ↦ under_trans (climb ps c k (k + length (parts c)) (λ e. omega arith) (omega arith) at_tree.below i l) top
      | inr l ↦ elim (lt_or_le (length (parts c)) i) [
        | inl m ↦
            let e : suc (k + length (parts c)) + (i - suc (length (parts c))) ≡ k + i = omega arith in
            subst (λ (x : ℕ). Under ps x f) e (climb ps r (suc (k + length (parts c))) f known (omega arith) at_tree.rest (i - suc (length (parts c))) (omega arith))
        | inr m ↦
            let e : length (parts c) ≡ i = omega arith in
            subst (λ (x : ℕ). Under ps (k + x) f) e top
      ]
    ]

shift : (k m x : ℕ) → k + (suc m + x) ≡ suc (k + m) + x
shift k m x = omega arith

module _ (edge : ℕ → ℕ → Bool) (ps : List ℕ) where
  -- every edge between positions of t leads to a part at or above
  Climbs : ℕ → Forest → Type 0
  Climbs k t = (a b : ℕ) → a < b → b < length (order t) → edge (node t a) (node t b) ≡ true → Under ps (k + part_of (sizes t) a) (k + part_of (sizes t) b)

  module _ (s : List ℕ) (c r : Forest) (k f : ℕ) (pl : Placed ps k (parents_from k f (tree s c r))) (small : k + length (parts (tree s c r)) ≤ no_parent)
      (apart : (a b : ℕ) → is_in a (order c ++ s) ≡ true → is_in b (order r) ≡ true → edge a b ≡ true → ⊥)
      (below : Climbs k c) (rest : Climbs (suc (k + length (parts c))) r) where
    at_tree : (a b : ℕ) → Lies s c r a → Lies s c r b → a < b → edge (node (tree s c r) a) (node (tree s c r) b) ≡ true
        → Under ps (k + part_of (sizes (tree s c r)) a) (k + part_of (sizes (tree s c r)) b)
    unfolding Climbs
    at_tree a b (in_children i h) (in_children j g) l e =
        rw (part_children s c r i h, part_children s c r j g) (below i j l g (rw (node_children s c r i h, node_children s c r j g) at e))
    at_tree a b (in_children i h) (in_members j g) l e =
        rw (part_children s c r i h, part-members s c r j g)
        (climb ps c k (k + length (parts c)) (λ e. omega (arith, parts-length-tree s c r)) (omega (arith, parts-length-tree s c r)) (placed-tree ps k f s c r pl).below (part_of (sizes c) i)
        (omega (arith, part_lt (sizes c) i (omega (arith, total-sizes c)), sizes-length c)))
    at_tree a b (in_children i h) (in_others j g) l e =
        absurd (apart (node c i) (node r j) (is_in-append-left (node c i) (order c) s (is_in-get_or (order c) i 0 h)) (is_in-get_or (order r) j 0 g)
        (rw (node_children s c r i h, node_others s c r j) at e))
    at_tree a b (in_members i h) (in_children j g) l e = absurd (omega arith)
    at_tree a b (in_members i h) (in_members j g) l e = rw (part-members s c r i h, part-members s c r j g) here
    at_tree a b (in_members i h) (in_others j g) l e =
        absurd (apart (get_or s i 0) (node r j) (is_in-append_right (get_or s i 0) (order c) s (is_in-get_or s i 0 h)) (is_in-get_or (order r) j 0 g)
        (rw (node_members s c r i h, node_others s c r j) at e))
    at_tree a b (in_others i h) (in_children j g) l e = absurd (omega arith)
    at_tree a b (in_others i h) (in_members j g) l e = absurd (omega arith)
    at_tree a b (in_others i h) (in_others j g) l e =
        rw (part-others s c r i, part-others s c r j, shift k (length (parts c)) (part_of (sizes r) i), shift k (length (parts c)) (part_of (sizes r) j))
        (rest i j (omega arith) g (rw (node_others s c r i, node_others s c r j) at e))

  climbs : (t : Forest) (k f : ℕ) → Placed ps k (parents_from k f t) → k + length (parts t) ≤ no_parent → Separated edge t → Climbs k t
  unfolding Climbs
  climbs empty k f pl small sep a b l h e = absurd (omega (arith, ap length order-empty))
  climbs (tree s c r) k f pl small sep a b l h e =
      let all : length (parts (tree s c r)) ≡ length (parts c) + suc (length (parts r)) = parts-length-tree s c r in
      let pc : PlacedTree ps k f c r = placed-tree ps k f s c r pl in
      at_tree s c r k f pl small sep.2
      (climbs c k (k + length (parts c)) pc.below (omega arith) sep.0)
      (climbs r (suc (k + length (parts c))) f pc.rest (omega arith) sep.1)
      a b (lies s c r a (omega arith)) (lies s c r b h) l e

-- ---- the forest as sizes and parents

full-positive : (t : Forest) → NoneEmpty t → (p : ℕ) → p < length (sizes t) → 0 < get_or (sizes t) p 0
unfolding sizes parts
full-positive empty h = λ p l. absurd (omega arith)
full-positive (tree s c r) h = rw (sizes-tree s c r)
    (positive-append (sizes c) (length s ∷ sizes r) (full-positive c h.0) (positive_cons (length s) (sizes r) h.2 (full-positive r h.1)))

later-known : (t : Forest) (p : ℕ) → parent_of (parents t) p ≢ no_parent → (p < parent_of (parents t) p) × (parent_of (parents t) p < length (parents t))
unfolding parent_of parents
later-known t p h = elim (lt_or_le p (length (parts t))) [
  | inl l ↦ elim (parent-later t 0 no_parent p l) [
    | inl e ↦ absurd (h e)
    | inr e ↦ omega (arith, parents-length t 0 no_parent)
  ]
  | inr l ↦ absurd (h (get_or-eq_default (parents t) no_parent (omega (arith, parents-length t 0 no_parent))))
]

-- sizes that sum to the positions, parents that are later parts
pub forest_tree : (t : Forest) → NoneEmpty t → PartTree (length (order t)) (sizes t) (parents t)
unfolding parents
forest_tree t full = record {
  whole = total-sizes t;
  positive = full-positive t full;
  as_many = omega (arith, parents-length t 0 no_parent, sizes-length t);
  later = λ p h. (later-known t p h).0;
  known = λ p h. (later-known t p h).1;
}

-- every edge joins a position with a later one in its own part or an ancestor's
pub forest_nested : (edge : ℕ → ℕ → Bool) (t : Forest) → NoneEmpty t → length (order t) ≤ no_parent → Separated edge t
    → Nested (length (order t)) (λ a b. edge (node t a) (node t b)) (sizes t) (parents t)
unfolding Climbs parents
forest_nested edge t full small sep a b l h e =
    test_of_under (parents t) (λ p g. (later-known t p g).0) (λ p g. (later-known t p g).1) (part_of (sizes t) a) (part_of (sizes t) b)
    (simp zero-add at (climbs edge (parents t) t 0 no_parent (placed-whole (parents t)) (omega (arith, parts_le t full)) sep a b l h e))
