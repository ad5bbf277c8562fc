-- The positions, parts and parents of a forest.
use mathlib.Core.Path.{◌≡◌, refl, sym, ap, subst, ◌∙◌}
use mathlib.Core.Logic.{◌⊎◌, inl, inr}
use mathlib.Core.List.{map-append, List, [], ◌∷◌, ◌++◌, flatten}
use Prim.Native.Nat.{ℕ, zero, suc, ◌+◌, ◌-◌, ◌<◌}
use native.Mathlib.Nat.{zero-add, add-zero, suc-add, add-suc, add_assoc}
use native.Mathlib.Omega.{arith}
use lib.ListN.{length, get_or, length-append, length-map, get_or-append}
use lib.Seq.{get_or-append-add}
use Rattle.plan.specs.Lists.{total}
use Rattle.plan.specs.Mesh.{no_parent}
use Rattle.plan.specs.Dissection.{Forest, empty, tree, parts, parents_from, order, sizes}
use Rattle.plan.specs.Parts.{part_of, parent_of}
use Rattle.theory.proofs.Bools.{lt_or_le}
use Rattle.theory.proofs.Flatten.{flatten-append}
use Rattle.theory.proofs.Compressed.{total-lengths}
use Rattle.theory.proofs.PartOf.{part-first, part_add, part-append-left, part-append_right}

-- ---- lengths

pub order-empty : order empty ≡ []
unfolding order parts flatten
order-empty = refl

pub order-tree : (s : List ℕ) (c r : Forest) → order (tree s c r) ≡ order c ++ (s ++ order r)
unfolding order parts flatten
order-tree s c r = flatten-append (parts c) (s ∷ parts r)

pub order-length-tree : (s : List ℕ) (c r : Forest) → length (order (tree s c r)) ≡ length (order c) + (length s + length (order r))
order-length-tree s c r = rw (order-tree s c r, length-append (order c), length-append s)

pub sizes-tree : (s : List ℕ) (c r : Forest) → sizes (tree s c r) ≡ sizes c ++ (length s ∷ sizes r)
unfolding sizes parts
sizes-tree s c r = map-append length (parts c) (s ∷ parts r)

pub parts-length-empty : length (parts empty) ≡ 0
unfolding parts
parts-length-empty = refl

pub parts-length-tree : (s : List ℕ) (c r : Forest) → length (parts (tree s c r)) ≡ length (parts c) + suc (length (parts r))
unfolding parts
parts-length-tree s c r = length-append (parts c) (s ∷ parts r)

-- a forest without parts has no position
pub order-none : (t : Forest) → length (parts t) ≡ 0 → order t ≡ []
order-none empty h = order-empty
order-none (tree s c r) h = absurd (omega (arith, parts-length-tree s c r))

pub sizes-length : (t : Forest) → length (sizes t) ≡ length (parts t)
unfolding sizes
sizes-length t = length-map (parts t) length

pub total-sizes : (t : Forest) → total (sizes t) ≡ length (order t)
unfolding sizes order
total-sizes t = total-lengths (parts t)

pub parents-length : (t : Forest) (k f : ℕ) → length (parents_from k f t) ≡ length (parts t)
unfolding parents_from
parents-length empty k f = sym parts-length-empty
parents-length (tree s c r) k f =
    rw length-append (omega (arith, parts-length-tree s c r, parents-length c k (k + length (parts c)), parents-length r (suc (k + length (parts c))) f))

-- ---- where a position of a forest lies: in the children, in the first part, in the other regions

pub data Lies (s : List ℕ) (c r : Forest) : ℕ → Type 0 where
  in_children : (i : ℕ) → i < length (order c) → Lies s c r i
  in_members : (i : ℕ) → i < length s → Lies s c r (length (order c) + i)
  in_others : (i : ℕ) → i < length (order r) → Lies s c r (length (order c) + (length s + i))

pub lies : (s : List ℕ) (c r : Forest) (i : ℕ) → i < length (order (tree s c r)) → Lies s c r i
lies s c r i h = elim (lt_or_le i (length (order c))) [
  | inl l ↦ in_children i l
  | inr l ↦ elim (lt_or_le i (length (order c) + length s)) [
    | inl m ↦ let e : length (order c) + (i - length (order c)) ≡ i = omega arith in
        subst (λ (x : ℕ). Lies s c r x) e (in_members (i - length (order c)) (omega arith))
    | inr m ↦ let k : ℕ = i - length (order c) - length s in
        let e : length (order c) + (length s + k) ≡ i = omega arith in
        subst (λ (x : ℕ). Lies s c r x) e (in_others k (omega (arith, order-length-tree s c r)))
  ]
]

-- the node at a position
abbrev pub node : Forest → ℕ → ℕ
node t i = get_or (order t) i 0

module _ (s : List ℕ) (c r : Forest) where
  pub node_children : (i : ℕ) → i < length (order c) → node (tree s c r) i ≡ node c i
  node_children i h = rw (order-tree s c r) (get_or-append (order c) (s ++ order r) 0 i h)

  pub node_members : (i : ℕ) → i < length s → node (tree s c r) (length (order c) + i) ≡ get_or s i 0
  node_members i h = rw (order-tree s c r, get_or-append-add (order c)) (get_or-append s (order r) 0 i h)

  pub node_others : (i : ℕ) → node (tree s c r) (length (order c) + (length s + i)) ≡ node r i
  node_others i = rw (order-tree s c r, get_or-append-add (order c)) (get_or-append-add s (order r) i 0)

  pub part_children : (i : ℕ) → i < length (order c) → part_of (sizes (tree s c r)) i ≡ part_of (sizes c) i
  part_children i h = rw (sizes-tree s c r) (part-append-left (sizes c) (length s ∷ sizes r) i (omega (arith, total-sizes c)))

  pub part-members : (i : ℕ) → i < length s → part_of (sizes (tree s c r)) (length (order c) + i) ≡ length (parts c)
  part-members i h = rw (sizes-tree s c r, ← total-sizes c, part-append_right (sizes c), part-first (length s) (sizes r) i h) (omega (arith, sizes-length c))

  pub part-others : (i : ℕ) → part_of (sizes (tree s c r)) (length (order c) + (length s + i)) ≡ suc (length (parts c)) + part_of (sizes r) i
  part-others i = rw (sizes-tree s c r, ← total-sizes c, part-append_right (sizes c), part_add (length s) (sizes r) i) (omega (arith, sizes-length c))

-- ---- parents

-- the list l stands in parents from part k on
pub Placed : List ℕ → ℕ → List ℕ → Type 0
Placed parents k l = (i : ℕ) → i < length l → parent_of parents (k + i) ≡ get_or l i no_parent

pub placed-whole : (parents : List ℕ) → Placed parents 0 parents
unfolding Placed
placed-whole parents i l = unfold parent_of in rw zero-add

placed-left : (parents : List ℕ) (k : ℕ) (xs ys : List ℕ) → Placed parents k (xs ++ ys) → Placed parents k xs
unfolding Placed
placed-left parents k xs ys h i l = h i (rw length-append (omega arith)) ∙ get_or-append xs ys no_parent i l

placed_right : (parents : List ℕ) (k : ℕ) (xs ys : List ℕ) → Placed parents k (xs ++ ys) → Placed parents (k + length xs) ys
unfolding Placed
placed_right parents k xs ys h i l = rw (add_assoc k (length xs) i) (h (length xs + i) (rw length-append (omega arith)) ∙ get_or-append-add xs ys i no_parent)

placed_tail : (parents : List ℕ) (k x : ℕ) (ys : List ℕ) → Placed parents k (x ∷ ys) → Placed parents (suc k) ys
unfolding Placed
placed_tail parents k x ys h i l = rw (suc-add, ← add-suc k i) (h (suc i) (omega arith))

placed-head : (parents : List ℕ) (k x : ℕ) (ys : List ℕ) → Placed parents k (x ∷ ys) → parent_of parents k ≡ x
unfolding Placed
placed-head parents k x ys h = rw add-zero at (h 0 (omega arith))

-- where the parents of a forest stand
pub record PlacedTree (parents : List ℕ) (k f : ℕ) (c r : Forest) : Type 0 where
  pub below : Placed parents k (parents_from k (k + length (parts c)) c)
  pub top : parent_of parents (k + length (parts c)) ≡ f
  pub rest : Placed parents (suc (k + length (parts c))) (parents_from (suc (k + length (parts c))) f r)

pub placed-tree : (parents : List ℕ) (k f : ℕ) (s : List ℕ) (c r : Forest) → Placed parents k (parents_from k f (tree s c r)) → PlacedTree parents k f c r
unfolding parents_from
placed-tree parents k f s c r h =
    let xs : List ℕ = parents_from k (k + length (parts c)) c in
    let ys : List ℕ = parents_from (suc (k + length (parts c))) f r in
    let right : Placed parents (k + length (parts c)) (f ∷ ys) = rw (parents-length c k (k + length (parts c))) at (placed_right parents k xs (f ∷ ys) h) in
    record { below = placed-left parents k xs (f ∷ ys) h; top = placed-head parents (k + length (parts c)) f ys right; rest = placed_tail parents (k + length (parts c)) f ys right }

-- x is the given parent f, or a part later than p and below e
abbrev pub Later : ℕ → ℕ → ℕ → ℕ → Type 0
Later f p e x = (x ≡ f) ⊎ ((p < x) × (x < e))

later-rest : (f p e k m : ℕ) (ys : List ℕ) (j : ℕ) → p ≡ k + j → e ≡ suc (k + m) → j < suc m
    → ((i : ℕ) → i < m → Later f (suc k + i) (suc k + m) (get_or ys i no_parent)) → Later f p e (get_or (f ∷ ys) j no_parent)
later-rest f p e k m ys zero u v l ih = inl refl
later-rest f p e k m ys (suc j) u v l ih = elim (ih j (omega arith)) [
  | inl same ↦ inl same
  | inr later ↦ inr (omega arith)
]

pub parent-later : (t : Forest) (k f i : ℕ) → i < length (parts t) → Later f (k + i) (k + length (parts t)) (get_or (parents_from k f t) i no_parent)
unfolding parents_from
parent-later empty k f i h = absurd (omega (arith, parts-length-empty))
parent-later (tree s c r) k f i h =
    let all : length (parts (tree s c r)) ≡ length (parts c) + suc (length (parts r)) = parts-length-tree s c r in
    let xs : List ℕ = parents_from k (k + length (parts c)) c in
    let ys : List ℕ = parents_from (suc (k + length (parts c))) f r in
    let len : length xs ≡ length (parts c) = parents-length c k (k + length (parts c)) in
    elim (lt_or_le i (length (parts c))) [
      | inl l ↦ rw (get_or-append xs (f ∷ ys) no_parent i (omega arith))
          (inr (elim (parent-later c k (k + length (parts c)) i l) [ inl e ↦ omega arith | inr e ↦ omega arith ]))
      | inr l ↦
          let at : length xs + (i - length (parts c)) ≡ i = omega arith in
          let g : get_or (xs ++ (f ∷ ys)) i no_parent ≡ get_or (f ∷ ys) (i - length (parts c)) no_parent =
          ap (λ (x : ℕ). get_or (xs ++ (f ∷ ys)) x no_parent) (sym at) ∙ get_or-append-add xs (f ∷ ys) (i - length (parts c)) no_parent in
          rw g (later-rest f (k + i) (k + length (parts (tree s c r))) (k + length (parts c)) (length (parts r)) ys (i - length (parts c)) (omega arith) (omega arith) (omega arith)
          (parent-later r (suc (k + length (parts c))) f))
    ]
