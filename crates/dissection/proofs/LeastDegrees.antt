-- Degrees by the numbers of a region, and the node of least degree that leads each group while nodes are passed.
use mathlib.Core.Path.{◌≡◌, refl, sym, ap, ◌∙◌}
use mathlib.Core.Logic.{inl, inr}
use mathlib.Core.Bool.{Bool, true, false, not, cond, ◌&&◌}
use mathlib.Core.List.{List, [], ◌∷◌, ◌++◌}
use Prim.Native.Nat.{ℕ, ◌+◌, ◌≤◌, ◌<◌}
use native.Mathlib.Omega.{arith}
use lib.Dec.{eqb, ltb}
use lib.ListN.{length, get_or, take, set}
use lib.Seq.{take_all, get_or-set_same, get_or-set_other}
use borrow.Author.Tests.{eq-eqb, ne_eqb, lt-ltb, le-ltb}
use Rattle.plan.specs.Lists.{keep, is_in}
use Rattle.plan.specs.Mesh.{Mesh, neighbours_of, adjacent}
use Rattle.plan.specs.Choice.{degree_in, lesser, least_from, least_degree}
use Rattle.theory.specs.Checked.{Checked}
use Rattle.theory.proofs.Bools.{tested, eq_or_ne}
use Rattle.theory.proofs.Lists.{keep_more}
use Rattle.theory.proofs.Counting.{count_le, count_ext}
use Rattle.mesh.specs.Lists.{none}
use Rattle.dissection.specs.Numbers.{outside, Within, grouped}
use Rattle.dissection.specs.Standing.{Standing}
use Rattle.dissection.specs.Degrees.{is_inside, degree_by, Leads, Compared}
use Rattle.dissection.proofs.Grouped.{has_number, group_at}
use Rattle.dissection.proofs.Standing.{number-inside}

-- ---- the degree by the numbers

-- no degree is as great as the number that stands for none: a list has at most 26 entries
pub degree_few : (m : Mesh) → Checked m → (numbers : List ℕ) (v : ℕ) → degree_by m numbers v < none
degree_few m h numbers v = omega (arith, count_le (is_inside numbers) (neighbours_of m v), h.short v)

module _ (m : Mesh) (nodes : List ℕ) (within : Within m.nodes nodes) (root : ℕ) (checked : Checked m) (numbers : List ℕ) (standing : Standing m nodes root numbers) where
  -- where the levels from a root stand in the numbers, they tell the nodes of the region
  inside_is : (v : ℕ) → v < m.nodes → is_inside numbers v ≡ is_in v nodes
  inside_is v lt = elim (tested (is_in v nodes)) [
    | inl t ↦ ap not (ne_eqb (get_or numbers v 0) outside (number-inside m nodes within root checked numbers standing v t)) ∙ sym t
    | inr t ↦ ap not (eq-eqb (get_or numbers v 0) outside (standing.only v lt t)) ∙ sym t
  ]

  -- so the degree by them is the book's
  pub degree_in_lem : (v : ℕ) → degree_by m numbers v ≡ degree_in m nodes v
  unfolding degree_in adjacent
  degree_in_lem v = count_ext (is_inside numbers) (λ w. is_in w nodes) (neighbours_of m v) (λ w t. inside_is w (checked.inside v w t).1)

-- ---- a node of least degree

-- equal degrees have the same node of least degree
pub least_degree_ext : (f g : ℕ → ℕ) → ((v : ℕ) → f v ≡ g v) → (l : List ℕ) → least_degree f l ≡ least_degree g l
unfolding least_degree least_from lesser
least_degree_ext f g e [] = refl
least_degree_ext f g e (v ∷ l) = go v l
  where
    go : (v : ℕ) (l : List ℕ) → least_from f v l ≡ least_from g v l
    go v [] = refl
    go v (w ∷ l) = rw (e w, e v) (go (lesser g v w) l)

module _ (degree : ℕ → ℕ) where
  -- the least of v and a list with one more at the end
  least_snoc : (v : ℕ) (l : List ℕ) (x : ℕ) → least_from degree v (l ++ (x ∷ [])) ≡ lesser degree (least_from degree v l) x
  unfolding least_from
  least_snoc v [] x = refl
  least_snoc v (w ∷ l) x = least_snoc (lesser degree v w) l x

  -- a group that has a node is led by the book's
  pub leads_least : (l : List ℕ) (best least : ℕ) → 0 < length l → Leads degree l best least → best ≡ least_degree degree l
  leads_least [] best least some h = absurd (omega arith)
  leads_least (v ∷ l) best least some h = h.0

  -- one more node at the end leads if its degree is less
  leads_more : (l : List ℕ) (best least x : ℕ) → degree x < none → Leads degree l best least
      → Leads degree (l ++ (x ∷ [])) (cond (ltb (degree x) least) x best) (cond (ltb (degree x) least) (degree x) least)
  unfolding least_degree least_from lesser
  leads_more [] best least x few h = rw (h, lt-ltb (degree x) none few) (refl, refl)
  leads_more (v ∷ l) best least x few h = rw (least_snoc v l x, ← h.0, h.1) (go (ltb (degree x) (degree best)))
    where
      go : (b : Bool) → (cond b x best ≡ cond b x best) × (cond b (degree x) (degree best) ≡ degree (cond b x best))
      go true = (refl, refl)
      go false = (refl, refl)

  -- ---- one node compared, by what is stored

  module _ (v : ℕ) (groups : List ℕ) (count : ℕ) (best degrees : List ℕ) where
    -- a node of none of the first `count` groups changes nothing
    pub compared_not : count ≤ get_or groups v 0 → Compared degree v groups count best degrees best degrees
    compared_not h c lt = rw (ne_eqb (get_or groups v 0) c (λ e. omega arith)) (refl, refl)

    module _ (g : ℕ) (own : g ≡ get_or groups v 0) where
      -- nor does one whose degree is not less
      pub compared_more : get_or degrees g 0 ≤ degree v → Compared degree v groups count best degrees best degrees
      compared_more h c lt = elim (eq_or_ne c g) [
        | inl e ↦ rw (e, ← own, le-ltb (degree v) (get_or degrees g 0) h) (go (eqb g g))
        | inr e ↦ rw (ne_eqb (get_or groups v 0) c (λ f. e (sym f ∙ sym own))) (refl, refl)
      ]
        where
          go : (b : Bool) → (get_or best g 0 ≡ cond (b && false) v (get_or best g 0)) × (get_or degrees g 0 ≡ cond (b && false) (degree v) (get_or degrees g 0))
          go true = (refl, refl)
          go false = (refl, refl)

      -- one whose degree is less is stored
      pub compared_less : g < length best → g < length degrees → degree v < get_or degrees g 0
          → Compared degree v groups count best degrees (set best g v) (set degrees g (degree v))
      compared_less long wide h c lt = elim (eq_or_ne c g) [
        | inl e ↦ rw (e, ← own, eq-eqb g g refl, lt-ltb (degree v) (get_or degrees g 0) h) (get_or-set_same best g v 0 long, get_or-set_same degrees g (degree v) 0 wide)
        | inr e ↦ rw (ne_eqb (get_or groups v 0) c (λ f. e (sym f ∙ sym own))) (get_or-set_other best g c v 0 e, get_or-set_other degrees g c (degree v) 0 e)
      ]

-- ---- all nodes

-- each of the first `count` groups of nodes is led
abbrev pub Leading : (ℕ → ℕ) → List ℕ → ℕ → List ℕ → List ℕ → List ℕ → Type 0
Leading degree groups count nodes best degrees = (c : ℕ) → c < count → Leads degree (keep (has_number groups c) nodes) (get_or best c 0) (get_or degrees c 0)

module _ (degree : ℕ → ℕ) (nodes groups : List ℕ) (count : ℕ) where
  -- one more node is compared
  pub leading_more : (i : ℕ) (best degrees best₁ degrees₁ : List ℕ) → i < length nodes → degree (get_or nodes i 0) < none
      → Leading degree groups count (take i nodes) best degrees → Compared degree (get_or nodes i 0) groups count best degrees best₁ degrees₁
      → Leading degree groups count (take (i + 1) nodes) best₁ degrees₁
  leading_more i best degrees best₁ degrees₁ lt few h compared c less =
      rw ((compared c less).0, (compared c less).1, keep_more (has_number groups c) nodes i lt) (go (has_number groups c v))
    where
      v : ℕ
      v = get_or nodes i 0

      passed : ℕ → List ℕ
      passed c = keep (has_number groups c) (take i nodes)

      go : (b : Bool) → Leads degree (cond b (passed c ++ (v ∷ [])) (passed c)) (cond (b && ltb (degree v) (get_or degrees c 0)) v (get_or best c 0))
          (cond (b && ltb (degree v) (get_or degrees c 0)) (degree v) (get_or degrees c 0))
      go true = leads_more degree (passed c) (get_or best c 0) (get_or degrees c 0) v few (h c less)
      go false = h c less

  -- all are compared
  pub leading-all : (i : ℕ) (best degrees : List ℕ) → length nodes ≤ i → Leading degree groups count (take i nodes) best degrees
      → (c : ℕ) → c < count → Leads degree (get_or (grouped count groups nodes) c []) (get_or best c 0) (get_or degrees c 0)
  leading-all i best degrees le h c lt = rw (group_at count groups nodes c lt, ← take_all i nodes le) (h c lt)
