-- Dissection by any choice that takes a non-empty part from each region: it holds each node once, its parts make a tree, and they are nested.
use mathlib.Core.Path.{◌≡◌, refl, sym, ap, ap₂, subst, ◌∙◌}
use mathlib.Core.Bool.{Bool, true, not}
use mathlib.Core.List.{List, [], ◌∷◌, ◌++◌, flatten}
use Prim.Native.Nat.{ℕ, zero, suc, ◌+◌, ◌≤◌}
use native.Mathlib.Omega.{arith}
use lib.Dec.{eqb}
use lib.ListN.{length, get_or, length-append}
use Rattle.plan.specs.Lists.{below, is_in, without}
use Rattle.plan.specs.Mesh.{no_parent}
use Rattle.plan.specs.Levels.{Graph, components}
use Rattle.plan.specs.Dissection.{Forest, tree, dissect, dissection, parts, parents, order, sizes}
use Rattle.theory.specs.Counting.{count, Order}
use Rattle.theory.specs.Regions.{All, Apart, Region, Takes}
use Rattle.theory.specs.PartTree.{PartTree, Nested}
use Rattle.theory.proofs.Ranges.{length-up_from}
use Rattle.theory.proofs.Flatten.{flatten_nil, flatten_cons}
use Rattle.theory.proofs.Ascending.{ascending-up_from, ascending-keep}
use Rattle.theory.proofs.Counting.{count-append, count-all, count_le, exists-count, count-exists, same-members, same_length}
use Rattle.theory.proofs.Orders.{order-length}
use Rattle.theory.proofs.Components.{components-count, components-apart, components-regions}
use Rattle.theory.proofs.Forest.{order-empty, order-tree, order-none}
use Rattle.theory.proofs.Nested.{Separated, NoneEmpty, parts_le, forest_tree, forest_nested}

-- what the cut leaves of a region: "What is left of the region falls into components, each a region"
abbrev pub regions_left : Graph → (List ℕ → List ℕ) → List ℕ → List (List ℕ)
regions_left edge choose r = components edge (without (choose r) r)

pub left-regions : (edge : Graph) (choose : List ℕ → List ℕ) (r : List ℕ) → Region edge r → All (Region edge) (regions_left edge choose r)
left-regions edge choose r h = components-regions edge (without (choose r) r) (ascending-keep (λ v. not (is_in v (choose r))) r h.ascends)

-- "The first regions are the components of the whole mesh"
pub first-regions : (edge : Graph) (n : ℕ) → All (Region edge) (components edge (below n))
first-regions edge n = components-regions edge (below n) (ascending-up_from n 0)

-- together they have n nodes
pub first-regions-length : (edge : Graph) (n : ℕ) → length (flatten (components edge (below n))) ≡ n
first-regions-length edge n = same_length (flatten (components edge (below n))) (below n) (components-count edge (below n)) ∙ length-up_from n 0

module _ (edge : Graph) (choose : List ℕ → List ℕ) (takes : Takes edge choose) where
  abbrev left : List ℕ → List (List ℕ)
  left = regions_left edge choose

  -- the part and what the cut leaves make up the region
  pub part_count : (r : List ℕ) → Region edge r → (p : ℕ → Bool) → count p (choose r) + count p (flatten (left r)) ≡ count p r
  part_count r h p = omega (arith, takes.rest r h p, components-count edge (without (choose r) r) p)

  -- so they have as many nodes
  pub part_length : (r : List ℕ) → Region edge r → length (choose r) + length (flatten (left r)) ≡ length r
  part_length r h = omega (arith, part_count r h (λ x. true), count-all (choose r), count-all (flatten (left r)), count-all r)

  -- one less in the bound is enough for what is left and for the other regions
  pub left_fit : (r : List ℕ) (rs : List (List ℕ)) (most : ℕ) → Region edge r → length (flatten (r ∷ rs)) ≤ suc most → length (flatten (left r)) ≤ most
  left_fit r rs most h l = omega (arith, ap length (flatten_cons r rs), part_length r h, takes.some r h, length-append r (flatten rs))

  pub others_fit : (r : List ℕ) (rs : List (List ℕ)) (most : ℕ) → Region edge r → length (flatten (r ∷ rs)) ≤ suc most → length (flatten rs) ≤ most
  others_fit r rs most h l = omega (arith, ap length (flatten_cons r rs), part_length r h, takes.some r h, length-append r (flatten rs))

  -- every test counts alike in the regions and in the dissection
  dissect-count : (most : ℕ) (rs : List (List ℕ)) → All (Region edge) rs → length (flatten rs) ≤ most
      → (p : ℕ → Bool) → count p (order (dissect most edge choose rs)) ≡ count p (flatten rs)
  unfolding dissect
  dissect-count zero rs all l p = omega (arith, count_le p (flatten rs), ap (count p) order-empty)
  dissect-count (suc most) [] all l p = ap (count p) order-empty ∙ sym (ap (count p) flatten_nil)
  dissect-count (suc most) (r ∷ rs) all l p =
      let c : Forest = dissect most edge choose (left r) in
      let o : Forest = dissect most edge choose rs in
      omega (
        arith,
        ap (count p) (order-tree (choose r) c o),
        count-append p (order c) (choose r ++ order o),
        count-append p (choose r) (order o),
        dissect-count most (left r) (left-regions edge choose r all.0) (left_fit r rs most all.0 l) p,
        dissect-count most rs all.1 (others_fit r rs most all.0 l) p,
        part_count r all.0 p,
        ap (count p) (flatten_cons r rs),
        count-append p r (flatten rs),
      )

  -- where the dissection of what is left has no part, nothing is left: the part is as long as the region
  pub part_alone : (most : ℕ) (r : List ℕ) (rs : List (List ℕ)) → Region edge r → length (flatten (r ∷ rs)) ≤ suc most
      → length (parts (dissect most edge choose (left r))) ≡ 0 → length (choose r) ≡ length r
  part_alone most r rs h l none =
      let c : Forest = dissect most edge choose (left r) in
      omega (
        arith,
        part_length r h,
        count-all (flatten (left r)),
        dissect-count most (left r) (left-regions edge choose r h) (left_fit r rs most h l) (λ x. true),
        count-all (order c),
        ap length (order-none c none),
      )

  -- where there is a region, there is a node
  none_left : (r : List ℕ) (rs : List (List ℕ)) → Region edge r → length (flatten (r ∷ rs)) ≤ 0 → ⊥
  none_left r rs h l = omega (arith, ap length (flatten_cons r rs), length-append r (flatten rs), h.some)

  -- two bounds that are large enough give the same dissection
  dissect-same : (most more : ℕ) (rs : List (List ℕ)) → All (Region edge) rs → length (flatten rs) ≤ most → length (flatten rs) ≤ more
      → dissect most edge choose rs ≡ dissect more edge choose rs
  unfolding dissect
  dissect-same zero zero rs all l k = refl
  dissect-same zero (suc more) [] all l k = refl
  dissect-same zero (suc more) (r ∷ rs) all l k = absurd (none_left r rs all.0 l)
  dissect-same (suc most) zero [] all l k = refl
  dissect-same (suc most) zero (r ∷ rs) all l k = absurd (none_left r rs all.0 k)
  dissect-same (suc most) (suc more) [] all l k = refl
  dissect-same (suc most) (suc more) (r ∷ rs) all l k =
      ap₂ (λ (c o : Forest). tree (choose r) c o)
      (dissect-same most more (left r) (left-regions edge choose r all.0) (left_fit r rs most all.0 l) (left_fit r rs more all.0 k))
      (dissect-same most more rs all.1 (others_fit r rs most all.0 l) (others_fit r rs more all.0 k))

  dissect-none-empty : (most : ℕ) (rs : List (List ℕ)) → All (Region edge) rs → NoneEmpty (dissect most edge choose rs)
  unfolding dissect
  dissect-none-empty zero rs all = tt
  dissect-none-empty (suc most) [] all = tt
  dissect-none-empty (suc most) (r ∷ rs) all =
      (dissect-none-empty most (left r) (left-regions edge choose r all.0), dissect-none-empty most rs all.1, takes.some r all.0)

  dissect_separated : (most : ℕ) (rs : List (List ℕ)) → All (Region edge) rs → Apart edge rs → length (flatten rs) ≤ most
      → Separated edge (dissect most edge choose rs)
  unfolding dissect
  dissect_separated zero rs all apart l = tt
  dissect_separated (suc most) [] all apart l = tt
  dissect_separated (suc most) (r ∷ rs) all apart l =
      let c : Forest = dissect most edge choose (left r) in
      let fc : length (flatten (left r)) ≤ most = left_fit r rs most all.0 l in
      let fo : length (flatten rs) ≤ most = others_fit r rs most all.0 l in (
        dissect_separated most (left r) (left-regions edge choose r all.0) (components-apart edge (without (choose r) r)) fc,
        dissect_separated most rs all.1 apart.1 fo,
        λ a b ha hb. apart.0 a b
            (count-exists (eqb a) r (omega (
              arith,
              exists-count (eqb a) (order c ++ choose r) ha,
              count-append (eqb a) (order c) (choose r),
              dissect-count most (left r) (left-regions edge choose r all.0) fc (eqb a),
              part_count r all.0 (eqb a),
            )))
            (same-members (order (dissect most edge choose rs)) (flatten rs) (dissect-count most rs all.1 fo) b hb),
      )

  module _ (n : ℕ) where
    -- the order holds each node once: every test counts alike in it and in 0, .., n - 1
    pub order-count : Order n (order (dissection edge choose n))
    unfolding dissection
    order-count p = dissect-count n (components edge (below n)) (first-regions edge n) (omega (arith, first-regions-length edge n)) p ∙ components-count edge (below n) p

    all-positions : length (order (dissection edge choose n)) ≡ n
    all-positions = order-length n (order (dissection edge choose n)) order-count

    none-empty : NoneEmpty (dissection edge choose n)
    unfolding dissection
    none-empty = dissect-none-empty n (components edge (below n)) (first-regions edge n)

    -- there are at most as many parts as nodes
    pub parts-few : length (parts (dissection edge choose n)) ≤ n
    parts-few = omega (arith, parts_le (dissection edge choose n) none-empty, all-positions)

    separated : Separated edge (dissection edge choose n)
    unfolding dissection
    separated = dissect_separated n (components edge (below n)) (first-regions edge n) (components-apart edge (below n)) (omega (arith, first-regions-length edge n))

    -- the sizes sum to n, and the parents are later parts
    pub dissection-tree : PartTree n (sizes (dissection edge choose n)) (parents (dissection edge choose n))
    dissection-tree =
        let t : Forest = dissection edge choose n in
        subst (λ (k : ℕ). PartTree k (sizes t) (parents t)) all-positions (forest_tree t none-empty)

    -- every edge joins a position with one in its own part or an ancestor's
    pub dissection-nested : n ≤ no_parent → let t : Forest = dissection edge choose n in
        Nested n (λ a b. edge (get_or (order t) a 0) (get_or (order t) b 0)) (sizes t) (parents t)
    dissection-nested small =
        let t : Forest = dissection edge choose n in
        subst (λ (k : ℕ). Nested k (λ a b. edge (get_or (order t) a 0) (get_or (order t) b 0)) (sizes t) (parents t)) all-positions
        (forest_nested edge t none-empty (omega (arith, all-positions)) separated)

    -- any bound from the number of nodes on gives the same dissection
    pub dissection-same : (most : ℕ) → n ≤ most → dissect most edge choose (components edge (below n)) ≡ dissection edge choose n
    unfolding dissection
    dissection-same most l = dissect-same most n (components edge (below n)) (first-regions edge n) (omega (arith, first-regions-length edge n)) (omega (arith, first-regions-length edge n))
