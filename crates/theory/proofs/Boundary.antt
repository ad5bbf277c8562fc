-- The boundary of a part's region, counted by nodes as the book does, is counted by positions as the bound's proof does.
use mathlib.Core.Path.{◌≡◌, sym, ap, ap₂, ◌∙◌}
use mathlib.Core.Bool.{Bool, true, not, ◌&&◌}
use mathlib.Core.List.{List}
use Prim.Native.Nat.{ℕ, ◌<◌}
use lib.Dec.{eqb}
use lib.ListN.{length, get_or}
use borrow.Author.Tests.{eqb-true}
use Rattle.plan.specs.Lists.{exists, keep, below, is_in}
use Rattle.plan.specs.Mesh.{Mesh, adjacent}
use Rattle.plan.specs.Parts.{part_of, at_or_above, nodes_where, region_of_part, boundary, boundary_size}
use Rattle.theory.specs.Counting.{count, Order}
use Rattle.theory.specs.Rows.{edge_at}
use Rattle.theory.specs.PartTree.{borders, boundary_count}
use Rattle.theory.proofs.Bools.{and_left, and_right, and_both, iff_eq, eqb_same}
use Rattle.theory.proofs.Lists.{exists-is_in, is_in-exists, exists-map, exists-keep, in_keep, of_keep}
use Rattle.theory.proofs.Ranges.{is_in-below, below-is_in, map-get_or}
use Rattle.theory.proofs.Counting.{count_ext, count_map}
use Rattle.theory.proofs.Orders.{order-length, order-inside, order_distinct}

-- a node among those at the positions that pass a test stands at such a position
pub of_where : (test : ℕ → Bool) (order : List ℕ) (v : ℕ) → is_in v (nodes_where test order) ≡ true
    → (i : ℕ) × (i < length order) × (v ≡ get_or order i 0) × (test i ≡ true)
unfolding nodes_where
of_where test order v h =
    let node : ℕ → ℕ = λ i. get_or order i 0 in
    let positions : List ℕ = below (length order) in
    let r = exists-is_in (λ i. eqb v (node i)) (keep test positions) (sym (exists-map (eqb v) node (keep test positions)) ∙ h) in
    let k = of_keep test positions r.0 r.1 in
    (r.0, is_in-below (length order) r.0 k.0, eqb-true v (node r.0) r.2, k.1)

module _ (m : Mesh) (order : List ℕ) (once : Order m.nodes order) (test : ℕ → Bool) where
  abbrev node : ℕ → ℕ
  node i = get_or order i 0

  -- whether a node's test holds somewhere among the nodes at the positions that pass
  exists_where : (p : ℕ → Bool) → exists p (nodes_where test order) ≡ exists (λ i. test i && p (node i)) (below m.nodes)
  unfolding nodes_where
  exists_where p =
      exists-map p node (keep test (below (length order)))
      ∙ exists-keep (λ i. p (node i)) test (below (length order))
      ∙ ap (λ (n : ℕ). exists (λ i. test i && p (node i)) (below n)) (order-length m.nodes order once)

  -- the node at a position is among them where the position passes
  is_in_where : (i : ℕ) → i < m.nodes → is_in (node i) (nodes_where test order) ≡ test i
  is_in_where i l = exists_where (eqb (node i)) ∙ iff_eq _ _ there back
    where
      there : exists (λ k. test k && eqb (node i) (node k)) (below m.nodes) ≡ true → test i ≡ true
      there h =
          let r = exists-is_in (λ k. test k && eqb (node i) (node k)) (below m.nodes) h in
          let k : ℕ = r.0 in
          let same : i ≡ k = order_distinct m.nodes order once i k l (is_in-below m.nodes k r.1) (eqb-true (node i) (node k) (and_right (test k) _ r.2)) in
          ap test same ∙ and_left (test k) _ r.2

      back : test i ≡ true → exists (λ k. test k && eqb (node i) (node k)) (below m.nodes) ≡ true
      back t = is_in-exists (λ k. test k && eqb (node i) (node k)) (below m.nodes) i (below-is_in m.nodes i l) (and_both (test i) _ t (eqb_same (node i)))

module _ (m : Mesh) (order sizes parents : List ℕ) (once : Order m.nodes order) (q : ℕ) where
  -- whether a node borders the region of part q
  borders_region : ℕ → Bool
  borders_region v = let region : List ℕ = region_of_part order sizes parents q in not (is_in v region) && exists (adjacent m v) region

  -- by position
  borders_at : (i : ℕ) → i < m.nodes → borders_region (get_or order i 0) ≡ borders m.nodes (edge_at m order) sizes parents q i
  unfolding borders_region region_of_part borders edge_at
  borders_at i l =
      let inside : ℕ → Bool = λ x. at_or_above parents (part_of sizes x) q in
      ap₂ (λ (a b : Bool). not a && b) (is_in_where m order once inside i l) (exists_where m order once inside (adjacent m (get_or order i 0)))

  -- the node at a position that borders is one of the nodes bordering the region
  pub in_boundary : (i : ℕ) → i < m.nodes → borders m.nodes (edge_at m order) sizes parents q i ≡ true → is_in (get_or order i 0) (boundary m (region_of_part order sizes parents q)) ≡ true
  unfolding boundary borders_region
  in_boundary i l h = in_keep borders_region (below m.nodes) (get_or order i 0) (below-is_in m.nodes (get_or order i 0) (order-inside m.nodes order once i l)) (borders_at i l ∙ h)

  -- "Nodes bordering it", as many by nodes as by positions
  pub boundary_size_lem : boundary_size m order sizes parents q ≡ boundary_count m.nodes (edge_at m order) sizes parents q
  unfolding boundary_size boundary boundary_count borders_region
  boundary_size_lem =
      let n : ℕ = m.nodes in
      sym (once borders_region)
      ∙ ap (count borders_region) (sym (map-get_or order))
      ∙ count_map borders_region (λ i. get_or order i 0) (below (length order))
      ∙ ap (λ (k : ℕ). count (λ i. borders_region (get_or order i 0)) (below k)) (order-length n order once)
      ∙ count_ext (λ i. borders_region (get_or order i 0)) (borders n (edge_at m order) sizes parents q) (below n) (λ i h. borders_at i (is_in-below n i h))
