-- What joining answers: from the checks of what is lent, through where the nodes go and come from, to the joined mesh in the buffers.
use mathlib.Core.Path.{◌≡◌, sym, ap, subst, ◌∙◌}
use mathlib.Core.Bool.{true, false}
use mathlib.Core.List.{List, [], ◌∷◌, ◌++◌, map}
use Prim.Native.Nat.{ℕ, ◌+◌, ◌-◌, ◌≤◌, ◌<◌}
use native.Mathlib.Omega.{arith}
use lib.ListN.{length, take, get_or}
use lib.Seq.{get_or-take, length-take-le, ext_get_or}
use Rattle.std.specs.Prelude.{Result, Err, ◌≢◌}
use Rattle.plan.specs.declared.MeshCounts.{MeshCounts}
use Rattle.plan.specs.declared.refusal.Refusal.{Refusal}
use Rattle.plan.specs.declared.refusal.Refusal.TheVariants.{NodeCount}
use Rattle.plan.specs.Lists.{below, twice, index_of}
use Rattle.plan.specs.Refusals.{Checks, number_of, first_fault}
use Rattle.plan.specs.Mesh.{max_nodes, Mesh, bad_node_count, mesh_checks}
use Rattle.plan.specs.MadeMesh.{mesh_of, MeshBuffers, mesh_capacity, made_checks, hand_mesh, MeshFilled}
use Rattle.plan.specs.Joining.{Pairing, bad_pairing, paired_twice, goes_to, joined_nodes, comes_from, joined_mesh, lent_checks, join_checks, joining, MeshesJoined}
use Rattle.theory.proofs.Ranges.{get_or-map-below, length-map-up_from}
use Rattle.theory.proofs.Ascending.{ascending-up_from}
use Rattle.theory.proofs.Refusals.{number-suc, first_some, fault_here, fault_later}
use Rattle.theory.proofs.Checked.{node_count, mesh-passed}
use Rattle.theory.proofs.Twice.{once-ascending, once-map}
use Rattle.theory.proofs.HandedMesh.{refused-mesh}
use Rattle.theory.proofs.JoinedNodes.{goes_inside, goes_apart, nodes-many}
use Rattle.theory.proofs.JoinedMesh.{LentPassed, lent-passed, lent-behind}
use Rattle.join.specs.Lists.{merged_lists, Mergeable}
use Rattle.join.specs.Numbers.{Destinations}
use Rattle.join.specs.Checks.{list_checks, ListsHanded}
use Rattle.join.proofs.MergedLists.{lists_joined}

-- a refusal has a number
refused-some : (r : Refusal) (k : ℕ) → number_of r ≡ k → k ≢ 0
refused-some r k h z = let s = number-suc r in absurd (omega (arith, s.1, h, z))

module _ (a b : Mesh) (p : Pairing) where
  -- the checks of the pairs
  abbrev pub pair_checks : Checks
  pair_checks = (32, bad_pairing a.nodes b.nodes p) ∷ (33, paired_twice p) ∷ []

  module _ (none1 : 0 ≡ first_fault (mesh_checks a)) where
    -- behind a first mesh without a fault come the checks of the second
    behind-first : first_fault (lent_checks a b p) ≡ first_fault (mesh_checks b ++ pair_checks)
    unfolding lent_checks
    behind-first = mesh-passed a (mesh_checks b ++ pair_checks) (sym none1)

    -- and behind that those of the pairs
    pub behind-second : 0 ≡ first_fault (mesh_checks b) → first_fault (lent_checks a b p) ≡ first_fault pair_checks
    behind-second none2 = behind-first ∙ mesh-passed b pair_checks (sym none2)

module _ (a b : Mesh) (p : Pairing) (found : MeshBuffers) where
  -- where a check finds a fault: its number, and the buffers as they were
  refused_join : (r : Refusal) → first_fault (join_checks a b p (mesh_capacity found)) ≡ number_of r → MeshesJoined a b p (Err r) found found
  unfolding joining
  refused_join r h = rw h (refused-mesh (joined_mesh a b p) found r)

  -- of what is lent
  refused-lent : (r : Refusal) → number_of r ≡ first_fault (lent_checks a b p) → MeshesJoined a b p (Err r) found found
  refused-lent r h = refused_join r (unfold join_checks in first_some (lent_checks a b p) _ (refused-some r _ h) ∙ sym h)

  -- of the first mesh, of the second, and of the pairs
  pub refused_first : (r : Refusal) → number_of r ≡ first_fault (mesh_checks a) → MeshesJoined a b p (Err r) found found
  refused_first r h = refused-lent r (h ∙ sym (unfold lent_checks in first_some (mesh_checks a) _ (refused-some r _ h)))

  pub refused_second : (r : Refusal) → 0 ≡ first_fault (mesh_checks a) → number_of r ≡ first_fault (mesh_checks b) → MeshesJoined a b p (Err r) found found
  refused_second r none1 h = refused-lent r (h ∙ sym (behind-first a b p none1 ∙ first_some (mesh_checks b) (pair_checks a b p) (refused-some r _ h)))

  pub refused_pairs : (r : Refusal) → 0 ≡ first_fault (mesh_checks a) → 0 ≡ first_fault (mesh_checks b) → number_of r ≡ first_fault (pair_checks a b p) → MeshesJoined a b p (Err r) found found
  refused_pairs r none1 none2 h = refused-lent r (h ∙ sym (behind-second a b p none1 none2))

-- what is so of a mesh that was checked is so of the mesh as lent
pub carried : (a b a₁ b₁ : Mesh) (p : Pairing) → a₁ ≡ a → b₁ ≡ b → (found left : MeshBuffers) (answer : Result MeshCounts Refusal)
    → MeshesJoined a₁ b₁ p answer found left → MeshesJoined a b p answer found left
carried a b a₁ b₁ p e f found left answer h = subst (λ (m : Mesh). MeshesJoined m b p answer found left) e (subst (λ (m : Mesh). MeshesJoined a₁ m p answer found left) f h)

pub carried_clear : (a a₁ : Mesh) → a₁ ≡ a → 0 ≡ first_fault (mesh_checks a) → 0 ≡ first_fault (mesh_checks a₁)
carried_clear a a₁ e none = none ∙ sym (ap (λ (m : Mesh). first_fault (mesh_checks m)) e)

module _ (a b : Mesh) (p : Pairing) (none : first_fault (lent_checks a b p) ≡ 0) where
  pub passed : LentPassed a b p
  passed = lent-passed a b p none

  -- the nodes of the joined mesh, as they are counted
  pub nodes_counted : (length p.first ≤ a.nodes + b.nodes) × (a.nodes + b.nodes - length p.first ≡ joined_nodes a.nodes b.nodes p)
  nodes_counted = let many = nodes-many a.nodes b.nodes p passed.pairs in (omega (arith, many, passed.pairs.as_many), omega (arith, many, passed.pairs.as_many))

  -- of their number
  pub refused_count : (found : MeshBuffers) → bad_node_count (a.nodes + b.nodes - length p.first) ≡ true → MeshesJoined a b p (Err NodeCount) found found
  unfolding made_checks joined_mesh mesh_of
  refused_count found bad =
      let nodes : bad_node_count (joined_nodes a.nodes b.nodes p) ≡ true = ap bad_node_count (sym nodes_counted.1) ∙ bad in
      refused_join a b p found NodeCount (lent-behind a b p (mesh_capacity found) none ∙ fault_here 1 (bad_node_count (joined_nodes a.nodes b.nodes p)) _ nodes)

  module _ (good : bad_node_count (a.nodes + b.nodes - length p.first) ≡ false) where
    nodes-good : bad_node_count (joined_nodes a.nodes b.nodes p) ≡ false
    nodes-good = ap bad_node_count (sym nodes_counted.1) ∙ good

    few : joined_nodes a.nodes b.nodes p ≤ max_nodes
    few = (node_count (joined_nodes a.nodes b.nodes p) nodes-good).1

    -- behind it what is handed out of the joined mesh is what joining promises
    handed : (found left : MeshBuffers) (answer : Result MeshCounts Refusal) → ListsHanded (joined_mesh a b p) answer found left → MeshesJoined a b p answer found left
    unfolding joining
    handed found left answer h =
        subst (λ (k : ℕ). MeshFilled (hand_mesh k (joined_mesh a b p)) answer found left)
        (sym (lent-behind a b p (mesh_capacity found) none ∙ later)) h
      where
        later : first_fault (made_checks (joined_mesh a b p) (mesh_capacity found)) ≡ first_fault (list_checks (joined_mesh a b p) (mesh_capacity found))
        later = unfold made_checks list_checks in fault_later 1 (bad_node_count (joined_mesh a b p).nodes) _ (unfold joined_mesh mesh_of in nodes-good)

    module _ (goes : List ℕ) (d : Destinations a.nodes b.nodes p goes) where
      -- the front of the array says where all nodes of the second mesh go
      goes_front : take b.nodes goes ≡ map (goes_to a.nodes p) (below b.nodes)
      goes_front =
          let long : length (take b.nodes goes) ≡ b.nodes = length-take-le b.nodes goes (omega (arith, d.long, passed.second.few)) in
          ext_get_or 0 (take b.nodes goes) (map (goes_to a.nodes p) (below b.nodes)) (long ∙ sym (length-map-up_from (goes_to a.nodes p) b.nodes 0))
          (λ w l. let lt : w < b.nodes = omega (arith, l, long) in
          get_or-take b.nodes goes w 0 lt ∙ d.each w lt ∙ sym (get_or-map-below (goes_to a.nodes p) 0 b.nodes w lt))

      -- no two of them to the same node
      pub goes_once : twice (take b.nodes goes) ≡ false
      goes_once =
          ap twice goes_front
          ∙ once-map (goes_to a.nodes p) (below b.nodes) (λ v w s t e. goes_apart a.nodes b.nodes p passed.pairs v w e) (once-ascending (below b.nodes) (ascending-up_from b.nodes 0))

      -- each to a node
      pub goes_few : (w : ℕ) → w < b.nodes → get_or goes w 0 < max_nodes
      goes_few w lt = omega (arith, d.each w lt, goes_inside a.nodes b.nodes p passed.pairs w lt, few)

      module _ (from : List ℕ) (long : length from ≡ max_nodes) (back : (v : ℕ) → v < max_nodes → get_or from v 0 ≡ index_of v (take b.nodes goes)) where
        pub mergeable : Mergeable a b goes from (a.nodes + b.nodes - length p.first)
        mergeable = record {
          first = passed.first;
          second = passed.second;
          few = omega (arith, nodes_counted.1, few);
          going = omega (arith, d.long, passed.second.few);
          coming = omega (arith, long, nodes_counted.1, few);
          apart = goes_once;
        }

        -- the lists merged by the two arrays are those of the joined mesh
        merged-mesh : mesh_of (joined_nodes a.nodes b.nodes p) (merged_lists a b goes from (joined_nodes a.nodes b.nodes p)) ≡ joined_mesh a b p
        unfolding joined_mesh comes_from
        merged-mesh =
            ap (mesh_of (joined_nodes a.nodes b.nodes p))
            (lists_joined a b p passed.first passed.second passed.pairs goes from d (λ v lt. back v (omega (arith, lt, few)) ∙ ap (index_of v) goes_front))

        pub handed_join : (found left : MeshBuffers) (answer : Result MeshCounts Refusal) → let n : ℕ = a.nodes + b.nodes - length p.first in
            ListsHanded (mesh_of n (merged_lists a b goes from n)) answer found left → MeshesJoined a b p answer found left
        handed_join found left answer h = handed found left answer
            (subst (λ (m : Mesh). ListsHanded m answer found left) (ap (λ (n : ℕ). mesh_of n (merged_lists a b goes from n)) nodes_counted.1 ∙ merged-mesh) h)
