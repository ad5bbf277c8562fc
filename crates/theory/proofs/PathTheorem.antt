-- Fill path: "row i of column j has a slot exactly when i is later than j and a path in the mesh joins their nodes with every node between them
-- earlier than j".
use mathlib.Core.Path.{◌≡◌, refl, sym, subst}
use mathlib.Core.Logic.{◌↔◌}
use mathlib.Core.Bool.{true}
use mathlib.Core.List.{List, [], ◌∷◌, ◌++◌}
use Prim.Native.Nat.{ℕ, ◌≤◌, ◌<◌}
use native.Mathlib.Omega.{arith}
use lib.Dec.{ltb}
use lib.ListN.{length, get_or}
use borrow.Author.Tests.{ltb-true, lt-ltb}
use Rattle.plan.specs.Lists.{index_of}
use Rattle.plan.specs.Mesh.{Mesh, adjacent}
use Rattle.plan.specs.Demand3.{is_path, all_earlier, EarlierPath}
use Rattle.theory.specs.Checked.{Symmetric}
use Rattle.theory.specs.Rows.{edge_at, is_row}
use Rattle.theory.proofs.Bools.{and_left, and_right, and_both}
use Rattle.theory.proofs.Lists.{get_or-index_of, index_of_le}
use Rattle.theory.proofs.Via.{Via, direct, through, joined_via, via_joined}
use Rattle.theory.proofs.JoinedTree.{Slot}
use Rattle.theory.proofs.Columns.{edge-mirror, row_fact, row_test}

-- a path goes on behind its first node
path_cons : (m : Mesh) (v w : ℕ) (ws : List ℕ) → adjacent m v w ≡ true → is_path m (w ∷ ws) ≡ true → is_path m (v ∷ (w ∷ ws)) ≡ true
unfolding is_path
path_cons m v w ws h p = and_both (adjacent m v w) _ h p

module _ (m : Mesh) (order : List ℕ) (j : ℕ) (fits : j ≤ length order) where
  -- a path over positions is a path over nodes
  via_path : {a b : ℕ} → Via (edge_at m order) j a b → EarlierPath m order j (get_or order a 0) (get_or order b 0)
  unfolding edge_at is_path all_earlier
  via_path (direct {a = a} {b = b} h) =
      record { between = []; path = path_cons m (get_or order a 0) (get_or order b 0) [] h refl; passed = refl }
  via_path (through {a = a} {c = c} {b = b} h lt v) =
      let p : EarlierPath m order j (get_or order c 0) (get_or order b 0) = via_path v in
      record {
        between = get_or order c 0 ∷ p.between;
        path = path_cons m (get_or order a 0) (get_or order c 0) (p.between ++ (get_or order b 0 ∷ [])) h p.path;
        passed = and_both (ltb (index_of (get_or order c 0) order) j) _ (lt-ltb _ j (omega (arith, index_of_le order c 0 (omega arith)))) p.passed;
      }

  -- and the other way round
  path_via : (between : List ℕ) (a b : ℕ) → is_path m (get_or order a 0 ∷ (between ++ (get_or order b 0 ∷ []))) ≡ true → all_earlier order j between ≡ true → Via (edge_at m order) j a b
  unfolding edge_at is_path all_earlier
  path_via [] a b path passed = direct (and_left (adjacent m (get_or order a 0) (get_or order b 0)) _ path)
  path_via (v ∷ between) a b path passed =
      let c : ℕ = index_of v order in
      let lt : c < j = ltb-true c j (and_left (ltb c j) _ passed) in
      let is : get_or order c 0 ≡ v = get_or-index_of order v 0 (omega arith) in
      let onward : is_path m (v ∷ (between ++ (get_or order b 0 ∷ []))) ≡ true = and_right (adjacent m (get_or order a 0) v) _ path in
      through {c = c}
      (subst (λ (x : ℕ). adjacent m (get_or order a 0) x ≡ true) (sym is) (and_left (adjacent m (get_or order a 0) v) _ path)) lt
      (path_via between c b (subst (λ (x : ℕ). is_path m (x ∷ (between ++ (get_or order b 0 ∷ []))) ≡ true) (sym is) onward) (and_right (ltb c j) _ passed))

-- the theorem; of the order it asks only that each position has a node
pub row-path : (m : Mesh) (order : List ℕ) → Symmetric m → length order ≡ m.nodes → (i j : ℕ) → i < m.nodes → j < m.nodes
    → (is_row m order i j ≡ true) ↔ ((j < i) × EarlierPath m order j (get_or order j 0) (get_or order i 0))
row-path m order s full i j li lj = (there, back)
  where
    there : is_row m order i j ≡ true → (j < i) × EarlierPath m order j (get_or order j 0) (get_or order i 0)
    there h =
        let t : Slot (edge_at m order) i j = (row_fact m order i j h).1 in
        (t.later, via_path m order j (omega (arith, full)) (joined_via (edge_at m order) (edge-mirror m order s) j j i t.joined))

    back : (j < i) × EarlierPath m order j (get_or order j 0) (get_or order i 0) → is_row m order i j ≡ true
    back t =
        let v : Via (edge_at m order) j j i = path_via m order j (omega (arith, full)) t.1.between j i t.1.path t.1.passed in
        row_test m order i j li (record { later = t.0; joined = via_joined (edge_at m order) (edge-mirror m order s) j j i (omega arith) (omega (arith, t.0)) (omega (arith, t.0)) v })
