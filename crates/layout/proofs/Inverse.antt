-- The inverse of an order: the positions that a loop over the order has written, and how positions and nodes lead to each other.
use mathlib.Core.Path.{◌≡◌, sym, ap, ◌∙◌}
use mathlib.Core.Logic.{◌≢◌}
use mathlib.Core.List.{List}
use Prim.Native.Nat.{ℕ, ◌+◌, ◌≤◌, ◌<◌}
use native.Mathlib.Omega.{arith}
use lib.ListN.{length, get_or, set, length-set}
use lib.Seq.{get_or-set_other}
use Rattle.plan.specs.Lists.{index_of, written}
use Rattle.plan.specs.Mesh.{Mesh}
use Rattle.plan.specs.Dissection.{positions}
use Rattle.theory.specs.Counting.{Order}
use Rattle.theory.proofs.Ranges.{length-map-up_from, get_or-map-below}
use Rattle.theory.proofs.Orders.{order-inside, order_distinct, position_inside, order_of_position, position_of_order}
use Rattle.layout.specs.Arrays.{Ordered}
use Rattle.theory.proofs.Written.{written_all}
use Rattle.layout.proofs.Stores.{get_or-set_cases}

-- the first i nodes of an order have their positions, and what does not belong to a node is as found
pub record Inverted (n : ℕ) (order : List ℕ) (i : ℕ) (found inverse : List ℕ) : Type 0 where
  pub long : length inverse ≡ length found
  pub placed : (p : ℕ) → p < i → get_or inverse (get_or order p 0) 0 ≡ p
  pub rest : (v : ℕ) → n ≤ v → get_or inverse v 0 ≡ get_or found v 0

module _ (n : ℕ) (order : List ℕ) (once : Order n order) (found inverse : List ℕ) (room : n ≤ length found) where
  -- one more node, at whose place its position is stored
  pub inverted_more : (i v x : ℕ) → i < n → v ≡ get_or order i 0 → x ≡ i → Inverted n order i found inverse → Inverted n order (i + 1) found (set inverse v x)
  inverted_more i v x h node position t = rw (node, position) (record {
    long = length-set inverse (get_or order i 0) i ∙ t.long;
    placed = λ p l. get_or-set_cases (λ x. x ≡ p) inverse (get_or order i 0) i (get_or order p 0) (omega (arith, t.long, order-inside n order once i h))
        (λ e. sym (order_distinct n order once p i (omega arith) h e))
        (λ e. t.placed p (let ne : p ≢ i = λ q. e (ap (λ (x : ℕ). get_or order x 0) q) in omega arith));
    rest = λ v l. get_or-set_other inverse (get_or order i 0) v i 0 (λ q. omega (arith, order-inside n order once i h)) ∙ t.rest v l;
  })

  -- all nodes
  pub inverted_all : (i : ℕ) → n ≤ i → Inverted n order i found inverse → inverse ≡ written (positions n order) found
  unfolding positions
  inverted_all i h t =
      let long : length (positions n order) ≡ n = length-map-up_from (λ v. index_of v order) n 0 in
      written_all 0 (positions n order) found inverse (omega arith) t.long
      (λ v l. let lv : v < n = omega arith in
      ap (λ (x : ℕ). get_or inverse x 0) (sym (order_of_position n order once v lv)) ∙ t.placed (get_or (positions n order) v 0) (omega (arith, position_inside n order once v lv)))
      (λ v l. t.rest v (omega arith))

module _ (m : Mesh) (order inverse : List ℕ) (h : Ordered m order inverse) where
  -- the lent positions are the book's
  inverse_is : (v : ℕ) → v < m.nodes → get_or inverse v 0 ≡ get_or (positions m.nodes order) v 0
  unfolding positions
  inverse_is v l = h.placed v l ∙ sym (get_or-map-below (λ v. index_of v order) 0 m.nodes v l)

  -- a node's position is one
  pub inverse_inside : (v : ℕ) → v < m.nodes → get_or inverse v 0 < m.nodes
  inverse_inside v l = omega (arith, inverse_is v l, position_inside m.nodes order h.once v l)

  -- the node at a node's position is the node
  pub order_of_inverse : (v : ℕ) → v < m.nodes → get_or order (get_or inverse v 0) 0 ≡ v
  order_of_inverse v l = rw (inverse_is v l) (order_of_position m.nodes order h.once v l)

  -- the position of the node at a position is the position
  pub inverse_of_order : (k : ℕ) → k < m.nodes → get_or inverse (get_or order k 0) 0 ≡ k
  inverse_of_order k l = inverse_is (get_or order k 0) (order-inside m.nodes order h.once k l) ∙ position_of_order m.nodes order h.once k l
