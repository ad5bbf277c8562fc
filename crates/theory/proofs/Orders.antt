-- An order that holds each node once: its length, its nodes, the book's test of it, and its inverse.
use mathlib.Core.Path.{◌≡◌, refl, sym, ap, ◌∙◌}
use mathlib.Core.Logic.{inl, inr}
use mathlib.Core.Bool.{Bool, true, ◌&&◌}
use mathlib.Core.List.{List, map}
use Prim.Native.Nat.{ℕ, ◌*◌, ◌≤◌, ◌<◌}
use native.Mathlib.Omega.{arith}
use lib.Dec.{eqb, ltb}
use lib.ListN.{length, get_or}
use borrow.Author.Tests.{eqb-true, eq-eqb, lt-ltb}
use Rattle.plan.specs.Lists.{below, is_in, occurrences, each_once, index_of, total}
use Rattle.plan.specs.Dissection.{positions}
use Rattle.theory.specs.Counting.{count, Order}
use Rattle.theory.proofs.Bools.{and_left, and_right, and_both, iff_eq, lt_or_le}
use Rattle.theory.proofs.Lists.{is_in-get_or, every-is_in, is_in-every, get_or-index_of, index_of_lt}
use Rattle.theory.proofs.Ranges.{is_in-below, below-is_in, length-up_from, get_or-map-below, map_ext_up_from}
use Rattle.theory.proofs.Sums.{total-less}
use Rattle.theory.proofs.Counting.{unit, count-all, count_ext, same-members, same_length, count-every, count-once, count-twice, count-values}

module _ (n : ℕ) (order : List ℕ) (once : Order n order) where
  -- it has n positions
  pub order-length : length order ≡ n
  order-length = same_length order (below n) once ∙ length-up_from n 0

  -- each holds a node
  pub order-inside : (i : ℕ) → i < n → get_or order i 0 < n
  order-inside i l = is_in-below n (get_or order i 0) (same-members order (below n) once (get_or order i 0) (is_in-get_or order i 0 (omega (arith, order-length))))

  order-holds : (v : ℕ) → v < n → is_in v order ≡ true
  order-holds v l = same-members (below n) order (λ p. sym (once p)) v (below-is_in n v l)

  occurs_once : (v : ℕ) → v < n → count (eqb v) order ≡ 1
  occurs_once v l = once (eqb v) ∙ count-once n 0 v (omega arith) (omega arith)

  -- no node stands at two positions
  pub order_distinct : (a b : ℕ) → a < n → b < n → get_or order a 0 ≡ get_or order b 0 → a ≡ b
  order_distinct a b la lb e = elim (lt_or_le a b) [
    | inl l ↦ absurd (omega (arith, count-twice order a b 0 l (omega (arith, order-length)) e, occurs_once (get_or order b 0) (order-inside b lb)))
    | inr l ↦ elim (lt_or_le b a) [
      | inl m ↦ absurd (omega (arith, count-twice order b a 0 m (omega (arith, order-length)) (sym e), occurs_once (get_or order a 0) (order-inside a la)))
      | inr m ↦ omega arith
    ]
  ]

  -- it passes check 15's test
  pub order-passes : each_once n order ≡ true
  unfolding each_once
  order-passes =
      and_both (eqb (length order) n) _ (eq-eqb (length order) n order-length)
      (is_in-every (λ v. eqb (occurrences v order) 1) (below n) (λ v h. eq-eqb (occurrences v order) 1 (occurs_once v (is_in-below n v h))))

  -- ---- "places": the positions invert the order

  index_inside : (v : ℕ) → v < n → index_of v order < n
  index_inside v l = omega (arith, index_of_lt order v (order-holds v l), order-length)

  position_at : (v : ℕ) → v < n → get_or (positions n order) v 0 ≡ index_of v order
  unfolding positions
  position_at v l = get_or-map-below (λ v. index_of v order) 0 n v l

  -- the position of a node
  pub position_inside : (v : ℕ) → v < n → get_or (positions n order) v 0 < n
  position_inside v l = omega (arith, position_at v l, index_inside v l)

  -- the node at a node's position is the node
  pub order_of_position : (v : ℕ) → v < n → get_or order (get_or (positions n order) v 0) 0 ≡ v
  order_of_position v l = rw (position_at v l) (get_or-index_of order v 0 (index_of_lt order v (order-holds v l)))

  -- and the position of the node at a position is the position
  pub position_of_order : (i : ℕ) → i < n → get_or (positions n order) (get_or order i 0) 0 ≡ i
  position_of_order i l =
      let v : ℕ = get_or order i 0 in
      let lv : v < n = order-inside i l in
      order_distinct (get_or (positions n order) v 0) i (position_inside v lv) l (order_of_position v lv)

-- ---- and an order that passes the test holds each node once

module _ (n : ℕ) (order : List ℕ) (h : each_once n order ≡ true) where
  passes-full : length order ≡ n
  unfolding each_once
  passes-full = eqb-true (length order) n (and_left (eqb (length order) n) _ h)

  passes-once : (v : ℕ) → v < n → occurrences v order ≡ 1
  unfolding each_once
  passes-once v l =
      eqb-true (occurrences v order) 1
      (every-is_in (λ v. eqb (occurrences v order) 1) (below n) (and_right (eqb (length order) n) _ h) v (below-is_in n v l))

  -- a test counts alike among the numbers below n
  alike : (p : ℕ → Bool) → count (λ x. p x && ltb x n) order ≡ count (λ x. p x && ltb x n) (below n)
  alike p =
      count-values p n order
      ∙ ap total (map_ext_up_from (λ v. unit (p v) * occurrences v order) (λ v. unit (p v) * occurrences v (below n)) n 0
      (λ v l m. let same : occurrences v order ≡ occurrences v (below n) = passes-once v (omega arith) ∙ sym (count-once n 0 v l m) in rw same))
      ∙ sym (count-values p n (below n))

  only_below : (p : ℕ → Bool) (l : List ℕ) → ((x : ℕ) → is_in x l ≡ true → ltb x n ≡ true) → count (λ x. p x && ltb x n) l ≡ count p l
  only_below p l f = count_ext (λ x. p x && ltb x n) p l (λ x m. iff_eq (p x && ltb x n) (p x) (and_left (p x) (ltb x n)) (λ t. and_both (p x) (ltb x n) t (f x m)))

  range_below : (x : ℕ) → is_in x (below n) ≡ true → ltb x n ≡ true
  range_below x m = lt-ltb x n (is_in-below n x m)

  -- as many as there are places, so all entries are below n
  order_below : (x : ℕ) → is_in x order ≡ true → ltb x n ≡ true
  order_below = count-every (λ x. ltb x n) order
      (alike (λ x. true) ∙ only_below (λ x. true) (below n) range_below ∙ count-all (below n) ∙ length-up_from n 0 ∙ sym passes-full)

  -- what passes check 15's test holds each node once
  pub passes-order : Order n order
  passes-order p = sym (only_below p order order_below) ∙ alike p ∙ only_below p (below n) range_below

-- ---- a list of numbers below its own length

-- where none stands twice, each stands once
pub once-each : (l : List ℕ) → ((x : ℕ) → is_in x l ≡ true → x < length l) → ((v : ℕ) → v < length l → occurrences v l ≤ 1) → each_once (length l) l ≡ true
unfolding each_once
once-each l inside few = and_both (eqb n n) _ (eq-eqb n n refl) (is_in-every (λ v. eqb (occurrences v l) 1) (below n) (λ v m. eq-eqb (occurrences v l) 1 (one v (is_in-below n v m))))
  where
    n : ℕ
    n = length l

    f : ℕ → ℕ
    f v = 1 * occurrences v l

    full : total (map f (below n)) ≡ n
    full = sym (count-values (λ x. true) n l) ∙ count_ext (λ x. true && ltb x n) (λ x. true) l (λ x m. lt-ltb x n (inside x m)) ∙ count-all l

    one : (v : ℕ) → v < n → occurrences v l ≡ 1
    one v lt = omega (arith, few v lt, full, total-less f n 0 (λ v l m. omega (arith, few v (omega arith))) v (omega arith) (omega arith))
