-- Lists of lists, one behind the other.
use mathlib.Core.Path.{◌≡◌, refl, sym, ap, ◌∙◌}
use mathlib.Core.Logic.{inl, inr}
use mathlib.Core.Bool.{Bool, true, ◌||◌, false≢true, or_assoc, or_comm, or-false}
use mathlib.Core.List.{get_last_d, reverse_aux, reverse, List, [], ◌∷◌, map, flatten, ◌++◌, map-append, append-nil, append_assoc, head_d}
use Prim.Native.Nat.{ℕ, ◌+◌, ◌*◌, ◌≤◌, ◌<◌, zero, suc}
use native.Mathlib.Nat.{zero-add}
use native.Mathlib.Omega.{arith}
use lib.ListN.{length, take, get_or, length-append}
use Rattle.plan.specs.Lists.{below, is_in}
use Rattle.theory.proofs.Bools.{eq_or_ne}
use Rattle.theory.proofs.Lists.{take_more, is_in-append-left, is_in-append_right, is_in-append_cases, is_in-append}
use Rattle.theory.proofs.Ranges.{up_from_snoc}

module _ {A : Type 0} where
  pub flatten-append : (xs ys : List (List A)) → flatten (xs ++ ys) ≡ flatten xs ++ flatten ys
  unfolding flatten
  flatten-append [] ys = refl
  flatten-append (x ∷ xs) ys = rw (flatten-append xs ys) (sym (append_assoc x (flatten xs) (flatten ys)))

  pub flatten_nil : ◌≡◌ {A = List A} (flatten []) []
  unfolding flatten
  flatten_nil = refl

  pub flatten_cons : (x : List A) (xs : List (List A)) → flatten (x ∷ xs) ≡ x ++ flatten xs
  unfolding flatten
  flatten_cons x xs = refl

  -- a single list
  pub flatten_one : (x : List A) → flatten (x ∷ []) ≡ x
  flatten_one x = flatten_cons x [] ∙ ap (λ (l : List A). x ++ l) flatten_nil ∙ append-nil x

  -- one more list
  pub flatten_more : (ls : List (List A)) (k : ℕ) → k < length ls → flatten (take (k + 1) ls) ≡ flatten (take k ls) ++ get_or ls k []
  flatten_more ls k lt =
      rw (take_more ls k [] lt, flatten-append (take k ls) (get_or ls k [] ∷ []), flatten_one (get_or ls k []))

-- a list for each number from 0 on, the first k of them
abbrev pub blocks : (ℕ → List ℕ) → ℕ → List ℕ
blocks f k = flatten (map f (below k))

-- one more
pub blocks_more : (f : ℕ → List ℕ) (k : ℕ) → blocks f (suc k) ≡ blocks f k ++ f k
blocks_more f k =
    let last : 0 + k ≡ k = zero-add k in
    ap (λ (l : List ℕ). flatten (map f l)) (up_from_snoc 0 k)
    ∙ rw (last, map-append f (below k) (k ∷ []), flatten-append (map f (below k)) (f k ∷ []), flatten_one (f k))

-- more of them are no shorter
pub blocks_grow : (f : ℕ → List ℕ) (k n : ℕ) → k ≤ n → length (blocks f k) ≤ length (blocks f n)
blocks_grow f k zero le = let e : k ≡ 0 = omega arith in rw e (omega arith)
blocks_grow f k (suc n) le = elim (eq_or_ne k (suc n)) [
  | inl e ↦ rw e (omega arith)
  | inr e ↦ omega (arith, blocks_grow f k n (omega (arith, e)), ap length (blocks_more f n), length-append (blocks f n) (f n))
]

-- lists of w elements each, one for each element of a list
pub blocks_length : (f : ℕ → List ℕ) (w : ℕ) → ((x : ℕ) → length (f x) ≡ w) → (l : List ℕ) → length (flatten (map f l)) ≡ w * length l
blocks_length f w wide [] = ap length (flatten_nil {A = ℕ}) ∙ omega arith
blocks_length f w wide (x ∷ l) = omega (arith, ap length (flatten_cons (f x) (map f l)), length-append (f x) (flatten (map f l)), wide x, blocks_length f w wide l)

-- an element is in the first list, or in one behind it
pub is_in-flatten_cons : (x : ℕ) (l : List ℕ) (ls : List (List ℕ)) → is_in x (flatten (l ∷ ls)) ≡ (is_in x l || is_in x (flatten ls))
is_in-flatten_cons x l ls = ap (is_in x) (flatten_cons l ls) ∙ is_in-append x l (flatten ls)

-- an element of several lists together is in one of them
pub of_flatten : (ls : List (List ℕ)) (x : ℕ) → is_in x (flatten ls) ≡ true → (i : ℕ) × (i < length ls) × (is_in x (get_or ls i []) ≡ true)
unfolding flatten
of_flatten [] x h = absurd (false≢true h)
of_flatten (l ∷ ls) x h = elim (is_in-append_cases x l (flatten ls) h) [
  | inl m ↦ (0, omega arith, m)
  | inr m ↦ (let r = of_flatten ls x m in (suc r.0, omega (arith, r.1), r.2))
]

-- an element of one of the first k lists is in them together
pub is_in-flatten-take : (ls : List (List ℕ)) (k i x : ℕ) → i < k → is_in x (get_or ls i []) ≡ true → is_in x (flatten (take k ls)) ≡ true
unfolding flatten
is_in-flatten-take [] k i x lt m = absurd (false≢true m)
is_in-flatten-take (l ∷ ls) zero i x lt m = absurd (omega arith)
is_in-flatten-take (l ∷ ls) (suc k) zero x lt m = is_in-append-left x l (flatten (take k ls)) m
is_in-flatten-take (l ∷ ls) (suc k) (suc i) x lt m = is_in-append_right x l (flatten (take k ls)) (is_in-flatten-take ls k i x (omega arith) m)

is_in-flatten-reverse_onto : (x : ℕ) (ls acc : List (List ℕ)) → is_in x (flatten (reverse_aux ls acc)) ≡ (is_in x (flatten ls) || is_in x (flatten acc))
unfolding flatten
is_in-flatten-reverse_onto x [] acc = refl
is_in-flatten-reverse_onto x (l ∷ ls) acc =
    is_in-flatten-reverse_onto x ls (l ∷ acc)
    ∙ ap (λ (t : Bool). is_in x (flatten ls) || t) (is_in-append x l (flatten acc))
    ∙ sym (or_assoc (is_in x (flatten ls)) (is_in x l) (is_in x (flatten acc)))
    ∙ ap (λ (t : Bool). t || is_in x (flatten acc)) (or_comm (is_in x (flatten ls)) (is_in x l) ∙ sym (is_in-append x l (flatten ls)))

-- the order of the lists does not matter to what they hold
pub is_in-flatten-reverse : (x : ℕ) (ls : List (List ℕ)) → is_in x (flatten (reverse ls)) ≡ is_in x (flatten ls)
unfolding flatten
is_in-flatten-reverse x ls = is_in-flatten-reverse_onto x ls [] ∙ or-false (is_in x (flatten ls))

-- an element of the first of several lists is in them together
pub is_in-flatten-head : (ls : List (List ℕ)) (x : ℕ) → is_in x (head_d ls []) ≡ true → is_in x (flatten ls) ≡ true
unfolding flatten head_d
is_in-flatten-head [] x t = absurd (false≢true t)
is_in-flatten-head (l ∷ ls) x t = is_in-append-left x l (flatten ls) t

-- and so is one of the last
pub is_in-flatten-last : (ls : List (List ℕ)) (x : ℕ) → is_in x (get_last_d ls []) ≡ true → is_in x (flatten ls) ≡ true
unfolding get_last_d flatten
is_in-flatten-last [] x h = absurd (false≢true h)
is_in-flatten-last (l ∷ []) x h = is_in-append-left x l [] h
is_in-flatten-last (l ∷ (k ∷ ls)) x h = is_in-append_right x l (flatten (k ∷ ls)) (is_in-flatten-last (k ∷ ls) x h)
