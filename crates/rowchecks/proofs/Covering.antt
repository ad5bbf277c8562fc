-- Check 19's rule for the rows of one column: told by comparing two lists where they are as many, by marks elsewhere.
use mathlib.Core.Path.{◌≡◌, refl, sym, ap, ap₂, ◌∙◌}
use mathlib.Core.Logic.{inl, inr}
use mathlib.Core.Bool.{Bool, true, false, not, ◌&&◌, ◌||◌, and-true, and_assoc, not-not}
use mathlib.Core.List.{List, [], ◌∷◌}
use Prim.Native.Nat.{ℕ, zero, suc, ◌+◌, ◌≤◌, ◌<◌}
use native.Mathlib.Numerals.{add-one}
use native.Mathlib.Omega.{arith}
use lib.Dec.{eqb}
use lib.ListN.{length, get_or, take, drop}
use lib.Seq.{take_all}
use borrow.Author.Tests.{eq-eqb, ne_eqb}
use Rattle.plan.specs.Lists.{every, is_in, list_at, ascending, same}
use Rattle.plan.specs.Mesh.{max_nodes}
use Rattle.plan.specs.File.{covered}
use Rattle.theory.proofs.Bools.{and_both, iff_eq, tested, cond_true, cond_false, eqb_same}
use Rattle.theory.proofs.Lists.{is_in-head, is_in_tail, is_in_cons, is_in-drop, every-is_in, is_in-every, same_equal}
use Rattle.theory.proofs.Ascending.{ascending_tail, ascending_lt}
use Rattle.mesh.specs.Lists.{none, filled_with}
use Rattle.mesh.proofs.Lists.{filled_at}
use Rattle.layout.specs.Arrays.{Marked, Unmarked}
use Rattle.rowchecks.specs.Rows.{LaidOut}
use Rattle.rowchecks.proofs.Passed.{laid_ascending, laid_between, laid_row, laid_others, covered_is}

-- ---- two lists compared, entry by entry

-- whether the entries before place k differ
abbrev pub Compared : List ℕ → List ℕ → ℕ → Bool → Type 0
Compared a b k differ = differ ≡ not (same (take k a) (take k b))

-- the fronts are the same one entry further where those at their ends are
same_more : (a b : List ℕ) (k : ℕ) → k < length a → k < length b
    → same (take (suc k) a) (take (suc k) b) ≡ (same (take k a) (take k b) && eqb (get_or a k 0) (get_or b k 0))
same_more [] b k lt lt' = absurd (omega arith)
same_more (x ∷ a) [] k lt lt' = absurd (omega arith)
same_more (x ∷ a) (y ∷ b) zero lt lt' = and-true (eqb x y)
same_more (x ∷ a) (y ∷ b) (suc k) lt lt' =
    ap (λ (t : Bool). eqb x y && t) (same_more a b k (omega arith) (omega arith))
    ∙ sym (and_assoc (eqb x y) (same (take k a) (take k b)) (eqb (get_or a k 0) (get_or b k 0)))

-- so one more pair of entries is compared
pub compared_more : (a b : List ℕ) (k : ℕ) (differ : Bool) → k < length a → k < length b → Compared a b k differ
    → Compared a b (k + 1) (differ || not (eqb (get_or a k 0) (get_or b k 0)))
compared_more a b k differ lt lt' h = rw (h, add-one, same_more a b k lt lt') (sym (go (same (take k a) (take k b)) (eqb (get_or a k 0) (get_or b k 0))))
  where
    go : (s t : Bool) → not (s && t) ≡ (not s || not t)
    go true t = refl
    go false t = refl

-- or all were
pub compared_all : (a b : List ℕ) (k : ℕ) (differ : Bool) → length a ≤ k → length b ≤ k → Compared a b k differ → not differ ≡ same a b
compared_all a b k differ le le' h = rw (h, take_all k a le, take_all k b le') (not-not (same a b))

-- ---- one list among another of the same length

-- a list is the same as itself
same_self : (l : List ℕ) → same l l ≡ true
same_self [] = refl
same_self (x ∷ l) = and_both (eqb x x) _ (eqb_same x) (same_self l)

-- an ascending list whose elements are all in another of its length is that list
within_equal : (a b : List ℕ) → ascending a ≡ true → ascending b ≡ true → length a ≡ length b → ((i : ℕ) → is_in i a ≡ true → is_in i b ≡ true) → a ≡ b
within_equal [] [] up up' many f = refl
within_equal [] (y ∷ b) up up' many f = absurd (omega arith)
within_equal (x ∷ a) [] up up' many f = absurd (omega arith)
within_equal (x ∷ a) (y ∷ b) up up' many f = go (within_equal a b (ascending_tail x a up) (ascending_tail y b up') (omega arith) behind)
  where
    least : y ≤ x
    least = elim (is_in_cons x y b (f x (is_in-head x a))) [ inl e ↦ omega arith | inr m ↦ omega (arith, ascending_lt y b up' x m) ]

    behind : (i : ℕ) → is_in i a ≡ true → is_in i b ≡ true
    behind i m = elim (is_in_cons i y b (f i (is_in_tail i x a m))) [ inl e ↦ absurd (omega (arith, least, ascending_lt x a up i m)) | inr t ↦ t ]

    go : a ≡ b → x ∷ a ≡ y ∷ b
    go e = elim (is_in_cons x y b (f x (is_in-head x a))) [
      | inl q ↦ ap₂ (λ (z : ℕ) (l : List ℕ). z ∷ l) q e
      | inr m ↦ absurd (omega (arith, ascending_lt x a up x (ap (is_in x) e ∙ m)))
    ]

-- so whether they all are is whether the lists are the same
within_same : (a b : List ℕ) → ascending a ≡ true → ascending b ≡ true → length a ≡ length b → every (λ i. is_in i b) a ≡ same b a
within_same a b up up' many = iff_eq (every (λ i. is_in i b) a) (same b a)
    (λ h. ap (same b) (within_equal a b up up' many (every-is_in (λ i. is_in i b) a h)) ∙ same_self b)
    (λ h. is_in-every (λ i. is_in i b) a (λ i m. ap (is_in i) (same_equal b a h) ∙ m))

-- ---- marks

-- an array of no positions has no mark
pub filled-unmarked : (n : ℕ) (marks : List ℕ) → n ≤ max_nodes → marks ≡ filled_with none → Unmarked n 0 marks
filled-unmarked n marks few e i r li le lr q = omega (arith, few, q, ap (λ (l : List ℕ). get_or l i 0) e ∙ filled_at none i (omega (arith, few)))

module _ (n j : ℕ) (before : List ℕ) (clear : Unmarked n j before) where
  -- no mark from j on is none from j + 1 on
  pub unmarked-next : Unmarked n (j + 1) before
  unmarked-next i r li le lr = clear i r li (omega arith) lr

  module _ (touched : ℕ → Bool) (after : List ℕ) (marked : Marked j touched before after) where
    -- and so it is where some positions got the mark j
    pub unmarked_after : Unmarked n (j + 1) after
    unmarked_after i r li le lr q = elim (tested (touched i)) [
      | inl t ↦ omega (arith, marked i ∙ cond_true (touched i) j (get_or before i 0) t)
      | inr t ↦ clear i r li (omega arith) lr (sym (marked i ∙ cond_false (touched i) j (get_or before i 0) t) ∙ q)
    ]

    -- which tells them from the others
    marked_tells : j < n → (i : ℕ) → i < n → eqb (get_or after i 0) j ≡ touched i
    marked_tells lt i li = elim (tested (touched i)) [
      | inl t ↦ eq-eqb (get_or after i 0) j (marked i ∙ cond_true (touched i) j (get_or before i 0) t) ∙ sym t
      | inr t ↦ ne_eqb (get_or after i 0) j (λ q. clear i j li (omega arith) lt (sym (marked i ∙ cond_false (touched i) j (get_or before i 0) t) ∙ q)) ∙ sym t
    ]

    -- so all of a list have it where all were told
    marked_every : j < n → (l : List ℕ) → ((i : ℕ) → is_in i l ≡ true → i < n) → every touched l ≡ every (λ i. eqb (get_or after i 0) j) l
    marked_every lt [] inside = refl
    marked_every lt (x ∷ l) inside =
        ap₂ (λ (s t : Bool). s && t) (sym (marked_tells lt x (inside x (is_in-head x l)))) (marked_every lt l (λ i m. inside i (is_in_tail i x l m)))

-- ---- the rule for one column

-- whether column j breaks it
abbrev pub breaks : List ℕ → List ℕ → ℕ → Bool
breaks column_starts rows j = not (covered column_starts rows (list_at column_starts rows j))

-- column j of a layout that passed check 17, where it has a row: the rows of its first row's column, and its own behind the first
pub record FirstAndOthers (n : ℕ) (column_starts rows : List ℕ) (j : ℕ) (first others : List ℕ) : Type 0 where
  pub laid : LaidOut n column_starts rows
  pub inside : j < n
  pub some : 0 < length (list_at column_starts rows j)
  pub of_first : first ≡ list_at column_starts rows (get_or (list_at column_starts rows j) 0 0)
  pub behind_first : others ≡ drop 1 (list_at column_starts rows j)

module _ {n : ℕ} {column_starts rows : List ℕ} {j : ℕ} {first others : List ℕ} (h : FirstAndOthers n column_starts rows j first others) where
  -- the first row
  abbrev row : ℕ
  row = get_or (list_at column_starts rows j) 0 0

  row_below : row < n
  row_below = laid_row n column_starts rows h.laid j h.inside 0 h.some

  -- both lists are of positions
  pub first-inside : (i : ℕ) → is_in i first ≡ true → i < n
  first-inside i m = (laid_between n column_starts rows h.laid row row_below i (rw h.of_first at m)).1

  pub others-inside : (i : ℕ) → is_in i others ≡ true → i < n
  others-inside i m = (laid_between n column_starts rows h.laid j h.inside i (is_in-drop i 1 (list_at column_starts rows j) (rw h.behind_first at m))).1

  -- the others are to be in the first row's column
  covered_in : covered column_starts rows (list_at column_starts rows j) ≡ every (λ i. is_in i first) others
  covered_in = rw (h.of_first, h.behind_first) (covered_is column_starts rows (list_at column_starts rows j) h.some)

  -- where both are as many, they are to be the same
  pub covered_same : length first ≡ length others → covered column_starts rows (list_at column_starts rows j) ≡ same first others
  covered_same many =
      covered_in
      ∙ within_same others first (ap ascending h.behind_first ∙ laid_others n column_starts rows h.laid j h.inside)
      (ap ascending h.of_first ∙ laid_ascending n column_starts rows h.laid row row_below) (sym many)

  -- by marks, all are to have the one that the first row's column got
  pub covered_marked : (before after : List ℕ) → Unmarked n j before → Marked j (λ i. is_in i first) before after
      → covered column_starts rows (list_at column_starts rows j) ≡ every (λ i. eqb (get_or after i 0) j) others
  covered_marked before after clear marked = covered_in ∙ marked_every n j before clear (λ i. is_in i first) after marked h.inside others others-inside
