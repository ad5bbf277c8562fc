-- How many elements of a list pass a test. That every test counts alike in two lists says that they hold the same numbers, equally often.
use mathlib.Core.Path.{◌≡◌, refl, sym, ap, ◌∙◌}
use mathlib.Core.Logic.{◌⊎◌, inl, inr}
use mathlib.Core.Bool.{Bool, true, false, not, cond, false≢true, ◌&&◌, ◌||◌}
use mathlib.Core.List.{reverse_aux, reverse, List, [], ◌∷◌, ◌++◌, map, map-append, flatten}
use Prim.Native.Nat.{ℕ, zero, suc, ◌+◌, ◌-◌, ◌≤◌, ◌<◌, ◌*◌}
use native.Mathlib.Nat.{zero-add}
use native.Mathlib.Numerals.{add-one}
use native.Mathlib.Omega.{arith}
use lib.Dec.{eqb, ltb}
use lib.ListN.{length, get_or, take, drop, take-append-drop}
use lib.Seq.{split_at, get_or_at}
use borrow.Author.Tests.{eq-eqb, ne_eqb, le-ltb, eqb-true, ltb-true, lt-ltb}
use Rattle.plan.specs.Lists.{total, occurrences, exists, keep, up_from, below, is_in, without, ascending}
use Rattle.theory.specs.Counting.{count, Alike}
use Rattle.theory.proofs.Bools.{or_cases, or_left, or_right, and_left, and_right, and_both, tested, clash, refuted, iff_eq, eq_or_ne, lt_or_le}
use Rattle.theory.proofs.Lists.{take_more, is_in-head, is_in_tail, is_in_cons, is_in-get_or, none-exists, keep_ext, keep_append, keep_all, without-keep}
use Rattle.theory.proofs.Ranges.{is_in-up_from, up_from_add, up_from_snoc}
use Rattle.theory.proofs.Sums.{total-append}
use Rattle.theory.proofs.Ascending.{ascending_tail, ascending_lt}

-- 1 for a passed test
abbrev pub unit : Bool → ℕ
unit true = 1
unit false = 0

unit_le : (b : Bool) → unit b ≤ 1
unit_le true = omega arith
unit_le false = omega arith

pub count_cons : (p : ℕ → Bool) (x : ℕ) (xs : List ℕ) → count p (x ∷ xs) ≡ unit (p x) + count p xs
count_cons p x xs = go (p x)
  where
    go : (b : Bool) → length (cond b (x ∷ keep p xs) (keep p xs)) ≡ unit b + count p xs
    go true = omega arith
    go false = omega arith

pub count-append : (p : ℕ → Bool) (xs ys : List ℕ) → count p (xs ++ ys) ≡ count p xs + count p ys
count-append p [] ys = omega arith
count-append p (x ∷ xs) ys = omega (arith, count_cons p x (xs ++ ys), count_cons p x xs, count-append p xs ys)

pub count-all : (l : List ℕ) → count (λ x. true) l ≡ length l
count-all l = ap length (keep_all l)

pub count_le : (p : ℕ → Bool) (l : List ℕ) → count p l ≤ length l
count_le p [] = omega arith
count_le p (x ∷ l) = omega (arith, count_cons p x l, unit_le (p x), count_le p l)

-- one more element of a list is tried
pub count_more : (p : ℕ → Bool) (l : List ℕ) (i : ℕ) → i < length l → count p (take (i + 1) l) ≡ count p (take i l) + unit (p (get_or l i 0))
count_more p l i lt =
    rw (take_more l i 0 lt) (omega (arith, count-append p (take i l) (get_or l i 0 ∷ []), count_cons p (get_or l i 0) []))

-- no more pass up to a place than in all
pub count-front : (p : ℕ → Bool) (l : List ℕ) (i : ℕ) → count p (take i l) ≤ count p l
count-front p l i = omega (arith, ap (count p) (take-append-drop i l), count-append p (take i l) (drop i l))

-- an element that passes comes behind those before it that do
pub keep-next : (p : ℕ → Bool) (l : List ℕ) (i : ℕ) → i < length l → p (get_or l i 0) ≡ true → get_or (keep p l) (count p (take i l)) 0 ≡ get_or l i 0
keep-next p l i lt t =
    let v : ℕ = get_or l i 0 in
    let tail : List ℕ = drop (suc i) l in
    ap (λ (x : List ℕ). get_or x (count p (take i l)) 0)
    (ap (keep p) (split_at l i 0 lt)
    ∙ keep_append p (take i l) (v ∷ tail)
    ∙ ap (λ (b : Bool). keep p (take i l) ++ cond b (v ∷ keep p tail) (keep p tail)) t)
    ∙ get_or_at (keep p (take i l)) v (keep p tail) 0 (count p (take i l)) refl

-- something passes exactly where the count is not 0
pub exists-count : (p : ℕ → Bool) (l : List ℕ) → exists p l ≡ true → 0 < count p l
exists-count p [] h = absurd (false≢true h)
exists-count p (x ∷ l) h = elim (or_cases (p x) (exists p l) h) [
  | inl t ↦ omega (arith, count_cons p x l, ap unit t)
  | inr t ↦ omega (arith, count_cons p x l, exists-count p l t)
]

pub count-exists : (p : ℕ → Bool) (l : List ℕ) → 0 < count p l → exists p l ≡ true
count-exists p [] h = absurd (omega arith)
count-exists p (x ∷ l) h = elim (tested (p x)) [
  | inl t ↦ or_left (p x) (exists p l) t
  | inr t ↦ or_right (p x) (exists p l) (count-exists p l (omega (arith, count_cons p x l, ap unit t)))
]

-- where nothing passes the count is 0
pub count_none : (p : ℕ → Bool) (l : List ℕ) → ((x : ℕ) → is_in x l ≡ true → p x ≡ false) → count p l ≡ 0
count_none p l f = elim (lt_or_le 0 (count p l)) [
  | inl h ↦ clash (exists p l) (count-exists p l h) (none-exists p l f)
  | inr h ↦ omega arith
]

-- tests that agree on a list count alike in it
pub count_ext : (p q : ℕ → Bool) (l : List ℕ) → ((x : ℕ) → is_in x l ≡ true → p x ≡ q x) → count p l ≡ count q l
count_ext p q l f = ap length (keep_ext p q l f)

-- lists in which every test counts alike have the same members
pub same-members : (xs ys : List ℕ) → Alike xs ys → (x : ℕ) → is_in x xs ≡ true → is_in x ys ≡ true
same-members xs ys f x h = count-exists (eqb x) ys (omega (arith, f (eqb x), exists-count (eqb x) xs h))

-- and the same length
pub same_length : (xs ys : List ℕ) → Alike xs ys → length xs ≡ length ys
same_length xs ys f = omega (arith, f (λ x. true), count-all xs, count-all ys)

-- those that pass a test and those that do not make up the list
count-split : (p q : ℕ → Bool) (l : List ℕ) → count p (keep q l) + count p (keep (λ v. not (q v)) l) ≡ count p l
count-split p q [] = refl
count-split p q (y ∷ l) = go (q y) (count-split p q l)
  where
    go : (b : Bool) → count p (keep q l) + count p (keep (λ v. not (q v)) l) ≡ count p l
        → count p (cond b (y ∷ keep q l) (keep q l)) + count p (cond (not b) (y ∷ keep (λ v. not (q v)) l) (keep (λ v. not (q v)) l)) ≡ count p (y ∷ l)
    go true ih = omega (arith, count_cons p y (keep q l), count_cons p y l)
    go false ih = omega (arith, count_cons p y (keep (λ v. not (q v)) l), count_cons p y l)

-- a part that is kept from a list, and what is left without it, make up the list
pub count-part : (p q : ℕ → Bool) (l : List ℕ) → count p (keep q l) + count p (without (keep q l) l) ≡ count p l
count-part p q l = rw (without-keep q l) (count-split p q l)

unit_mono : (a b : Bool) → (a ≡ true → b ≡ true) → unit a ≤ unit b
unit_mono true b f = omega (arith, ap unit (f refl))
unit_mono false b f = omega arith

-- no more pass a stricter test
pub count_mono : (p q : ℕ → Bool) (l : List ℕ) → ((x : ℕ) → p x ≡ true → q x ≡ true) → count p l ≤ count q l
count_mono p q [] h = omega arith
count_mono p q (y ∷ l) h = omega (arith, count_cons p y l, count_cons q y l, unit_mono (p y) (q y) (h y), count_mono p q l h)

-- and fewer where some element passes the other only
pub count_less : (p q : ℕ → Bool) (x : ℕ) (l : List ℕ) → ((y : ℕ) → p y ≡ true → q y ≡ true) → is_in x l ≡ true → q x ≡ true → p x ≡ false → count p l < count q l
count_less p q x [] h m a b = absurd (false≢true m)
count_less p q x (y ∷ l) h m a b = elim (is_in_cons x y l m) [
  | inl z ↦ omega (
    arith,
    count_cons p y l,
    count_cons q y l,
    ap unit (ap q (sym z) ∙ a),
    ap unit (ap p (sym z) ∙ b),
    count_mono p q l h,
  )
  | inr e ↦ omega (arith, count_cons p y l, count_cons q y l, unit_mono (p y) (q y) (h y), count_less p q x l h e a b)
]

-- a test that all elements pass, by its count
pub count-every : (p : ℕ → Bool) (l : List ℕ) → count p l ≡ length l → (x : ℕ) → is_in x l ≡ true → p x ≡ true
count-every p l e x h = elim (tested (p x)) [
  | inl t ↦ t
  | inr t ↦ absurd (omega (arith, e, count-all l, count_less p (λ y. true) x l (λ y u. refl) h refl t))
]

-- a test that falls into two
pub count_sum : (p q r : ℕ → Bool) (l : List ℕ) → ((x : ℕ) → unit (p x) ≡ unit (q x) + unit (r x)) → count p l ≡ count q l + count r l
count_sum p q r [] h = refl
count_sum p q r (y ∷ l) h = omega (arith, count_cons p y l, count_cons q y l, count_cons r y l, h y, count_sum p q r l h)

-- of two tests that exclude each other, either counts as both together
pub unit_either : (a b : Bool) → (a ≡ true → b ≡ false) → unit (a || b) ≡ unit a + unit b
unit_either true b f = omega (arith, ap unit (f refl))
unit_either false b f = omega arith

-- a test of mapped elements
pub count_map : (p : ℕ → Bool) (f : ℕ → ℕ) (l : List ℕ) → count p (map f l) ≡ count (λ x. p (f x)) l
count_map p f [] = refl
count_map p f (y ∷ l) = omega (arith, count_cons p (f y) (map f l), count_cons (λ x. p (f x)) y l, count_map p f l)

-- a number stands once in a range that holds it
pub count-once : (k a x : ℕ) → a ≤ x → x < a + k → count (eqb x) (up_from a k) ≡ 1
count-once zero a x l m = absurd (omega arith)
count-once (suc k) a x l m = elim (eq_or_ne x a) [
  | inl e ↦ omega (
    arith,
    count_cons (eqb x) a (up_from (suc a) k),
    ap unit (eq-eqb x a e),
    count_none (eqb x) (up_from (suc a) k) (λ y h. ne_eqb x y (λ s. omega (arith, is_in-up_from k (suc a) y h))),
  )
  | inr e ↦ omega (arith, count_cons (eqb x) a (up_from (suc a) k), ap unit (ne_eqb x a e), count-once k (suc a) x (omega arith) (omega arith))
]

-- and once in an ascending list that does
pub count-ascending : (x : ℕ) (l : List ℕ) → ascending l ≡ true → is_in x l ≡ true → count (eqb x) l ≡ 1
count-ascending x [] h m = absurd (false≢true m)
count-ascending x (y ∷ l) h m = elim (is_in_cons x y l m) [
  | inl e ↦ omega (
    arith,
    count_cons (eqb x) y l,
    ap unit (eq-eqb x y e),
    count_none (eqb x) l (λ z t. ne_eqb x z (λ s. omega (arith, ascending_lt y l h z t))),
  )
  | inr t ↦ omega (
    arith,
    count_cons (eqb x) y l,
    ap unit (ne_eqb x y (λ e. omega (arith, ascending_lt y l h x t))),
    count-ascending x l (ascending_tail y l h) t,
  )
]

-- a number at two places is counted twice
pub count-twice : (l : List ℕ) (a b d : ℕ) → a < b → b < length l → get_or l a d ≡ get_or l b d → 1 < count (eqb (get_or l b d)) l
count-twice [] a b d l h e = absurd (omega arith)
count-twice (y ∷ ys) a zero d l h e = absurd (omega arith)
count-twice (y ∷ ys) zero (suc b) d l h e =
    omega (
      arith,
      count_cons (eqb (get_or ys b d)) y ys,
      ap unit (eq-eqb (get_or ys b d) y (sym e)),
      exists-count (eqb (get_or ys b d)) ys (is_in-get_or ys b d (omega arith)),
    )
count-twice (y ∷ ys) (suc a) (suc b) d l h e = omega (arith, count_cons (eqb (get_or ys b d)) y ys, count-twice ys a b d (omega arith) (omega arith) e)

unit_or : (a b c : Bool) → (a ≡ true → (b ≡ true) ⊎ (c ≡ true)) → unit a ≤ unit b + unit c
unit_or true b c h = elim (h refl) [ inl t ↦ omega (arith, ap unit t) | inr t ↦ omega (arith, ap unit t) ]
unit_or false b c h = omega arith

-- a test that implies one of two others on a list
pub count_or : (p q r : ℕ → Bool) (l : List ℕ) → ((x : ℕ) → is_in x l ≡ true → p x ≡ true → (q x ≡ true) ⊎ (r x ≡ true)) → count p l ≤ count q l + count r l
count_or p q r [] h = omega arith
count_or p q r (y ∷ l) h =
    omega (
      arith,
      count_cons p y l,
      count_cons q y l,
      count_cons r y l,
      unit_or (p y) (q y) (r y) (h y (is_in-head y l)),
      count_or p q r l (λ x m. h x (is_in_tail x y l m)),
    )

-- at most e - a numbers from a on lie below e
pub count-below : (e a k : ℕ) → count (λ i. ltb i e) (up_from a k) ≤ e - a
count-below e a zero = omega arith
count-below e a (suc k) = elim (lt_or_le a e) [
  | inl l ↦ omega (arith, count_cons (λ i. ltb i e) a (up_from (suc a) k), unit_le (ltb a e), count-below e (suc a) k)
  | inr l ↦ omega (arith, count_cons (λ i. ltb i e) a (up_from (suc a) k), ap unit (le-ltb a e l), count-below e (suc a) k)
]

-- one number more
pub count-below_more : (p : ℕ → Bool) (n : ℕ) → count p (below (n + 1)) ≡ count p (below n) + unit (p n)
count-below_more p n =
    let last : 0 + n ≡ n = zero-add n in
    ap (count p) (ap below (add-one n) ∙ up_from_snoc 0 n ∙ ap (λ (x : ℕ). below n ++ (x ∷ [])) last)
    ∙ count-append p (below n) (n ∷ [])
    ∙ omega (arith, count_cons p n [])

-- the numbers from a on that pass are some of those below n that do
pub count-later : (p : ℕ → Bool) (n a : ℕ) → count p (up_from a (n - a)) ≤ count p (below n)
count-later p n a = elim (lt_or_le n a) [
  | inl l ↦ let e : n - a ≡ 0 = omega arith in rw e (omega arith)
  | inr l ↦ let e : n ≡ a + (n - a) = omega arith in
      omega (
        arith,
        ap (λ (k : ℕ). count p (below k)) e,
        ap (count p) (up_from_add 0 a (n - a)),
        count-append p (below a) (up_from (0 + a) (n - a)),
        ap (λ (b : ℕ). count p (up_from b (n - a))) (zero-add a),
      )
]

-- where none up to j passes, those below n that pass come after j
pub count_after : (p : ℕ → Bool) (n j : ℕ) → j < n → ((i : ℕ) → i ≤ j → p i ≡ false) → count p (below n) ≡ count p (up_from (suc j) (n - suc j))
count_after p n j h none =
    let e : n ≡ suc j + (n - suc j) = omega arith in
    omega (
      arith,
      ap (λ (k : ℕ). count p (below k)) e,
      ap (count p) (up_from_add 0 (suc j) (n - suc j)),
      count-append p (below (suc j)) (up_from (0 + suc j) (n - suc j)),
      ap (λ (b : ℕ). count p (up_from b (n - suc j))) (zero-add (suc j)),
      count_none p (below (suc j)) (λ i m. none i (omega (arith, is_in-up_from (suc j) 0 i m))),
    )

-- ---- counted in several lists

-- a test counts in lists the other way round, with others behind, what it counts in these and in those
count-flatten-reverse_onto : (p : ℕ → Bool) (ls acc : List (List ℕ)) → count p (flatten (reverse_aux ls acc)) ≡ count p (flatten ls) + count p (flatten acc)
unfolding flatten
count-flatten-reverse_onto p [] acc = omega arith
count-flatten-reverse_onto p (l ∷ ls) acc =
    omega (arith, count-flatten-reverse_onto p ls (l ∷ acc), count-append p l (flatten acc), count-append p l (flatten ls))

-- the order of the lists does not matter to what is counted in them
pub count-flatten-reverse : (p : ℕ → Bool) (ls : List (List ℕ)) → count p (flatten (reverse ls)) ≡ count p (flatten ls)
unfolding flatten
count-flatten-reverse p ls = omega (arith, count-flatten-reverse_onto p ls [])

-- ---- counted value by value

-- below n + 1 are those below n, and n
split : (p : ℕ → Bool) (n x : ℕ) → unit (p x && ltb x (suc n)) ≡ unit (p x && ltb x n) + unit (p x && eqb n x)
split p n x = go (p x)
  where
    go : (b : Bool) → unit (b && ltb x (suc n)) ≡ unit (b && ltb x n) + unit (b && eqb n x)
    go false = refl
    go true = elim (lt_or_le x n) [
      | inl l ↦ rw (lt-ltb x (suc n) (omega arith), lt-ltb x n l, ne_eqb n x (λ e. omega arith))
      | inr l ↦ elim (eq_or_ne n x) [
        | inl e ↦ rw (lt-ltb x (suc n) (omega arith), le-ltb x n l, eq-eqb n x e)
        | inr e ↦ rw (le-ltb x (suc n) (omega arith), le-ltb x n l, ne_eqb n x e)
      ]
    ]

-- those equal to v that pass a test: all of them, or none
count-value : (p : ℕ → Bool) (v : ℕ) (l : List ℕ) → count (λ x. p x && eqb v x) l ≡ unit (p v) * occurrences v l
count-value p v l = elim (tested (p v)) [
  | inl t ↦ rw (ap unit t)
      (omega (
        arith,
        count_ext (λ x. p x && eqb v x) (eqb v) l
            (λ x h. iff_eq (p x && eqb v x) (eqb v x) (and_right (p x) (eqb v x)) (λ e. and_both (p x) (eqb v x) (ap p (sym (eqb-true v x e)) ∙ t) e)),
      ))
  | inr t ↦ rw (ap unit t)
      (omega (
        arith,
        count_none (λ x. p x && eqb v x) l
            (λ x h. refuted (p x && eqb v x) (λ e. clash (p v) (ap p (eqb-true v x (and_right (p x) (eqb v x) e)) ∙ and_left (p x) (eqb v x) e) t)),
      ))
]

-- those below n that pass a test, counted value by value
pub count-values : (p : ℕ → Bool) (n : ℕ) (l : List ℕ) → count (λ x. p x && ltb x n) l ≡ total (map (λ v. unit (p v) * occurrences v l) (below n))
count-values p zero l = count_none (λ x. p x && ltb x 0) l (λ x h. refuted (p x && ltb x 0) (λ t. omega (arith, ltb-true x 0 (and_right (p x) (ltb x 0) t))))
count-values p (suc n) l =
    let f : ℕ → ℕ = λ v. unit (p v) * occurrences v l in
    omega (
      arith,
      count_sum (λ x. p x && ltb x (suc n)) (λ x. p x && ltb x n) (λ x. p x && eqb n x) l (split p n),
      count-values p n l,
      count-value p n l,
      ap (λ (r : List ℕ). total (map f r)) (up_from_snoc 0 n),
      ap total (map-append f (below n) ((0 + n) ∷ [])),
      total-append (map f (below n)) (f (0 + n) ∷ []),
      ap f (zero-add n),
    )
