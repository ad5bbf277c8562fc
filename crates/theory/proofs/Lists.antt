-- Laws of the book's lists: membership, tests over lists, what passes a test, places; and any list by its places, and the other way round.
use mathlib.Core.Path.{◌≡◌, refl, sym, ap, ap₂, ◌∙◌}
use mathlib.Core.Logic.{◌⊎◌, inl, inr}
use mathlib.Core.Bool.{Bool, true, false, not, ◌&&◌, ◌||◌, cond, false≢true, or-false, or_assoc}
use mathlib.Core.List.{List, [], ◌∷◌, ◌++◌, map, head_d, get_last_d, append-nil, reverse, reverse-cons, reverse-append}
use Prim.Native.Nat.{ℕ, zero, suc, ◌+◌, ◌-◌, ◌≤◌, ◌<◌}
use native.Mathlib.Numerals.{add-one}
use native.Mathlib.Omega.{arith}
use lib.Dec.{eqb}
use lib.ListN.{length, get_or, take, drop, take-append-drop, length-drop, length-reverse}
use lib.Seq.{take-suc, drop-cons, get_or-take, take_at, get_or_at}
use borrow.Author.Tests.{eqb-true, eq-eqb}
use Rattle.plan.specs.Lists.{exists, every, keep, in_turn, is_in, without, index_of, same}
use Rattle.theory.proofs.Bools.{or_cases, or_left, or_right, or_false_left, or_false_right, and_left, and_right, and_both, clash, refuted, iff_eq, eqb_same}

-- one element more of any list
pub take_more : {A : Type 0} (l : List A) (i : ℕ) (d : A) → i < length l → take (i + 1) l ≡ take i l ++ (get_or l i d ∷ [])
take_more l i d h = rw add-one (take-suc l i d h)

-- ---- membership

-- a rule in turn for some elements, then for others
pub turn_append : {A B : Type 0} (rule : A → B → B) (xs ys : List A) (y : B) → in_turn rule (xs ++ ys) y ≡ in_turn rule ys (in_turn rule xs y)
turn_append rule [] ys y = refl
turn_append rule (x ∷ xs) ys y = turn_append rule xs ys (rule x y)

pub is_in-head : (x : ℕ) (l : List ℕ) → is_in x (x ∷ l) ≡ true
is_in-head x l = or_left (eqb x x) _ (eqb_same x)

pub is_in_tail : (x y : ℕ) (l : List ℕ) → is_in x l ≡ true → is_in x (y ∷ l) ≡ true
is_in_tail x y l h = or_right (eqb x y) _ h

pub is_in_cons : (x y : ℕ) (l : List ℕ) → is_in x (y ∷ l) ≡ true → (x ≡ y) ⊎ (is_in x l ≡ true)
is_in_cons x y l h = elim (or_cases (eqb x y) (is_in x l) h) [ inl e ↦ inl (eqb-true x y e) | inr m ↦ inr m ]

pub is_in-append-left : (x : ℕ) (xs ys : List ℕ) → is_in x xs ≡ true → is_in x (xs ++ ys) ≡ true
is_in-append-left x [] ys h = absurd (false≢true h)
is_in-append-left x (y ∷ xs) ys h = elim (or_cases (eqb x y) (is_in x xs) h) [
  | inl e ↦ or_left (eqb x y) _ e
  | inr m ↦ or_right (eqb x y) _ (is_in-append-left x xs ys m)
]

pub is_in-append_right : (x : ℕ) (xs ys : List ℕ) → is_in x ys ≡ true → is_in x (xs ++ ys) ≡ true
is_in-append_right x [] ys h = h
is_in-append_right x (y ∷ xs) ys h = or_right (eqb x y) _ (is_in-append_right x xs ys h)

pub is_in-append_cases : (x : ℕ) (xs ys : List ℕ) → is_in x (xs ++ ys) ≡ true → (is_in x xs ≡ true) ⊎ (is_in x ys ≡ true)
is_in-append_cases x [] ys h = inr h
is_in-append_cases x (y ∷ xs) ys h = elim (or_cases (eqb x y) (is_in x (xs ++ ys)) h) [
  | inl e ↦ inl (or_left (eqb x y) _ e)
  | inr m ↦ elim (is_in-append_cases x xs ys m) [ inl a ↦ inl (or_right (eqb x y) _ a) | inr a ↦ inr a ]
]

-- an element of one of two lists passes a test
pub exists-append : (p : ℕ → Bool) (xs ys : List ℕ) → exists p (xs ++ ys) ≡ (exists p xs || exists p ys)
exists-append p [] ys = refl
exists-append p (x ∷ xs) ys = rw (exists-append p xs ys) (sym (or_assoc (p x) (exists p xs) (exists p ys)))

pub is_in-append : (x : ℕ) (xs ys : List ℕ) → is_in x (xs ++ ys) ≡ (is_in x xs || is_in x ys)
is_in-append x xs ys = exists-append (eqb x) xs ys

pub is_in-get_or : (l : List ℕ) (i d : ℕ) → i < length l → is_in (get_or l i d) l ≡ true
is_in-get_or [] i d h = absurd (omega arith)
is_in-get_or (y ∷ ys) zero d h = is_in-head y ys
is_in-get_or (y ∷ ys) (suc i) d h = is_in_tail (get_or ys i d) y ys (is_in-get_or ys i d (omega arith))

pub is_in-take : (x k : ℕ) (l : List ℕ) → is_in x (take k l) ≡ true → is_in x l ≡ true
is_in-take x zero l h = absurd (false≢true h)
is_in-take x (suc k) [] h = absurd (false≢true h)
is_in-take x (suc k) (y ∷ l) h = elim (or_cases (eqb x y) (is_in x (take k l)) h) [
  | inl e ↦ or_left (eqb x y) _ e
  | inr m ↦ or_right (eqb x y) _ (is_in-take x k l m)
]

pub is_in-drop : (x k : ℕ) (l : List ℕ) → is_in x (drop k l) ≡ true → is_in x l ≡ true
is_in-drop x zero l h = h
is_in-drop x (suc k) [] h = absurd (false≢true h)
is_in-drop x (suc k) (y ∷ l) h = is_in_tail x y l (is_in-drop x k l h)

-- a list without members is empty
pub is_in-none : (l : List ℕ) → ((x : ℕ) → is_in x l ≡ true → ⊥) → l ≡ []
is_in-none [] f = refl
is_in-none (x ∷ l) f = absurd (f x (is_in-head x l))

-- ---- every element, some element

pub every-is_in : (p : ℕ → Bool) (l : List ℕ) → every p l ≡ true → (x : ℕ) → is_in x l ≡ true → p x ≡ true
every-is_in p [] h x t = absurd (false≢true t)
every-is_in p (y ∷ ys) h x t = elim (is_in_cons x y ys t) [
  | inl e ↦ ap p e ∙ and_left (p y) _ h
  | inr u ↦ every-is_in p ys (and_right (p y) _ h) x u
]

pub is_in-every : (p : ℕ → Bool) (l : List ℕ) → ((x : ℕ) → is_in x l ≡ true → p x ≡ true) → every p l ≡ true
is_in-every p [] f = refl
is_in-every p (y ∷ ys) f = and_both (p y) _ (f y (is_in-head y ys)) (is_in-every p ys (λ x t. f x (is_in_tail x y ys t)))

pub exists-is_in : (p : ℕ → Bool) (l : List ℕ) → exists p l ≡ true → (x : ℕ) × (is_in x l ≡ true) × (p x ≡ true)
exists-is_in p [] h = absurd (false≢true h)
exists-is_in p (y ∷ ys) h = elim (or_cases (p y) (exists p ys) h) [
  | inl t ↦ (y, is_in-head y ys, t)
  | inr t ↦ (let r = exists-is_in p ys t in (r.0, is_in_tail r.0 y ys r.1, r.2))
]

pub is_in-exists : (p : ℕ → Bool) (l : List ℕ) (x : ℕ) → is_in x l ≡ true → p x ≡ true → exists p l ≡ true
is_in-exists p [] x h t = absurd (false≢true h)
is_in-exists p (y ∷ ys) x h t = elim (is_in_cons x y ys h) [
  | inl e ↦ or_left (p y) _ (sym (ap p e) ∙ t)
  | inr u ↦ or_right (p y) _ (is_in-exists p ys x u t)
]

-- where no element passes, each one fails
pub exists-none : (p : ℕ → Bool) (l : List ℕ) → exists p l ≡ false → (x : ℕ) → is_in x l ≡ true → p x ≡ false
exists-none p l h x m = refuted (p x) (λ t. clash (exists p l) (is_in-exists p l x m t) h)

pub none-exists : (p : ℕ → Bool) (l : List ℕ) → ((x : ℕ) → is_in x l ≡ true → p x ≡ false) → exists p l ≡ false
none-exists p l f = refuted (exists p l) (λ t. let r = exists-is_in p l t in clash (p r.0) r.2 (f r.0 r.1))

-- one more element of a list is tried
pub exists_more : (p : ℕ → Bool) (l : List ℕ) (i : ℕ) → i < length l → exists p (take (i + 1) l) ≡ (exists p (take i l) || p (get_or l i 0))
exists_more p l i h = rw (take_more l i 0 h, exists-append p (take i l) (get_or l i 0 ∷ []), or-false (p (get_or l i 0)))

-- tests that agree on a list pass together
pub exists_ext : (p q : ℕ → Bool) (l : List ℕ) → ((x : ℕ) → is_in x l ≡ true → p x ≡ q x) → exists p l ≡ exists q l
exists_ext p q [] f = refl
exists_ext p q (x ∷ l) f = rw (f x (is_in-head x l), exists_ext p q l (λ y m. f y (is_in_tail y x l m)))

-- lists with the same members pass the same tests
pub exists-same : (p : ℕ → Bool) (xs ys : List ℕ) → ((x : ℕ) → is_in x xs ≡ is_in x ys) → exists p xs ≡ exists p ys
exists-same p xs ys h = iff_eq _ _ (half xs ys h) (half ys xs (λ x. sym (h x)))
  where
    half : (xs ys : List ℕ) → ((x : ℕ) → is_in x xs ≡ is_in x ys) → exists p xs ≡ true → exists p ys ≡ true
    half xs ys h t = let r = exists-is_in p xs t in is_in-exists p ys r.0 (sym (h r.0) ∙ r.1) r.2

-- a test of mapped elements
pub exists-map : (p : ℕ → Bool) (f : ℕ → ℕ) (l : List ℕ) → exists p (map f l) ≡ exists (λ x. p (f x)) l
exists-map p f [] = refl
exists-map p f (y ∷ l) = ap (λ (b : Bool). p (f y) || b) (exists-map p f l)

-- an element of what a map makes of a list, and what it makes of one
pub map-is_in : (f : ℕ → ℕ) (l : List ℕ) (x : ℕ) → is_in x (map f l) ≡ true → (y : ℕ) × (is_in y l ≡ true) × (x ≡ f y)
map-is_in f l x t =
    let r = exists-is_in (λ y. eqb x (f y)) l (sym (exists-map (eqb x) f l) ∙ t) in
    (r.0, r.1, eqb-true x (f r.0) r.2)

pub is_in-map : (f : ℕ → ℕ) (l : List ℕ) (y : ℕ) → is_in y l ≡ true → is_in (f y) (map f l) ≡ true
is_in-map f l y t = exists-map (eqb (f y)) f l ∙ is_in-exists (λ z. eqb (f y) (f z)) l y t (eqb_same (f y))

-- maps that agree on a list's elements
pub map_ext : (f g : ℕ → ℕ) (l : List ℕ) → ((x : ℕ) → is_in x l ≡ true → f x ≡ g x) → map f l ≡ map g l
map_ext f g [] h = refl
map_ext f g (x ∷ l) h = ap₂ (λ (y : ℕ) (t : List ℕ). y ∷ t) (h x (is_in-head x l)) (map_ext f g l (λ y t. h y (is_in_tail y x l t)))

-- a test of the elements that pass another
pub exists-keep : (p q : ℕ → Bool) (l : List ℕ) → exists p (keep q l) ≡ exists (λ x. q x && p x) l
exists-keep p q [] = refl
exists-keep p q (y ∷ l) = go (q y) (exists-keep p q l)
  where
    go : (b : Bool) → exists p (keep q l) ≡ exists (λ x. q x && p x) l → exists p (cond b (y ∷ keep q l) (keep q l)) ≡ (b && p y || exists (λ x. q x && p x) l)
    go true e = ap (λ (b : Bool). p y || b) e
    go false e = e

-- ---- what passes a test

pub in_keep : (p : ℕ → Bool) (l : List ℕ) (x : ℕ) → is_in x l ≡ true → p x ≡ true → is_in x (keep p l) ≡ true
in_keep p [] x h k = absurd (false≢true h)
in_keep p (y ∷ l) x h k = go (p y) refl (is_in_cons x y l h) (λ m. in_keep p l x m k)
  where
    go : (b : Bool) → p y ≡ b → (x ≡ y) ⊎ (is_in x l ≡ true) → (is_in x l ≡ true → is_in x (keep p l) ≡ true) → is_in x (cond b (y ∷ keep p l) (keep p l)) ≡ true
    go true e (inl m) ih = or_left (eqb x y) _ (eq-eqb x y m)
    go true e (inr m) ih = is_in_tail x y (keep p l) (ih m)
    go false e (inl m) ih = clash (p x) k (ap p m ∙ e)
    go false e (inr m) ih = ih m

pub of_keep : (p : ℕ → Bool) (l : List ℕ) (x : ℕ) → is_in x (keep p l) ≡ true → (is_in x l ≡ true) × (p x ≡ true)
of_keep p [] x h = absurd (false≢true h)
of_keep p (y ∷ l) x h = go (p y) refl h (of_keep p l x)
  where
    go : (b : Bool) → p y ≡ b → is_in x (cond b (y ∷ keep p l) (keep p l)) ≡ true → (is_in x (keep p l) ≡ true → (is_in x l ≡ true) × (p x ≡ true)) → (is_in x (y ∷ l) ≡ true) × (p x ≡ true)
    go true e h ih = elim (is_in_cons x y (keep p l) h) [
      | inl m ↦ (or_left (eqb x y) _ (eq-eqb x y m), ap p m ∙ e)
      | inr m ↦ (is_in_tail x y l (ih m).0, (ih m).1)
    ]
    go false e h ih = (is_in_tail x y l (ih h).0, (ih h).1)

pub is_in-keep : (p : ℕ → Bool) (l : List ℕ) (x : ℕ) → is_in x (keep p l) ≡ (is_in x l && p x)
is_in-keep p l x = iff_eq _ _
    (λ h. and_both (is_in x l) _ (of_keep p l x h).0 (of_keep p l x h).1)
    (λ h. in_keep p l x (and_left (is_in x l) _ h) (and_right (is_in x l) _ h))

-- tests that agree on a list keep the same
pub keep_ext : (p q : ℕ → Bool) (l : List ℕ) → ((x : ℕ) → is_in x l ≡ true → p x ≡ q x) → keep p l ≡ keep q l
keep_ext p q [] h = refl
keep_ext p q (y ∷ l) h = rw (h y (is_in-head y l), keep_ext p q l (λ x m. h x (is_in_tail x y l m)))

pub keep-keep : (p q : ℕ → Bool) (l : List ℕ) → keep p (keep q l) ≡ keep (λ v. q v && p v) l
keep-keep p q [] = refl
keep-keep p q (y ∷ l) = go (q y) (keep-keep p q l)
  where
    go : (b : Bool) → keep p (keep q l) ≡ keep (λ v. q v && p v) l → keep p (cond b (y ∷ keep q l) (keep q l)) ≡ cond (b && p y) (y ∷ keep (λ v. q v && p v) l) (keep (λ v. q v && p v) l)
    go true e = rw e
    go false e = e

-- what passes of two lists, one behind the other
pub keep_append : (p : ℕ → Bool) (xs ys : List ℕ) → keep p (xs ++ ys) ≡ keep p xs ++ keep p ys
keep_append p [] ys = refl
keep_append p (x ∷ xs) ys = go (p x) (keep_append p xs ys)
  where
    go : (b : Bool) → keep p (xs ++ ys) ≡ keep p xs ++ keep p ys → cond b (x ∷ keep p (xs ++ ys)) (keep p (xs ++ ys)) ≡ cond b (x ∷ keep p xs) (keep p xs) ++ keep p ys
    go true e = ap (λ (l : List ℕ). x ∷ l) e
    go false e = e

-- one more element of a list is tried
pub keep_more : (p : ℕ → Bool) (l : List ℕ) (i : ℕ) → i < length l
    → keep p (take (i + 1) l) ≡ cond (p (get_or l i 0)) (keep p (take i l) ++ (get_or l i 0 ∷ [])) (keep p (take i l))
keep_more p l i h = rw (take_more l i 0 h) (keep_append p (take i l) (get_or l i 0 ∷ []) ∙ go (p (get_or l i 0)))
  where
    go : (b : Bool) → keep p (take i l) ++ cond b (get_or l i 0 ∷ []) [] ≡ cond b (keep p (take i l) ++ (get_or l i 0 ∷ [])) (keep p (take i l))
    go true = refl
    go false = append-nil (keep p (take i l))

-- a list kept from another by some test
pub record Kept (region l : List ℕ) : Type 0 where
  pub test : ℕ → Bool
  pub same : l ≡ keep test region

-- it is what the other list has in common with it
pub kept-own : (region l : List ℕ) → Kept region l → keep (λ v. is_in v l) region ≡ l
kept-own region l k =
    keep_ext (λ v. is_in v l) k.test region (λ v m. ap (is_in v) k.same ∙ is_in-keep k.test region v ∙ ap (λ (b : Bool). b && k.test v) m)
    ∙ sym k.same

pub keep_all : (l : List ℕ) → keep (λ v. true) l ≡ l
keep_all [] = refl
keep_all (x ∷ l) = ap (λ (k : List ℕ). x ∷ k) (keep_all l)

-- what is left of a list without the elements that pass a test
pub without-keep : (q : ℕ → Bool) (l : List ℕ) → without (keep q l) l ≡ keep (λ v. not (q v)) l
without-keep q l = keep_ext (λ v. not (is_in v (keep q l))) (λ v. not (q v)) l
    (λ x m. ap not (iff_eq (is_in x (keep q l)) (q x) (λ t. (of_keep q l x t).1) (λ t. in_keep q l x m t)))

-- lists with the same members leave the same
pub without-same : (s t l : List ℕ) → ((x : ℕ) → is_in x s ≡ is_in x t) → without s l ≡ without t l
without-same s t l f = keep_ext (λ x. not (is_in x s)) (λ x. not (is_in x t)) l (λ x m. ap not (f x))

-- ---- the place of an element

pub get_or-index_of : (l : List ℕ) (x d : ℕ) → index_of x l < length l → get_or l (index_of x l) d ≡ x
get_or-index_of [] x d h = absurd (omega arith)
get_or-index_of (y ∷ ys) x d h = go (eqb x y) refl h (get_or-index_of ys x d)
  where
    go : (b : Bool) → eqb x y ≡ b → cond b 0 (suc (index_of x ys)) < suc (length ys) → (index_of x ys < length ys → get_or ys (index_of x ys) d ≡ x) → get_or (y ∷ ys) (cond b 0 (suc (index_of x ys))) d ≡ x
    go true e lt ih = sym (eqb-true x y e)
    go false e lt ih = ih (omega arith)

pub index_of_le : (l : List ℕ) (i d : ℕ) → i < length l → index_of (get_or l i d) l ≤ i
index_of_le [] i d h = absurd (omega arith)
index_of_le (y ∷ ys) zero d h = go (eqb y y) (eqb_same y)
  where
    go : (b : Bool) → b ≡ true → cond b 0 (suc (index_of y ys)) ≤ 0
    go true e = omega arith
    go false e = absurd (false≢true e)
index_of_le (y ∷ ys) (suc i) d h = go (eqb (get_or ys i d) y) (index_of_le ys i d (omega arith))
  where
    go : (b : Bool) → index_of (get_or ys i d) ys ≤ i → cond b 0 (suc (index_of (get_or ys i d) ys)) ≤ suc i
    go true le = omega arith
    go false le = omega arith

pub index_of_lt : (l : List ℕ) (x : ℕ) → is_in x l ≡ true → index_of x l < length l
index_of_lt [] x h = absurd (false≢true h)
index_of_lt (y ∷ ys) x h = go (eqb x y) refl h (index_of_lt ys x)
  where
    go : (b : Bool) → eqb x y ≡ b → (b || is_in x ys) ≡ true → (is_in x ys ≡ true → index_of x ys < length ys) → cond b 0 (suc (index_of x ys)) < suc (length ys)
    go true e m ih = omega arith
    go false e m ih = omega (arith, ih m)

-- ---- equal lists

-- what is not in a list has the list's end for its place
pub index_of_out : (l : List ℕ) (x : ℕ) → is_in x l ≡ false → index_of x l ≡ length l
index_of_out [] x h = refl
index_of_out (y ∷ l) x h = rw (or_false_left (eqb x y) (is_in x l) h) (ap suc (index_of_out l x (or_false_right (eqb x y) (is_in x l) h)))

-- lists that the test finds equal are equal
pub same_equal : (l r : List ℕ) → same l r ≡ true → l ≡ r
same_equal [] [] h = refl
same_equal [] (y ∷ r) h = absurd (false≢true h)
same_equal (x ∷ l) [] h = absurd (false≢true h)
same_equal (x ∷ l) (y ∷ r) h = ap₂ (λ (z : ℕ) (t : List ℕ). z ∷ t) (eqb-true x y (and_left (eqb x y) _ h)) (same_equal l r (and_right (eqb x y) _ h))

-- ---- any list: a place in it, and the list the other way round

module _ {A : Type 0} where
  -- what stands at a place does not depend on the default
  pub get_d_default : (l : List A) (i : ℕ) (d e : A) → i < length l → get_or l i d ≡ get_or l i e
  get_d_default [] i d e h = absurd (omega arith)
  get_d_default (x ∷ l) zero d e h = refl
  get_d_default (x ∷ l) (suc i) d e h = get_d_default l i d e (omega arith)

  -- the first element by its place
  pub head_or-get_or : (l : List A) (d : A) → head_d l d ≡ get_or l 0 d
  unfolding head_d
  head_or-get_or [] d = refl
  head_or-get_or (x ∷ l) d = refl

  -- and the last
  pub get_last_or-get_or : (l : List A) (d : A) → get_last_d l d ≡ get_or l (length l - 1) d
  unfolding get_last_d
  get_last_or-get_or [] d = refl
  get_last_or-get_or (x ∷ []) d = refl
  get_last_or-get_or (x ∷ (y ∷ l)) d =
      let e : suc (suc (length l)) - 1 ≡ suc (suc (length l) - 1) = omega arith in
      rw e (get_last_or-get_or (y ∷ l) d)

  -- lists with the same front have the same elements in it
  pub get_d_front : (l r : List A) (i k : ℕ) (d : A) → i < k → take k l ≡ take k r → get_or l i d ≡ get_or r i d
  get_d_front l r i k d lt e = sym (get_or-take k l i d lt) ∙ ap (λ (q : List A). get_or q i d) e ∙ get_or-take k r i d lt

  -- where a list goes on from place k with x and then xs, k is a place of it, its element there is x, and xs follow
  pub drop-first : (l : List A) (k : ℕ) (d x : A) (xs : List A) → drop k l ≡ x ∷ xs → (k < length l) × (get_or l k d ≡ x) × (drop (suc k) l ≡ xs)
  drop-first l k d x xs e =
      let lt : k < length l = omega (arith, length-drop k l, ap length e) in
      let split : get_or l k d ∷ drop (suc k) l ≡ x ∷ xs = sym (drop-cons l k d lt) ∙ e in
      (lt, cc, cc)

  -- the first k of a list the other way round are its last k
  pub take-reverse : (k : ℕ) (l : List A) → k ≤ length l → take k (reverse l) ≡ reverse (drop (length l - k) l)
  take-reverse k l h =
      let m : ℕ = length l - k in
      let few : length (drop m l) ≡ k = length-drop m l ∙ omega arith in
      ap (λ (r : List A). take k (reverse r)) (sym (take-append-drop m l))
      ∙ ap (take k) (reverse-append (take m l) (drop m l))
      ∙ take_at (reverse (drop m l)) (reverse (take m l)) k (length-reverse (drop m l) ∙ few)

  -- and its element i is element i from the end
  pub get_d_reverse : (l : List A) (d : A) (i : ℕ) → i < length l → get_or (reverse l) i d ≡ get_or l (length l - suc i) d
  get_d_reverse l d i h =
      let m : ℕ = length l - suc i in
      let behind : List A = drop (suc m) l in
      let few : length behind ≡ i = length-drop (suc m) l ∙ omega arith in
      sym (get_or-take (suc i) (reverse l) i d (omega arith))
      ∙ ap (λ (r : List A). get_or r i d) (take-reverse (suc i) l h ∙ ap reverse (drop-cons l m d (omega arith)) ∙ reverse-cons (get_or l m d) behind)
      ∙ get_or_at (reverse behind) (get_or l m d) [] d i (length-reverse behind ∙ few)
