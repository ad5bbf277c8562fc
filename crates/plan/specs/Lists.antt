-- Numbers and lists, with tests that compute. Nothing here is of document 01; the files that are use these names.
use Rattle.std.specs.Prelude.{Bool, true, false, not, cond, ◌&&◌, ◌||◌, List, [], ◌∷◌, ◌++◌, ℕ, zero, suc, ◌+◌, ◌-◌, ltb, eqb, length, take, drop, get_or}
-- whether some element passes the test, whether every element passes it, and the elements that pass it, in their order
pub use Rattle.std.specs.List.{list_any as exists, list_all as every, filter as keep}

module _ {A : Type 0} where
  -- l from place a up to, not including, place b
  abbrev pub segment : List A → ℕ → ℕ → List A
  segment l a b = take (b - a) (drop a l)

  -- a buffer that held `found`, with `entries` written at its front and the rest as found
  abbrev pub written : List A → List A → List A
  written entries found = entries ++ drop (length entries) found

-- what a rule makes of y for each of some elements, one after the other: each step takes what the one before left
abbrev pub in_turn : {A B : Type 0} → (A → B → B) → List A → B → B
in_turn rule [] y = y
in_turn rule (x ∷ xs) y = in_turn rule xs (rule x y)

-- List v of compressed lists: the lists stand in `entries` one after the other, and list v runs from start v up to, not including, start v + 1.
unfoldable pub list_at : List ℕ → List ℕ → ℕ → List ℕ
list_at starts entries v = segment entries (get_or starts v 0) (get_or starts (v + 1) 0)

-- a, a + 1, .., k of them
abbrev pub up_from : ℕ → ℕ → List ℕ
up_from a zero = []
up_from a (suc k) = a ∷ up_from (suc a) k

-- 0, 1, .. up to, not including, n
abbrev pub below : ℕ → List ℕ
below n = up_from 0 n

-- n - 1, n - 2, .. down to 0
abbrev pub down_from : ℕ → List ℕ
down_from zero = []
down_from (suc n) = n ∷ down_from n

abbrev pub is_in : ℕ → List ℕ → Bool
is_in x l = exists (eqb x) l

-- l without the elements of s
abbrev pub without : List ℕ → List ℕ → List ℕ
without s l = keep (λ x. not (is_in x s)) l

-- how many times x stands in l
abbrev pub occurrences : ℕ → List ℕ → ℕ
occurrences x l = length (keep (eqb x) l)

-- whether l is n long and holds each number below n once
unfoldable pub each_once : ℕ → List ℕ → Bool
each_once n l = eqb (length l) n && every (λ v. eqb (occurrences v l) 1) (below n)

-- whether a number stands twice in l
abbrev pub twice : List ℕ → Bool
twice [] = false
twice (x ∷ xs) = is_in x xs || twice xs

-- the first place of x in l; l's length where x is not in it
abbrev pub index_of : ℕ → List ℕ → ℕ
index_of x [] = 0
index_of x (y ∷ ys) = cond (eqb x y) 0 (suc (index_of x ys))

abbrev pub total : List ℕ → ℕ
total [] = 0
total (x ∷ xs) = x + total xs

-- start, start + c₀, start + c₀ + c₁, ..: one more than there are counts
abbrev pub running_sums : ℕ → List ℕ → List ℕ
running_sums start [] = start ∷ []
running_sums start (c ∷ cs) = start ∷ running_sums (start + c) cs

-- whether each element is greater than the one before it
abbrev pub ascending : List ℕ → Bool
ascending [] = true
ascending (x ∷ []) = true
ascending (x ∷ (y ∷ ys)) = ltb x y && ascending (y ∷ ys)

-- whether some element is less than the one before it
abbrev pub falls : List ℕ → Bool
falls [] = false
falls (x ∷ []) = false
falls (x ∷ (y ∷ ys)) = ltb y x || falls (y ∷ ys)

-- whether two lists are equal
abbrev pub same : List ℕ → List ℕ → Bool
same [] [] = true
same [] (y ∷ ys) = false
same (x ∷ xs) [] = false
same (x ∷ xs) (y ∷ ys) = eqb x y && same xs ys
