-- What holds of each of several lists.
use mathlib.Core.Path.{◌≡◌}
use mathlib.Core.Bool.{true}
use mathlib.Core.List.{reverse_aux, List, [], ◌∷◌, flatten, ◌++◌}
use Prim.Native.Nat.{ℕ, zero, suc, ◌<◌, ◌≤◌}
use native.Mathlib.Omega.{arith}
use lib.ListN.{length, get_or, length-append}
use Rattle.plan.specs.Lists.{is_in}
use Rattle.theory.specs.Regions.{All}
use Rattle.theory.proofs.Lists.{is_in-append-left, is_in-append_right}

-- a fact that follows from another, for each list of them
pub all_map : (P Q : List ℕ → Type 0) → ((l : List ℕ) → P l → Q l) → (ls : List (List ℕ)) → All P ls → All Q ls
all_map P Q f [] all = tt
all_map P Q f (l ∷ ls) all = (f l all.0, all_map P Q f ls all.1)

-- what holds of each list holds of the one at a place
pub all_get_d : (P : List ℕ → Type 0) (ls : List (List ℕ)) → All P ls → (i : ℕ) → i < length ls → P (get_or ls i [])
all_get_d P [] all i h = absurd (omega arith)
all_get_d P (l ∷ ls) all zero h = all.0
all_get_d P (l ∷ ls) all (suc i) h = all_get_d P ls all.1 i (omega arith)

-- what holds of each list of the first and of the second holds of each of both together
pub all_append : (P : List ℕ → Type 0) (xs ys : List (List ℕ)) → All P xs → All P ys → All P (xs ++ ys)
all_append P [] ys a b = b
all_append P (x ∷ xs) ys a b = (a.0, all_append P xs ys a.1 b)

-- and of each of the first, the other way round, with the second behind
pub all-reverse_onto : (P : List ℕ → Type 0) (ls acc : List (List ℕ)) → All P ls → All P acc → All P (reverse_aux ls acc)
all-reverse_onto P [] acc a b = b
all-reverse_onto P (l ∷ ls) acc a b = all-reverse_onto P ls (l ∷ acc) a.1 (a.0, b)

-- what holds of all members of the lists together holds of the members of each
pub all-members : (P : ℕ → Type 0) (ls : List (List ℕ)) → ((v : ℕ) → is_in v (flatten ls) ≡ true → P v) → All (λ l. (v : ℕ) → is_in v l ≡ true → P v) ls
unfolding flatten
all-members P [] f = tt
all-members P (l ∷ ls) f = (λ v h. f v (is_in-append-left v l (flatten ls) h), all-members P ls (λ v h. f v (is_in-append_right v l (flatten ls) h)))

-- where each list has an element, there are at most as many lists as elements
pub lists_few : (ls : List (List ℕ)) → All (λ l. 0 < length l) ls → length ls ≤ length (flatten ls)
unfolding flatten
lists_few [] all = omega arith
lists_few (l ∷ ls) all = omega (arith, length-append l (flatten ls), all.0, lists_few ls all.1)
