-- Lists that stand one after the other, found again by their starts.
use mathlib.Core.Path.{◌≡◌, refl, sym, ap, ◌∙◌}
use mathlib.Core.Logic.{inl, inr}
use mathlib.Core.Bool.{true, false, false≢true}
use mathlib.Core.List.{List, [], ◌∷◌, ◌++◌, map, flatten, append-nil, append_assoc}
use Prim.Native.Nat.{ℕ, zero, suc, ◌+◌, ◌-◌, ◌≤◌, ◌<◌}
use native.Mathlib.Numerals.{add-one}
use native.Mathlib.Omega.{arith}
use lib.ListN.{length, take, drop, get_or, length-append, length-drop}
use lib.Seq.{length-take-le, take_at, drop_at, ext_get_or}
use borrow.Author.Tests.{eq-eqb, le-ltb}
use Rattle.plan.specs.Lists.{segment, below, is_in, list_at, total, running_sums, falls}
use Rattle.plan.specs.Mesh.{bad_starts}
use Rattle.theory.specs.Checked.{Starts}
use Rattle.theory.proofs.Lists.{is_in-append_cases}
use Rattle.theory.proofs.Segments.{segment-append}
use Rattle.theory.proofs.Ranges.{get_or-map-below, length-map-up_from, map_ext_up_from, map-get_or}
use Rattle.theory.proofs.Flatten.{flatten_nil, flatten_cons}
use Rattle.theory.proofs.Ascending.{falls-get_or}

-- ---- running sums; `more` is whatever stands behind them

pub sums_first : (a : ℕ) (cs more : List ℕ) → get_or (running_sums a cs ++ more) 0 0 ≡ a
sums_first a [] more = refl
sums_first a (c ∷ cs) more = refl

pub sums_last : (a : ℕ) (cs more : List ℕ) → get_or (running_sums a cs ++ more) (length cs) 0 ≡ a + total cs
sums_last a [] more = omega arith
sums_last a (c ∷ cs) more = sums_last (a + c) cs more ∙ omega arith

-- each differs from the one before by its count
pub sums_next : (a : ℕ) (cs more : List ℕ) (j : ℕ) → j < length cs → get_or (running_sums a cs ++ more) (j + 1) 0 ≡ get_or (running_sums a cs ++ more) j 0 + get_or cs j 0
sums_next a [] more j h = absurd (omega arith)
sums_next a (c ∷ cs) more zero h = sums_first (a + c) cs more
sums_next a (c ∷ cs) more (suc j) h = let next : suc j + 1 ≡ suc (j + 1) = omega arith in rw next (sums_next (a + c) cs more j (omega arith))

pub sums_length : (a : ℕ) (cs : List ℕ) → length (running_sums a cs) ≡ length cs + 1
sums_length a [] = refl
sums_length a (c ∷ cs) = omega (arith, sums_length (a + c) cs)

sums_rise : (a : ℕ) (cs : List ℕ) → falls (running_sums a cs) ≡ false
sums_rise a [] = refl
sums_rise a (c ∷ []) = rw (le-ltb (a + c) a (omega arith))
sums_rise a (c ∷ (d ∷ cs)) = rw (le-ltb (a + c) a (omega arith)) (sums_rise (a + c) (d ∷ cs))

-- they are starts of as many lists as there are counts
pub sums_starts : (n : ℕ) (cs : List ℕ) → length cs ≡ n → bad_starts n (running_sums 0 cs) ≡ false
unfolding bad_starts
sums_starts n cs many =
    let long : length (running_sums 0 cs) ≡ n + 1 = omega (arith, sums_length 0 cs) in
    let first : get_or (running_sums 0 cs) 0 0 ≡ 0 = simp append-nil at (sums_first 0 cs []) in
    rw (eq-eqb (length (running_sums 0 cs)) (n + 1) long, eq-eqb (get_or (running_sums 0 cs) 0 0) 0 first) (sums_rise 0 cs)

-- the counts again, from their running sums
pub sums_counts : (cs : List ℕ) → map (λ j. get_or (running_sums 0 cs) (j + 1) 0 - get_or (running_sums 0 cs) j 0) (below (length cs)) ≡ cs
sums_counts cs =
    let sums : List ℕ = running_sums 0 cs in
    map_ext_up_from (λ j. get_or sums (j + 1) 0 - get_or sums j 0) (λ j. get_or cs j 0) (length cs) 0
    (λ j l m. let next : get_or sums (j + 1) 0 ≡ get_or sums j 0 + get_or cs j 0 = simp append-nil at (sums_next 0 cs [] j (omega arith)) in omega arith)
    ∙ map-get_or cs

-- ---- lists one after the other

pub total-lengths : (ls : List (List ℕ)) → total (map length ls) ≡ length (flatten ls)
total-lengths [] = ap length (sym flatten_nil)
total-lengths (l ∷ ls) = omega (arith, total-lengths ls, ap length (flatten_cons l ls), length-append l (flatten ls))

-- behind list c the next one begins
pub lengths_more : (ls : List (List ℕ)) (c : ℕ) → total (map length (take (c + 1) ls)) ≡ total (map length (take c ls)) + length (get_or ls c [])
lengths_more ls c = rw add-one (go ls c)
  where
    go : (ls : List (List ℕ)) (c : ℕ) → total (map length (take (suc c) ls)) ≡ total (map length (take c ls)) + length (get_or ls c [])
    go [] zero = refl
    go [] (suc c) = refl
    go (l ∷ ls) zero = omega arith
    go (l ∷ ls) (suc c) = omega (arith, go ls c)

-- a later list does not begin before an earlier one
pub lengths_mono : (ls : List (List ℕ)) (c d : ℕ) → c ≤ d → total (map length (take c ls)) ≤ total (map length (take d ls))
lengths_mono ls zero d h = omega arith
lengths_mono [] (suc c) d h = omega arith
lengths_mono (l ∷ ls) (suc c) zero h = absurd (omega arith)
lengths_mono (l ∷ ls) (suc c) (suc d) h = omega (arith, lengths_mono ls c d (omega arith))

-- none begins behind the last place
pub lengths-within : (ls : List (List ℕ)) (c : ℕ) → total (map length (take c ls)) ≤ length (flatten ls)
lengths-within ls zero = omega arith
lengths-within [] (suc c) = omega arith
lengths-within (l ∷ ls) (suc c) = omega (arith, lengths-within ls c, ap length (flatten_cons l ls), length-append l (flatten ls))

-- behind entries that do not count, with the first start after them, each list is found by its starts, whatever stands behind
list_from_lem : (ls : List (List ℕ)) (a : ℕ) (front more rest : List ℕ) → length front ≡ a → (j : ℕ) → j < length ls
    → list_at (running_sums a (map length ls) ++ more) (front ++ (flatten ls ++ rest)) j ≡ get_or ls j []
unfolding list_at
list_from_lem [] a front more rest e j h = absurd (omega arith)
list_from_lem (l ∷ ls) a front more rest e zero h =
    let size : a + length l - a ≡ length l = omega arith in
    rw (sums_first (a + length l) (map length ls) more, size, drop_at front (flatten (l ∷ ls) ++ rest) a e, flatten_cons l ls, append_assoc l (flatten ls) rest)
    (take_at l (flatten ls ++ rest) (length l) refl)
list_from_lem (l ∷ ls) a front more rest e (suc j) h =
    let same : front ++ (flatten (l ∷ ls) ++ rest) ≡ (front ++ l) ++ (flatten ls ++ rest) =
    ap (λ (x : List ℕ). front ++ (x ++ rest)) (flatten_cons l ls)
    ∙ ap (λ (x : List ℕ). front ++ x) (append_assoc l (flatten ls) rest) ∙ sym (append_assoc front l (flatten ls ++ rest)) in
    let next : suc j + 1 ≡ suc (j + 1) = omega arith in
    rw (next, same) (list_from_lem ls (a + length l) (front ++ l) more rest (omega (arith, length-append front l)) j (omega arith))

-- list j of lists that stand one after the other, found by the running sums of their lengths
pub list_of_starts : (ls : List (List ℕ)) (more rest : List ℕ) (j : ℕ) → j < length ls
    → list_at (running_sums 0 (map length ls) ++ more) (flatten ls ++ rest) j ≡ get_or ls j []
list_of_starts ls more rest j h = list_from_lem ls 0 [] more rest refl j h

-- ---- compressed lists by their starts

-- no start is less than the one before it
pub start-next : (n : ℕ) (starts : List ℕ) → Starts n starts → (j : ℕ) → j < n → get_or starts j 0 ≤ get_or starts (j + 1) 0
start-next n starts h j l = falls-get_or starts h.rising j (j + 1) (omega arith) (omega (arith, h.many))

-- starts that begin at 0 and rise are the running sums of their differences
pub counts_sums : (n : ℕ) (starts : List ℕ) → Starts n starts → running_sums 0 (map (λ j. get_or starts (j + 1) 0 - get_or starts j 0) (below n)) ≡ starts
counts_sums n starts h = ext_get_or 0 sums starts (sums_length 0 cs ∙ ap (λ (k : ℕ). k + 1) many ∙ sym h.many) (λ j l. each j (omega (arith, sums_length 0 cs, many)))
  where
    cs : List ℕ
    cs = map (λ j. get_or starts (j + 1) 0 - get_or starts j 0) (below n)

    sums : List ℕ
    sums = running_sums 0 cs

    many : length cs ≡ n
    many = length-map-up_from (λ j. get_or starts (j + 1) 0 - get_or starts j 0) n 0

    each : (j : ℕ) → j ≤ n → get_or sums j 0 ≡ get_or starts j 0
    each zero l = sym (ap (λ (t : List ℕ). get_or t 0 0) (append-nil sums)) ∙ sums_first 0 cs [] ∙ sym h.zero_first
    each (suc j) l =
        let next : get_or sums (j + 1) 0 ≡ get_or sums j 0 + get_or cs j 0 = simp append-nil at (sums_next 0 cs [] j (omega (arith, many))) in
        let one : j + 1 ≡ suc j = add-one j in
        rw (← one)
        (omega (
          arith,
          next,
          each j (omega arith),
          get_or-map-below (λ j. get_or starts (j + 1) 0 - get_or starts j 0) 0 n j (omega arith),
          start-next n starts h j (omega arith),
        ))

module _ (n : ℕ) (starts entries : List ℕ) (h : Starts n starts) where
  -- list j has as many entries as its starts say
  pub list_length : get_or starts n 0 ≤ length entries → (j : ℕ) → j < n → length (list_at starts entries j) ≡ get_or starts (j + 1) 0 - get_or starts j 0
  unfolding list_at
  list_length fits j l =
      length-take-le (get_or starts (j + 1) 0 - get_or starts j 0) (drop (get_or starts j 0) entries)
      (omega (arith, length-drop (get_or starts j 0) entries, falls-get_or starts h.rising (j + 1) n (omega arith) (omega (arith, h.many))))

  -- an entry in front of start k stands in one of the lists before k
  pub entry_listed : (k : ℕ) → k ≤ n → (x : ℕ) → is_in x (segment entries 0 (get_or starts k 0)) ≡ true → (j : ℕ) × (j < k) × (is_in x (list_at starts entries j) ≡ true)
  unfolding list_at
  entry_listed zero l x m = absurd (false≢true (sym (ap (λ (k : ℕ). is_in x (segment entries 0 k)) h.zero_first) ∙ m))
  entry_listed (suc k) l x m =
      let one : suc k ≡ k + 1 = omega arith in
      let both : segment entries 0 (get_or starts (suc k) 0) ≡ segment entries 0 (get_or starts k 0) ++ list_at starts entries k =
      rw one (segment-append entries 0 (get_or starts k 0) (get_or starts (k + 1) 0) (omega arith) (start-next n starts h k (omega arith))) in
      elim (is_in-append_cases x (segment entries 0 (get_or starts k 0)) (list_at starts entries k) (sym (ap (is_in x) both) ∙ m)) [
        | inl t ↦ (let r = entry_listed k (omega arith) x t in (r.0, omega (arith, r.1), r.2))
        | inr t ↦ (k, omega arith, t)
      ]
