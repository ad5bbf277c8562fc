-- Running down one ascending list beside another that it holds.
use mathlib.Core.Path.{◌≡◌, refl, sym, ap, ◌∙◌, subst}
use mathlib.Core.Logic.{◌≢◌, inl, inr}
use mathlib.Core.Bool.{true, false≢true}
use mathlib.Core.List.{List, [], ◌∷◌}
use Prim.Native.Nat.{ℕ, zero, suc, ◌+◌, ◌-◌, ◌≤◌, ◌<◌}
use native.Mathlib.Numerals.{add-one}
use native.Mathlib.Omega.{arith}
use lib.ListN.{length, get_or, take, drop, length-drop, set, length-set}
use lib.Seq.{length-take-le, drop-cons, get_or-take, get_or-drop, get_or-set_same, get_or-set_other}
use lib.Ieee.{Float, nan, mul, sub, binary64}
use lib.Dec.{eqb}
use borrow.Author.Tests.{eqb-true}
use Rattle.plan.specs.Lists.{every, up_from, segment, is_in, index_of, list_at, ascending}
use Rattle.plan.specs.Factoring.{less}
use Rattle.theory.proofs.Lists.{is_in-head, is_in_cons, is_in_tail, every-is_in, is_in-every, is_in-get_or, index_of_le, index_of_lt, get_or-index_of}
use Rattle.theory.proofs.Ascending.{ascending_lt, ascending_tail, ascending-get_or}
use Rattle.theory.proofs.Bools.{or_cases, eq_or_ne, lt_or_le}
use Rattle.factor.specs.Down.{slot_in, less_down, Keeps, Beside, along_front, Placed}

abbrev pub Held : List ℕ → List ℕ → Type 0
Held upper lower = every (λ i. is_in i lower) upper ≡ true

-- the lower list's first is not the upper's: the others hold the upper
pub held_skip : (i h : ℕ) (is hs : List ℕ) → ascending (i ∷ is) ≡ true → ascending (h ∷ hs) ≡ true → Held (i ∷ is) (h ∷ hs) → h ≢ i → Held (i ∷ is) hs
held_skip i h is hs up down held ne =
    let all : (x : ℕ) → is_in x (i ∷ is) ≡ true → is_in x (h ∷ hs) ≡ true = every-is_in (λ x. is_in x (h ∷ hs)) (i ∷ is) held in
    let first : is_in i hs ≡ true = elim (is_in_cons i h hs (all i (is_in-head i is))) [ inl e ↦ absurd (ne (sym e)) | inr m ↦ m ] in
    is_in-every (λ x. is_in x hs) (i ∷ is)
    (λ x m. elim (is_in_cons x i is m) [
      | inl e ↦ ap (λ (y : ℕ). is_in y hs) e ∙ first
      | inr o ↦ elim (is_in_cons x h hs (all x m)) [
        | inl e ↦ absurd (omega (arith, e, ascending_lt i is up x o, ascending_lt h hs down i first))
        | inr p ↦ p
      ]
    ])

-- it is: the others hold the upper's others
pub held-step : (i h : ℕ) (is hs : List ℕ) → ascending (i ∷ is) ≡ true → Held (i ∷ is) (h ∷ hs) → h ≡ i → Held is hs
held-step i h is hs up held e =
    is_in-every (λ x. is_in x hs) is
    (λ x m. elim (is_in_cons x h hs (every-is_in (λ x. is_in x (h ∷ hs)) (i ∷ is) held x (is_in_tail x i is m))) [
      | inl f ↦ absurd (omega (arith, e, f, ascending_lt i is up x m))
      | inr p ↦ p
    ])

-- a list that holds another is as long or longer
held-length : (upper lower : List ℕ) → ascending upper ≡ true → ascending lower ≡ true → Held upper lower → length upper ≤ length lower
held-length [] lower up down held = omega arith
held-length (i ∷ is) [] up down held = absurd (false≢true held)
held-length (i ∷ is) (h ∷ hs) up down held = elim (eq_or_ne h i) [
  | inl e ↦ omega (arith, held-length is hs (ascending_tail i is up) (ascending_tail h hs down) (held-step i h is hs up held e))
  | inr ne ↦ omega (arith, held-length (i ∷ is) hs up (ascending_tail h hs down) (held_skip i h is hs up down held ne))
]

-- and where both are as long, they are equal
pub held_equal : (upper lower : List ℕ) → ascending upper ≡ true → ascending lower ≡ true → Held upper lower → length upper ≡ length lower → upper ≡ lower
held_equal [] [] up down held long = refl
held_equal [] (h ∷ hs) up down held long = absurd (omega (arith, long))
held_equal (i ∷ is) [] up down held long = absurd (omega (arith, long))
held_equal (i ∷ is) (h ∷ hs) up down held long = elim (eq_or_ne h i) [
  | inl e ↦
      rw (e, held_equal is hs (ascending_tail i is up) (ascending_tail h hs down) (held-step i h is hs up held e) (omega (arith, long)))
  | inr ne ↦ absurd (omega (arith, long, held-length (i ∷ is) hs up (ascending_tail h hs down) (held_skip i h is hs up down held ne)))
]

-- and at each place has no greater element
held_le : (upper lower : List ℕ) → ascending upper ≡ true → ascending lower ≡ true → Held upper lower → (p : ℕ) → p < length upper → get_or lower p 0 ≤ get_or upper p 0
held_le [] lower up down held p lt = absurd (omega arith)
held_le (i ∷ is) [] up down held p lt = absurd (false≢true held)
held_le (i ∷ is) (h ∷ hs) up down held p lt = elim (eq_or_ne h i) [
  | inl e ↦ here p lt (omega (arith, e)) (λ q m. held_le is hs (ascending_tail i is up) (ascending_tail h hs down) (held-step i h is hs up held e) q m)
  | inr ne ↦
      let rest : Held (i ∷ is) hs = held_skip i h is hs up down held ne in
      let long : length (i ∷ is) ≤ length hs = held-length (i ∷ is) hs up (ascending_tail h hs down) rest in
      let more : get_or (h ∷ hs) p 0 < get_or (h ∷ hs) (suc p) 0 = ascending-get_or (h ∷ hs) down p (suc p) (omega arith) (omega (arith, long)) in
      omega (arith, more, held_le (i ∷ is) hs up (ascending_tail h hs down) rest p lt)
]
  where
    here : (p : ℕ) → p < suc (length is) → h ≤ i → ((q : ℕ) → q < length is → get_or hs q 0 ≤ get_or is q 0) → get_or (h ∷ hs) p 0 ≤ get_or (i ∷ is) p 0
    here zero lt le rest = le
    here (suc q) lt le rest = rest q (omega arith)

-- so where it has the last element at the same place, it begins alike
pub held-front : (i h : ℕ) (is hs : List ℕ) → ascending (i ∷ is) ≡ true → ascending (h ∷ hs) ≡ true → Held (i ∷ is) (h ∷ hs)
    → get_or (h ∷ hs) (length is) 0 ≡ get_or (i ∷ is) (length is) 0 → h ≡ i
held-front i h is hs up down held last = elim (eq_or_ne h i) [
  | inl e ↦ e
  | inr ne ↦
      let m : ℕ = length is in
      let rest : Held (i ∷ is) hs = held_skip i h is hs up down held ne in
      let long : length (i ∷ is) ≤ length hs = held-length (i ∷ is) hs up (ascending_tail h hs down) rest in
      let more : get_or (h ∷ hs) m 0 < get_or (h ∷ hs) (suc m) 0 = ascending-get_or (h ∷ hs) down m (suc m) (omega arith) (omega (arith, long)) in
      absurd (omega (arith, last, more, held_le (i ∷ is) hs up (ascending_tail h hs down) rest m (omega arith)))
]

-- a list that holds one with an element has one
pub held-some : (upper lower : List ℕ) → 0 < length upper → Held upper lower → 0 < length lower
held-some [] lower some held = absurd (omega arith)
held-some (i ∷ is) [] some held = absurd (false≢true held)
held-some (i ∷ is) (h ∷ hs) some held = omega arith

-- the place of an element of an ascending list
pub ascending-index_of : (l : List ℕ) → ascending l ≡ true → (i : ℕ) → i < length l → index_of (get_or l i 0) l ≡ i
ascending-index_of l up i lt =
    let x : ℕ = get_or l i 0 in
    let at : index_of x l < length l = index_of_lt l x (is_in-get_or l i 0 lt) in
    elim (lt_or_le (index_of x l) i) [
      | inl less ↦ absurd (omega (arith, get_or-index_of l x 0 at, ascending-get_or l up (index_of x l) i less lt))
      | inr ge ↦ omega (arith, index_of_le l i 0 lt)
    ]

-- the first of a stretch
pub segment-first : (l : List ℕ) (a b : ℕ) → a < b → b ≤ length l → segment l a b ≡ get_or l a 0 ∷ segment l (a + 1) b
segment-first l a b lt le =
    let e : b - a ≡ suc (b - (a + 1)) = omega arith in
    rw (e, drop-cons l a 0 (omega arith), add-one)

segment-long : (l : List ℕ) (a b : ℕ) → a ≤ b → b ≤ length l → length (segment l a b) ≡ b - a
segment-long l a b le room = length-take-le (b - a) (drop a l) (omega (arith, length-drop a l))

segment_at : (l : List ℕ) (a b m : ℕ) → m < b - a → get_or (segment l a b) m 0 ≡ get_or l (a + m) 0
segment_at l a b m lt = get_or-take (b - a) (drop a l) m 0 lt ∙ get_or-drop a l m 0

pub up_from-first : (a b : ℕ) → a < b → up_from a (b - a) ≡ a ∷ up_from (a + 1) (b - (a + 1))
up_from-first a b lt = let e : b - a ≡ suc (b - (a + 1)) = omega arith in rw (e, add-one)

pub less_down-first : (starts rows : List ℕ) (l : List Float) (k : ℕ) (x : Float) (t : ℕ) (ts : List ℕ) (values : List Float)
    → less_down starts rows l k x (t ∷ ts) values ≡ less_down starts rows l k x ts (less values (slot_in starts rows k (get_or rows t 0)) (mul binary64 (get_or l t nan) x))
unfolding less_down
less_down-first starts rows l k x t ts values = refl

-- ---- the slots of column k

module _ (starts rows : List ℕ) (k first from to room kept : ℕ) (b : Beside starts rows k first from to room kept) where
  abbrev start : ℕ
  start = get_or starts k 0

  abbrev end : ℕ
  end = get_or starts (k + 1) 0

  column-long : length (list_at starts rows k) ≡ end - start
  unfolding list_at
  column-long = length-take-le (end - start) (drop start rows) (omega (arith, length-drop start rows, b.inside))

  -- where a row of column k stands, its slot is
  slot_at : (u i : ℕ) → start ≤ u → u < end → get_or rows u 0 ≡ i → slot_in starts rows k i ≡ u
  unfolding slot_in list_at
  slot_at u i low high e =
      let column : List ℕ = list_at starts rows k in
      let at : get_or column (u - start) 0 ≡ i =
      get_or-take (end - start) (drop start rows) (u - start) 0 (omega arith) ∙ get_or-drop start rows (u - start) 0 ∙ ap (λ (x : ℕ). get_or rows x 0) (omega arith) ∙ e in
      let place : index_of (get_or column (u - start) 0) column ≡ u - start = ascending-index_of column b.lower (u - start) (omega (arith, column-long)) in
      let place' : index_of i column ≡ u - start = ap (λ (x : ℕ). index_of x column) (sym at) ∙ place in
      omega (arith, place')

  -- the rows in the slots from .. to have slots in column k
  pub slot_within : (t : ℕ) → from ≤ t → t < to → (start ≤ slot_in starts rows k (get_or rows t 0)) × (slot_in starts rows k (get_or rows t 0) < end)
  unfolding slot_in
  slot_within t low high =
      let i : ℕ = get_or rows t 0 in
      let is-in : is_in i (list_at starts rows k) ≡ true = every-is_in (λ x. is_in x (list_at starts rows k)) (segment rows from to) b.held i (segment-is_in t low high) in
      (omega arith, omega (arith, index_of_lt (list_at starts rows k) i is-in, column-long, b.rising))
    where
      segment-is_in : (t : ℕ) → from ≤ t → t < to → is_in (get_or rows t 0) (segment rows from to) ≡ true
      segment-is_in t low high =
          let long : length (segment rows from to) ≡ to - from = length-take-le (to - from) (drop from rows) (omega (arith, length-drop from rows, b.behind)) in
          let at : get_or (segment rows from to) (t - from) 0 ≡ get_or rows t 0 =
          get_or-take (to - from) (drop from rows) (t - from) 0 (omega arith) ∙ get_or-drop from rows (t - from) 0 ∙ ap (λ (x : ℕ). get_or rows x 0) (omega arith) in
          ap (λ (x : ℕ). is_in x (segment rows from to)) (sym at) ∙ is_in-get_or (segment rows from to) (t - from) 0 (omega (arith, long))

  -- it has as many rows or more
  pub beside_long : start + (to - from) ≤ length rows
  unfolding list_at
  beside_long =
      let more : length (segment rows from to) ≤ length (list_at starts rows k) = held-length (segment rows from to) (list_at starts rows k) b.upper b.lower b.held in
      omega (arith, more, segment-long rows from to b.order b.behind, column-long, b.rising, b.inside)

-- ---- subtracting, slot after slot

-- What holds on the way: what is left to subtract from slot t on gives what was to be found, whatever l are kept.
pub record Lessening (starts rows : List ℕ) (found lower : List Float) (k first from to : ℕ) (v : Float) (values : List Float) (t : ℕ) : Type 0 where
  pub low : from ≤ t
  pub high : t ≤ to
  pub long : length values ≡ length found
  pub same : (l : List Float) → Keeps lower l first to → less_down starts rows l k v (up_from from (to - from)) found ≡ less_down starts rows l k v (up_from t (to - t)) values

module _ (starts rows : List ℕ) (found lower : List Float) (k first from to : ℕ) (v : Float) (b : Beside starts rows k first from to (length found) (length lower)) where
  pub lessening_begins : Lessening starts rows found lower k first from to v found from
  lessening_begins = record { low = omega arith; high = b.order; long = refl; same = λ l ks. refl }

  module _ (values : List Float) (t : ℕ) (r : Lessening starts rows found lower k first from to v values t) where
    pub lessening_ends : to ≤ t → (l : List Float) → Keeps lower l first to → values ≡ less_down starts rows l k v (up_from from (to - from)) found
    unfolding less_down
    lessening_ends ge l ks = let e : to - t ≡ 0 = omega arith in sym (r.same l ks ∙ ap (λ (m : ℕ). less_down starts rows l k v (up_from t m) values) e)

    pub lessening_steps : t < to → (u : ℕ) → slot_in starts rows k (get_or rows t 0) ≡ u
        → Lessening starts rows found lower k first from to v (set values u (sub binary64 (get_or values u nan) (mul binary64 (get_or lower (t - first) nan) v))) (t + 1)
    unfolding less
    lessening_steps lt u place =
        let x : Float = sub binary64 (get_or values u nan) (mul binary64 (get_or lower (t - first) nan) v) in
        record {
          low = omega (arith, r.low);
          high = omega arith;
          long = length-set values u x ∙ r.long;
          same = λ l ks.
              r.same l ks ∙ ap (λ (ts : List ℕ). less_down starts rows l k v ts values) (up_from-first t to lt)
              ∙ less_down-first starts rows l k v t (up_from (t + 1) (to - (t + 1))) values
              ∙ ap (λ (at : ℕ). less_down starts rows l k v (up_from (t + 1) (to - (t + 1))) (less values at (mul binary64 (get_or l t nan) v))) place
              ∙ ap (λ (y : Float). less_down starts rows l k v (up_from (t + 1) (to - (t + 1))) (less values u (mul binary64 y v))) (sym (ks t (omega (arith, b.begin, r.low)) lt));
        }

-- ---- running down column k

-- What holds on the way: t is a slot of the upper rows, u one of column k. The rest of column k holds the rest of the upper rows.
pub record Running (starts rows : List ℕ) (k to t u : ℕ) : Type 0 where
  pub first : get_or starts k 0 ≤ u
  pub last : u ≤ get_or starts (k + 1) 0
  pub upper : ascending (segment rows t to) ≡ true
  pub lower : ascending (segment rows u (get_or starts (k + 1) 0)) ≡ true
  pub held : Held (segment rows t to) (segment rows u (get_or starts (k + 1) 0))

module _ (starts rows : List ℕ) (k first from to room kept : ℕ) (b : Beside starts rows k first from to room kept) where
  pub running_begins : Running starts rows k to from (get_or starts k 0)
  running_begins = record {
    first = omega arith;
    last = b.rising;
    upper = b.upper;
    lower = unfold list_at in b.lower;
    held = unfold list_at in b.held;
  }

  module _ (t u : ℕ) (r : Running starts rows k to t u) (lt : t < to) where
    upper_first : segment rows t to ≡ get_or rows t 0 ∷ segment rows (t + 1) to
    upper_first = segment-first rows t to lt b.behind

    -- column k goes on
    pub room-left : u < get_or starts (k + 1) 0
    room-left =
        let some : 0 < length (segment rows u (get_or starts (k + 1) 0)) =
        held-some (segment rows t to) (segment rows u (get_or starts (k + 1) 0)) (rw upper_first (omega arith)) r.held in
        omega (arith, some, length-take_le' (get_or starts (k + 1) 0 - u) (drop u rows))
      where
        length-take_le' : (m : ℕ) (l : List ℕ) → length (take m l) ≤ m
        length-take_le' zero l = omega arith
        length-take_le' (suc m) [] = omega arith
        length-take_le' (suc m) (x ∷ l) = omega (arith, length-take_le' m l)

    lower-first : segment rows u (get_or starts (k + 1) 0) ≡ get_or rows u 0 ∷ segment rows (u + 1) (get_or starts (k + 1) 0)
    lower-first = segment-first rows u (get_or starts (k + 1) 0) room-left b.inside

    first_held : Held (get_or rows t 0 ∷ segment rows (t + 1) to) (get_or rows u 0 ∷ segment rows (u + 1) (get_or starts (k + 1) 0))
    first_held = subst (λ (l : List ℕ). Held (get_or rows t 0 ∷ segment rows (t + 1) to) l) lower-first (subst (λ (l : List ℕ). Held l (segment rows u (get_or starts (k + 1) 0))) upper_first r.held)

    -- where the last of the upper rows stands as far behind u as behind t, the rows agree
    pub running_agrees : get_or rows (u + (to - t) - 1) 0 ≡ get_or rows (to - 1) 0 → get_or rows u 0 ≡ get_or rows t 0
    running_agrees same =
        let end : ℕ = get_or starts (k + 1) 0 in
        let m : ℕ = to - (t + 1) in
        let rest-long : length (segment rows (t + 1) to) ≡ m = segment-long rows (t + 1) to (omega arith) b.behind in
        let enough : to - t ≤ end - u =
        omega (arith, held-length (segment rows t to) (segment rows u end) r.upper r.lower r.held, segment-long rows t to (omega arith) b.behind, segment-long rows u end r.last b.inside) in
        let upper-at : get_or (segment rows t to) m 0 ≡ get_or rows (to - 1) 0 = segment_at rows t to m (omega arith) ∙ ap (λ (x : ℕ). get_or rows x 0) (omega arith) in
        let lower-at : get_or (segment rows u end) m 0 ≡ get_or rows (u + (to - t) - 1) 0 = segment_at rows u end m (omega (arith, enough)) ∙ ap (λ (x : ℕ). get_or rows x 0) (omega arith) in
        let last : get_or (segment rows u end) (length (segment rows (t + 1) to)) 0 ≡ get_or (segment rows t to) (length (segment rows (t + 1) to)) 0 =
        rw rest-long (lower-at ∙ same ∙ sym upper-at) in
        held-front (get_or rows t 0) (get_or rows u 0) (segment rows (t + 1) to) (segment rows (u + 1) end)
        (rw upper_first at r.upper) (rw lower-first at r.lower) first_held (rw (upper_first, lower-first) at last)

    pub running_skips : get_or rows u 0 ≢ get_or rows t 0 → Running starts rows k to t (u + 1)
    running_skips ne = record {
      first = omega (arith, r.first);
      last = omega (arith, room-left);
      upper = r.upper;
      lower = ascending_tail (get_or rows u 0) (segment rows (u + 1) (get_or starts (k + 1) 0)) (rw lower-first at r.lower);
      held = rw upper_first
          (held_skip (get_or rows t 0) (get_or rows u 0) (segment rows (t + 1) to) (segment rows (u + 1) (get_or starts (k + 1) 0))
          (rw upper_first at r.upper) (rw lower-first at r.lower) first_held ne);
    }

    -- u is the slot of t's row in column k
    pub slot_found_lem : get_or rows u 0 ≡ get_or rows t 0 → slot_in starts rows k (get_or rows t 0) ≡ u
    slot_found_lem e = slot_at starts rows k first from to room kept b u (get_or rows t 0) r.first room-left e

    pub running_steps : get_or rows u 0 ≡ get_or rows t 0 → Running starts rows k to (t + 1) (u + 1)
    running_steps e = record {
      first = omega (arith, r.first);
      last = omega (arith, room-left);
      upper = ascending_tail (get_or rows t 0) (segment rows (t + 1) to) (rw upper_first at r.upper);
      lower = ascending_tail (get_or rows u 0) (segment rows (u + 1) (get_or starts (k + 1) 0)) (rw lower-first at r.lower);
      held = held-step (get_or rows t 0) (get_or rows u 0) (segment rows (t + 1) to) (segment rows (u + 1) (get_or starts (k + 1) 0))
          (rw upper_first at r.upper) first_held e;
    }

-- what `along_front` says of some rows
pub along_last : (starts rows : List ℕ) (k from to : ℕ) → along_front starts rows k from to ≡ true → from < to
    → get_or rows (get_or starts k 0 + (to - from) - 1) 0 ≡ get_or rows (to - 1) 0
unfolding along_front
along_last starts rows k from to h lt = elim (or_cases (eqb to from) _ h) [
  | inl e ↦ absurd (omega (arith, eqb-true to from e))
  | inr e ↦ eqb-true _ _ e
]

-- one more slot is noted
pub placed_one : (places starts rows : List ℕ) (k first from t u : ℕ) → first ≤ from → from ≤ t → t - first < length places → slot_in starts rows k (get_or rows t 0) ≡ u
    → Placed places starts rows k first (get_or starts k 0) from t → Placed (set places (t - first) u) starts rows k first (get_or starts k 0) from (t + 1)
placed_one places starts rows k first from t u begin low room place h i a b = elim (eq_or_ne i t) [
  | inl e ↦ rw e (ap (λ (x : ℕ). x + get_or starts k 0) (get_or-set_same places (t - first) u 0 room ∙ sym place))
  | inr ne ↦ ap (λ (x : ℕ). x + get_or starts k 0) (get_or-set_other places (t - first) (i - first) u 0 (λ e. ne (omega (arith, e)))) ∙ h i a (omega arith)
]
