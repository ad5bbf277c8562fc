-- A column at work: its divisions, and its subtractions row after row.
use mathlib.Core.Path.{◌≡◌, refl, sym, ap, ◌∙◌}
use mathlib.Core.Logic.{◌≢◌, inl, inr}
use mathlib.Core.Bool.{Bool, true, false}
use mathlib.Core.List.{List, [], ◌∷◌, ◌++◌, map}
use Prim.Native.Nat.{ℕ, zero, suc, ◌+◌, ◌-◌, ◌≤◌, ◌<◌}
use native.Mathlib.Omega.{arith}
use lib.Dec.{eqb, ltb}
use lib.ListN.{length, get_or, set, length-set}
use lib.Seq.{get_or-set_same, get_or-set_other}
use lib.Ieee.{Float, nan, mul, sub, div, binary64}
use borrow.Author.Tests.{lt-ltb, eqb-true, ne_eqb}
use Rattle.plan.specs.Lists.{every, up_from, segment, is_in, list_at, ascending}
use Rattle.plan.specs.File.{covered}
use Rattle.plan.specs.Filling.{Filling, Place, on_diagonal, in_slot, slots_of}
use Rattle.plan.specs.Factoring.{less, subtract_at, divided, pairs, pair_place, subtracted, factor_column}
use Rattle.theory.specs.Covering.{Covering}
use Rattle.theory.proofs.Bools.{and_left, and_right, and_both, eq_or_ne, lt_or_le}
use Rattle.theory.proofs.Lists.{index_of_lt}
use Rattle.theory.proofs.Ascending.{ascending_tail, falls-get_or}
use Rattle.theory.proofs.ColumnRule.{column-few}
use Rattle.theory.proofs.FactorPlaces.{kept, column-long, slot_row, slot_inside, slot_after, slot_later, pair_same, pair_held, pair_slot}
use Rattle.factor.specs.Down.{slot_in, less_down, Keeps, Beside, Placed, continued, above32}
use Rattle.factor.specs.Working.{AtRow, Advanced, Twins, Ready, Worked}
use Rattle.factor.proofs.Running.{Held, held_equal, segment-first, up_from-first, beside_long}

-- ---- a stretch by its places

every-segment : (p : ℕ → Bool) (l : List ℕ) (left a b : ℕ) → b ≤ a + left → b ≤ length l → ((t : ℕ) → a ≤ t → t < b → p (get_or l t 0) ≡ true) → every p (segment l a b) ≡ true
every-segment p l zero a b le room h = let none : b - a ≡ 0 = omega arith in rw none
every-segment p l (suc left) a b le room h = elim (lt_or_le a b) [
  | inl lt ↦ rw (segment-first l a b lt room) (and_both (p (get_or l a 0)) _ (h a (omega arith) lt) (every-segment p l left (a + 1) b (omega arith) room (λ t x y. h t (omega arith) y)))
  | inr ge ↦ (let none : b - a ≡ 0 = omega arith in rw none)
]

ascending-segment : (l : List ℕ) (left a b : ℕ) → b ≤ a + left → b ≤ length l → ((t : ℕ) → a ≤ t → t + 1 < b → get_or l t 0 < get_or l (t + 1) 0) → ascending (segment l a b) ≡ true
ascending-segment l zero a b le room h = let none : b - a ≡ 0 = omega arith in rw none
ascending-segment l (suc left) a b le room h = elim (lt_or_le a b) [
  | inl lt ↦ elim (lt_or_le (a + 1) b) [
    | inl more ↦
        let rest : ascending (segment l (a + 1) b) ≡ true = ascending-segment l left (a + 1) b (omega arith) room (λ t x y. h t (omega arith) y) in
        rw (segment-first l a b lt room, segment-first l (a + 1) b more room)
        (and_both (ltb (get_or l a 0) (get_or l (a + 1) 0)) _ (lt-ltb _ _ (h a (omega arith) more)) (rw (segment-first l (a + 1) b more room) at rest))
    | inr last ↦ (let none : b - (a + 1) ≡ 0 = omega arith in rw (segment-first l a b lt room, none))
  ]
  | inr ge ↦ (let none : b - a ≡ 0 = omega arith in rw none)
]

-- what is asked of the row in slot s and the rows behind it
pub row_beside : (starts rows : List ℕ) (n room kept lower first s to : ℕ) → AtRow starts rows n room kept lower first s to
    → Beside starts rows (get_or rows s 0) first (s + 1) to room lower
row_beside starts rows n room keeps lower first s to a =
    let h : Covering n starts rows = a.plan in
    let k : ℕ = get_or rows s 0 in
    let le : get_or starts a.j 0 ≤ s = omega (arith, a.low, a.start) in
    let lt : s < get_or starts (a.j + 1) 0 = omega (arith, a.high, a.end) in
    let r : (a.j < k) × (k < n) = slot_after n starts rows h a.j a.column s le lt in
    let in-j = slot_inside n starts rows h a.j a.column in
    let in-k = slot_inside n starts rows h k r.1 in
    record {
      begin = omega (arith, a.low);
      order = omega (arith, a.high);
      behind = omega (arith, a.end, in-j.2);
      room_kept = a.room_lower;
      known = omega (arith, h.starts.many, r.1);
      rising = in-k.0;
      inside = in-k.2;
      filled = a.slots;
      few = a.few;
      upper = ascending-segment rows to (s + 1) to (omega arith) (omega (arith, a.end, in-j.2)) (λ t x y. slot_later n starts rows h a.j a.column t (t + 1) (omega arith) (omega arith) (omega (arith, a.end)));
      lower = (kept n starts rows h k r.1).0;
      held = every-segment (λ i. is_in i (list_at starts rows k)) rows to (s + 1) to (omega arith) (omega (arith, a.end, in-j.2))
          (λ t x y. pair_held n starts rows h a.j a.column s t le (omega arith) (omega (arith, a.end)));
    }

-- the row in slot s, and the first rows of its column
pub row_inside : (starts rows : List ℕ) (n room kept lower first s to : ℕ) → AtRow starts rows n room kept lower first s to
    → (s < length rows) × (length rows < above32) × (get_or rows s 0 < n) × (get_or rows s 0 + 1 < length starts) × (to ≤ length rows)
    × (get_or starts (get_or rows s 0) 0 + (to - (s + 1)) ≤ length rows)
row_inside starts rows n room keeps lower first s to a =
    let h : Covering n starts rows = a.plan in
    let b : Beside starts rows (get_or rows s 0) first (s + 1) to room lower = row_beside starts rows n room keeps lower first s to a in
    let r = slot_after n starts rows h a.j a.column s (omega (arith, a.low, a.start)) (omega (arith, a.high, a.end)) in (
      omega (arith, a.high, b.behind),
      a.few,
      r.1,
      b.known,
      b.behind,
      beside_long starts rows (get_or rows s 0) first (s + 1) to room lower b,
    )

-- ---- subtractions

pub subtracted-append : (starts rows : List ℕ) (v l : List Float) (ps qs : List (ℕ × ℕ)) (f : Filling)
    → subtracted starts rows v l (ps ++ qs) f ≡ subtracted starts rows v l qs (subtracted starts rows v l ps f)
unfolding subtracted
subtracted-append starts rows v l [] qs f = refl
subtracted-append starts rows v l (p ∷ ps) qs f = subtracted-append starts rows v l ps qs _

-- the pairs of one row s with the rows in the slots from a on, which all have slots
row-subtracted : (starts rows : List ℕ) (v l : List Float) (s m a : ℕ) (f : Filling)
    → ((t : ℕ) → a ≤ t → t < a + m → pair_place starts rows (s, t) ≡ in_slot (slot_in starts rows (get_or rows s 0) (get_or rows t 0)))
    → subtracted starts rows v l (map (λ t. (s, t)) (up_from a m)) f
    ≡ record { diagonal = f.diagonal; values = less_down starts rows l (get_or rows s 0) (get_or v s nan) (up_from a m) f.values }
unfolding subtracted less_down subtract_at
row-subtracted starts rows v l s zero a f h = refl
row-subtracted starts rows v l s (suc m) a f h =
    let x : Float = mul binary64 (get_or l a nan) (get_or v s nan) in
    ap (λ (at : Place). subtracted starts rows v l (map (λ t. (s, t)) (up_from (suc a) m)) (subtract_at at x f)) (h a (omega arith) (omega arith))
    ∙ row-subtracted starts rows v l s m (suc a) (subtract_at (in_slot (slot_in starts rows (get_or rows s 0) (get_or rows a 0))) x f) (λ t p q. h t (omega arith) (omega arith))

-- it keeps the values' length
pub less_down-length : (starts rows : List ℕ) (l : List Float) (k : ℕ) (x : Float) (ts : List ℕ) (values : List Float) → length (less_down starts rows l k x ts values) ≡ length values
unfolding less_down less
less_down-length starts rows l k x [] values = refl
less_down-length starts rows l k x (t ∷ ts) values = less_down-length starts rows l k x ts _ ∙ length-set values _ _

-- ---- the divisions

pub record Dividing (found kept₀ lower₀ : List Float) (from to : ℕ) (d : Float) (values kept lower : List Float) (s : ℕ) : Type 0 where
  pub low : from ≤ s
  pub high : s ≤ to
  pub long : length values ≡ length found
  pub long_kept : length kept ≡ length kept₀
  pub long_lower : length lower ≡ length lower₀
  pub rest : (x : ℕ) → s ≤ x → get_or values x nan ≡ get_or found x nan
  pub keeps : Keeps kept found from s
  pub lowers : Keeps lower values from s
  pub same : divided (up_from from (to - from)) d found ≡ divided (up_from s (to - s)) d values

pub dividing_begins : (found kept lower : List Float) (from to : ℕ) (d : Float) → from ≤ to → Dividing found kept lower from to d found kept lower from
dividing_begins found kept lower from to d le = record {
  low = omega arith;
  high = le;
  long = refl;
  long_kept = refl;
  long_lower = refl;
  rest = λ x h. refl;
  keeps = λ s a b. absurd (omega arith);
  lowers = λ s a b. absurd (omega arith);
  same = refl;
}

module _ (found kept₀ lower₀ : List Float) (from to : ℕ) (d : Float) (values kept lower : List Float) (s : ℕ) (r : Dividing found kept₀ lower₀ from to d values kept lower s) where
  pub dividing_ends : to ≤ s → (values ≡ divided (up_from from (to - from)) d found) × (Keeps kept found from to × Keeps lower values from to)
  unfolding divided
  dividing_ends ge =
      let none : to - s ≡ 0 = omega arith in (
        sym (r.same ∙ ap (λ (m : ℕ). divided (up_from s m) d values) none),
        (λ x a b. r.keeps x a (omega (arith, r.high)), λ x a b. r.lowers x a (omega (arith, r.high))),
      )

  pub dividing_steps : s < to → to ≤ length found → to - from ≤ length kept₀ → to - from ≤ length lower₀ →
      let x : Float = div binary64 (get_or values s nan) d in
      Dividing found kept₀ lower₀ from to d (set values s x) (set kept (s - from) (get_or values s nan)) (set lower (s - from) x) (s + 1)
  unfolding divided
  dividing_steps lt inside room room_lower =
      let x : Float = div binary64 (get_or values s nan) d in
      let y : Float = get_or values s nan in
      record {
        low = omega (arith, r.low);
        high = omega arith;
        long = length-set values s x ∙ r.long;
        long_kept = length-set kept (s - from) y ∙ r.long_kept;
        long_lower = length-set lower (s - from) x ∙ r.long_lower;
        rest = λ i h. get_or-set_other values s i x nan (λ e. omega arith) ∙ r.rest i (omega arith);
        keeps = λ i a b. elim (eq_or_ne i s) [
          | inl e ↦ rw e (get_or-set_same kept (s - from) y nan (omega (arith, r.long_kept, r.low)) ∙ r.rest s (omega arith))
          | inr ne ↦ get_or-set_other kept (s - from) (i - from) y nan (λ e. ne (omega (arith, e, r.low))) ∙ r.keeps i a (omega arith)
        ];
        lowers = λ i a b. elim (eq_or_ne i s) [
          | inl e ↦ rw e (get_or-set_same lower (s - from) x nan (omega (arith, r.long_lower, r.low)) ∙ sym (get_or-set_same values s x nan (omega (arith, r.long))))
          | inr ne ↦ get_or-set_other lower (s - from) (i - from) x nan (λ e. ne (omega (arith, e, r.low))) ∙ r.lowers i a (omega arith) ∙ sym (get_or-set_other values s i x nan ne)
        ];
        same = r.same ∙ ap (λ (ss : List ℕ). divided ss d values) (up_from-first s to lt);
      }

-- ---- the column's rows

-- the work of row s of column j
pub row_step : (n : ℕ) (starts rows : List ℕ) → Covering n starts rows → (j : ℕ) → j < n → (v l : List Float) (s : ℕ) (f : Filling)
    → get_or starts j 0 ≤ s → s < get_or starts (j + 1) 0 →
    let to : ℕ = get_or starts (j + 1) 0 in
    let k : ℕ = get_or rows s 0 in
    subtracted starts rows v l (pairs (up_from s (to - s))) f
    ≡ subtracted starts rows v l (pairs (up_from (s + 1) (to - (s + 1)))) (record {
      diagonal = less f.diagonal k (mul binary64 (get_or l s nan) (get_or v s nan));
      values = less_down starts rows l k (get_or v s nan) (up_from (s + 1) (to - (s + 1))) f.values;
    })
row_step n starts rows h j lj v l s f le lt =
    let to : ℕ = get_or starts (j + 1) 0 in
    let k : ℕ = get_or rows s 0 in
    let later : List ℕ = up_from (s + 1) (to - (s + 1)) in
    let x : Float = mul binary64 (get_or l s nan) (get_or v s nan) in
    let with-s : ℕ → ℕ × ℕ = λ t. (s, t) in
    let g : Filling = record { diagonal = less f.diagonal k x; values = f.values } in
    ap (λ (ss : List ℕ). subtracted starts rows v l (pairs ss) f) (up_from-first s to lt)
    ∙ opened starts rows v l s later f
    ∙ ap (λ (at : Place). subtracted starts rows v l (map with-s later ++ pairs later) (subtract_at at x f)) (pair_same n starts rows h j lj s)
    ∙ subtracted-append starts rows v l (map with-s later) (pairs later) (subtract_at (on_diagonal k) x f)
    ∙ ap (λ (e : Filling). subtracted starts rows v l (pairs later) (subtracted starts rows v l (map with-s later) e)) (on_diagonal_lem k x f)
    ∙ ap (subtracted starts rows v l (pairs later))
    (row-subtracted starts rows v l s (to - (s + 1)) (s + 1) g
    (λ t p q. unfold slot_in in pair_slot n starts rows h j lj s t le (omega arith) (omega arith)))
  where
    opened : (starts rows : List ℕ) (v l : List Float) (s : ℕ) (later : List ℕ) (f : Filling)
        → subtracted starts rows v l (pairs (s ∷ later)) f
        ≡ subtracted starts rows v l (map (λ t. (s, t)) later ++ pairs later) (subtract_at (pair_place starts rows (s, s)) (mul binary64 (get_or l s nan) (get_or v s nan)) f)
    opened starts rows v l s later f = unfold pairs subtracted in refl

    on_diagonal_lem : (k : ℕ) (x : Float) (f : Filling) → subtract_at (on_diagonal k) x f ≡ record { diagonal = less f.diagonal k x; values = f.values }
    on_diagonal_lem k x f = unfold subtract_at in refl

-- a row whose pairs are worked
pub row_advances : (starts rows : List ℕ) (kept lower diagonal values values' : List Float) (first s to : ℕ)
    → AtRow starts rows (length diagonal) (length values) (length kept) (length lower) first s to →
    let k : ℕ = get_or rows s 0 in
    let v : Float = get_or kept (s - first) nan in
    length values' ≡ length values
    → ((l : List Float) → Keeps lower l first to → values' ≡ less_down starts rows l k v (up_from (s + 1) (to - (s + 1))) values)
    → Advanced starts rows kept lower first to s (s + 1) diagonal values
    (set diagonal k (sub binary64 (get_or diagonal k nan) (mul binary64 (get_or lower (s - first) nan) v))) values'
unfolding less
row_advances starts rows keeps lower diagonal values values' first s to a long down =
    let n : ℕ = length diagonal in
    let k : ℕ = get_or rows s 0 in
    let v : Float = get_or keeps (s - first) nan in
    let later : List ℕ = up_from (s + 1) (to - (s + 1)) in
    record {
      low = omega arith;
      high = omega (arith, a.high);
      long_diagonal = length-set diagonal k _;
      long_values = long;
      same = λ w l kv kl.
          let f : Filling = record { diagonal = diagonal; values = values } in
          let worked : subtracted starts rows w l (pairs (up_from s (to - s))) f
          ≡ subtracted starts rows w l (pairs later) (record {
            diagonal = less diagonal k (mul binary64 (get_or l s nan) (get_or w s nan));
            values = less_down starts rows l k (get_or w s nan) later values;
          }) = rw a.end (row_step n starts rows a.plan a.j a.column w l s f (omega (arith, a.low, a.start)) (omega (arith, a.high, a.end))) in
          worked
          ∙ ap (λ (x : Float). subtracted starts rows w l (pairs later) (record { diagonal = less diagonal k (mul binary64 (get_or l s nan) x); values = less_down starts rows l k x later values })) (sym (kv s a.low a.high))
          ∙ ap (λ (x : Float). subtracted starts rows w l (pairs later) (record { diagonal = less diagonal k (mul binary64 x v); values = less_down starts rows l k v later values })) (sym (kl s a.low a.high))
          ∙ ap (λ (m : List Float). subtracted starts rows w l (pairs later) (record { diagonal = less diagonal k (mul binary64 (get_or lower (s - first) nan) v); values = m })) (sym (down l kl));
    }

-- nothing is worked
pub advanced_none : (starts rows : List ℕ) (kept lower diagonal values : List Float) (first to s : ℕ) → s ≤ to
    → Advanced starts rows kept lower first to s s diagonal values diagonal values
advanced_none starts rows keeps lower diagonal values first to s le = record {
  low = omega arith;
  high = le;
  long_diagonal = refl;
  long_values = refl;
  same = λ v l kv kl. refl;
}

-- some rows, and some more
pub advanced_on : (starts rows : List ℕ) (kept lower : List Float) (first to s r q : ℕ) (d v d' v' d'' v'' : List Float)
    → Advanced starts rows kept lower first to s r d v d' v' → Advanced starts rows kept lower first to r q d' v' d'' v''
    → Advanced starts rows kept lower first to s q d v d'' v''
advanced_on starts rows keeps lower first to s r q d v d' v' d'' v'' a b = record {
  low = omega (arith, a.low, b.low);
  high = b.high;
  long_diagonal = b.long_diagonal ∙ a.long_diagonal;
  long_values = b.long_values ∙ a.long_values;
  same = λ w l kv kl. a.same w l kv kl ∙ b.same w l kv kl;
}

-- all rows, after the divisions: the column is worked
pub column-worked : (starts rows : List ℕ) (kept lower diagonal found values diagonal' values' : List Float) (j : ℕ) (d : Float) (first to s : ℕ)
    → first ≡ get_or starts j 0 → to ≡ get_or starts (j + 1) 0 → values ≡ divided (up_from first (to - first)) d found → Keeps kept found first to → Keeps lower values first to
    → Advanced starts rows kept lower first to first s diagonal values diagonal' values' → to ≤ s → Worked starts rows j d diagonal found diagonal' values'
unfolding factor_column slots_of
column-worked starts rows keeps lower diagonal found values diagonal' values' j d first to s ef et ed kv kl a ge =
    let f : Filling = record { diagonal = diagonal'; values = values' } in
    let none : to - s ≡ 0 = omega arith in
    let done : subtracted starts rows found values (pairs (up_from s (to - s))) f ≡ f =
    ap (λ (m : ℕ). subtracted starts rows found values (pairs (up_from s m)) f) none ∙ nothing starts rows found values s f in
    let all = sym (a.same found values kv kl ∙ done) in
    let whole = rw (ed, ef, et) at all in
    record { diagonal_left = ap (λ (g : Filling). g.diagonal) whole; values_left = ap (λ (g : Filling). g.values) whole }
  where
    nothing : (starts rows : List ℕ) (v l : List Float) (s : ℕ) (f : Filling) → subtracted starts rows v l (pairs (up_from s 0)) f ≡ f
    nothing starts rows v l s f = unfold pairs subtracted in refl

-- ---- a column that continues another

module _ (n : ℕ) (starts rows : List ℕ) (h : Covering n starts rows) (k next : ℕ) (lk : k < n) (ln : next < n) (c : continued starts rows k next ≡ true) where
  abbrev start : ℕ
  start = get_or starts k 0

  abbrev start_next : ℕ
  start_next = get_or starts next 0

  counts : get_or starts (k + 1) 0 - start ≡ get_or starts (next + 1) 0 - start_next + 1
  unfolding continued
  counts = eqb-true _ _ (and_right (eqb (get_or rows start 0) next) _ c)

  head : get_or rows start 0 ≡ next
  unfolding continued
  head = eqb-true _ _ (and_left (eqb (get_or rows start 0) next) _ c)

  -- its rows are the next one's, behind the next itself
  pub twin_rows : list_at starts rows k ≡ next ∷ list_at starts rows next
  unfolding covered
  twin_rows =
      go (list_at starts rows k) (kept n starts rows h k lk).0 (h.covers k lk) (omega (arith, column-long n starts rows h k lk, counts))
      (sym (slot_row n starts rows h k lk start (omega arith) (omega (arith, counts))) ∙ head)
      (omega (arith, column-long n starts rows h k lk, column-long n starts rows h next ln, counts))
    where
      go : (r : List ℕ) → ascending r ≡ true → covered starts rows r ≡ true → 0 < length r → get_or r (start - start) 0 ≡ next → length r ≡ length (list_at starts rows next) + 1
          → r ≡ next ∷ list_at starts rows next
      go [] up held some first long = absurd (omega arith)
      go (p ∷ others) up held some first long =
          let none : start - start ≡ 0 = omega arith in
          let e : p ≡ next = rw none at first in
          let rest : Held others (list_at starts rows next) = rw e at held in
          rw (e, held_equal others (list_at starts rows next) (ascending_tail p others up) (kept n starts rows h next ln).0 rest (omega (arith, long)))

  -- so a row's slot is as far behind the one column's start as, one more, behind the other's
  pub twin_slot : (i : ℕ) → i ≢ next → slot_in starts rows k i + start_next ≡ slot_in starts rows next i + start + 1
  unfolding slot_in
  twin_slot i ne = let no : eqb i next ≡ false = ne_eqb i next ne in rw (twin_rows, no) (omega arith)

-- what `continues` asks
pub row_twins : (starts rows : List ℕ) (n room keeps lower first s to : ℕ) → AtRow starts rows n room keeps lower first s to → first < s → Twins starts rows (get_or rows (s - 1) 0) (get_or rows s 0)
row_twins starts rows n room keeps lower first s to a more =
    let h : Covering n starts rows = a.plan in
    let k : ℕ = get_or rows (s - 1) 0 in
    let next : ℕ = get_or rows s 0 in
    let le : get_or starts a.j 0 ≤ s - 1 = omega (arith, a.start) in
    let lt : s < get_or starts (a.j + 1) 0 = omega (arith, a.high, a.end) in
    let rk = (slot_after n starts rows h a.j a.column (s - 1) le (omega arith)).1 in
    let rn = (slot_after n starts rows h a.j a.column s (omega arith) lt).1 in
    let in-k = slot_inside n starts rows h k rk in
    let in_next = slot_inside n starts rows h next rn in
    let holds : is_in next (list_at starts rows k) ≡ true = pair_held n starts rows h a.j a.column (s - 1) s le (omega arith) lt in
    let some : 0 < length (list_at starts rows k) = omega (arith, index_of_lt (list_at starts rows k) next holds) in
    record {
      known = omega (arith, h.starts.many, rk);
      known_next = omega (arith, h.starts.many, rn);
      rising = in-k.0;
      rising_next = in_next.0;
      some = omega (arith, some, column-long n starts rows h k rk, in-k.2);
      inside_next = in_next.2;
      few = a.few;
    }

-- where a column continues the one before, its places are known
pub places_known : (starts rows : List ℕ) (n room keeps lower first s to : ℕ) → AtRow starts rows n room keeps lower first s to → first < s
    → (places : List ℕ) (shift : ℕ) →
    let k : ℕ = get_or rows (s - 1) 0 in
    let next : ℕ = get_or rows s 0 in
    let later : ℕ = shift + (get_or starts next 0 - get_or starts k 0 - 1) in
    continued starts rows k next ≡ true → shift ≤ get_or starts k 0 → Placed places starts rows k first (get_or starts k 0 - shift) s to
    → (get_or starts k 0 < get_or starts next 0) × (later ≤ get_or starts next 0) × Placed places starts rows next first (get_or starts next 0 - later) (s + 1) to
places_known starts rows n room keeps lower first s to a more places shift c le placed =
    let h : Covering n starts rows = a.plan in
    let k : ℕ = get_or rows (s - 1) 0 in
    let next : ℕ = get_or rows s 0 in
    let low : get_or starts a.j 0 ≤ s - 1 = omega (arith, a.start) in
    let high : s < get_or starts (a.j + 1) 0 = omega (arith, a.high, a.end) in
    let rk : k < n = (slot_after n starts rows h a.j a.column (s - 1) low (omega arith)).1 in
    let rn : next < n = (slot_after n starts rows h a.j a.column s (omega arith) high).1 in
    let after : k < next = slot_later n starts rows h a.j a.column (s - 1) s low (omega arith) high in
    let begins : get_or starts (k + 1) 0 ≤ get_or starts next 0 = falls-get_or starts h.starts.rising (k + 1) next (omega arith) (omega (arith, h.starts.many, rn)) in
    let above : get_or starts k 0 < get_or starts next 0 = omega (arith, begins, (row_twins starts rows n room keeps lower first s to a more).rising, counts n starts rows h k next rk rn c) in (
      above,
      omega (arith, above, le),
      λ t x y.
          let i : ℕ = get_or rows t 0 in
          let ne : i ≢ next = λ e. omega (arith, e, slot_later n starts rows h a.j a.column s t (omega arith) (omega arith) (omega (arith, a.end))) in
          omega (arith, above, le, placed t (omega arith) y, twin_slot n starts rows h k next rk rn c i ne),
    )

-- ---- rows whose columns continue one another

-- a later row of the same column, with buffers of the same lengths
pub row-later : (starts rows : List ℕ) (n room keeps lower first s to : ℕ) → AtRow starts rows n room keeps lower first s to
    → (n' room' r : ℕ) → n' ≡ n → room' ≡ room → s ≤ r → r < to → AtRow starts rows n' room' keeps lower first r to
row-later starts rows n room keeps lower first s to a n' room' r en er le lt = record {
  plan = rw en a.plan;
  j = a.j;
  column = omega (arith, a.column, en);
  start = a.start;
  end = a.end;
  low = omega (arith, a.low);
  high = lt;
  slots = a.slots ∙ sym er;
  few = a.few;
  room_kept = a.room_kept;
  room_lower = a.room_lower;
}

-- What holds on the way: k is the row before slot `at`, whose places are known, and the rows behind slot s are worked up to there.
pub record Following (starts rows : List ℕ) (kept lower : List Float) (places : List ℕ) (first s to : ℕ) (diagonal₀ values₀ diagonal values : List Float) (k shift at : ℕ) : Type 0 where
  pub room : to - first ≤ length places
  pub some : s < at
  pub ready : at < to → AtRow starts rows (length diagonal) (length values) (length kept) (length lower) first at to
  pub row : k ≡ get_or rows (at - 1) 0
  pub within : shift ≤ get_or starts k 0
  pub placed : Placed places starts rows k first (get_or starts k 0 - shift) at to
  pub advanced : Advanced starts rows kept lower first to (s + 1) at diagonal₀ values₀ diagonal values

-- its places are known
pub known_on : (starts rows : List ℕ) (kept lower : List Float) (places : List ℕ) (first s to : ℕ) (diagonal₀ values₀ diagonal values : List Float) (k shift at : ℕ)
    → Following starts rows kept lower places first s to diagonal₀ values₀ diagonal values k shift at → first ≤ s → at < to →
    let next : ℕ = get_or rows at 0 in
    let later : ℕ = shift + (get_or starts next 0 - get_or starts k 0 - 1) in
    continued starts rows k next ≡ true → (get_or starts k 0 < get_or starts next 0) × (later ≤ get_or starts next 0) × Placed places starts rows next first (get_or starts next 0 - later) (at + 1) to
known_on starts rows keeps lower places first s to diagonal₀ values₀ diagonal values k shift at f low lt c =
    let r = f.ready lt in
    let e : k ≡ get_or rows (at - 1) 0 = f.row in
    rw e
    (places_known starts rows (length diagonal) (length values) (length keeps) (length lower) first at to r (omega (arith, f.some)) places shift
    (rw e at c) (rw e at f.within) (rw e at f.placed))

-- behind row s
pub following-begins : (starts rows : List ℕ) (kept lower : List Float) (places : List ℕ) (n room first s to : ℕ) (diagonal values : List Float) (k : ℕ)
    → AtRow starts rows n room (length kept) (length lower) first s to → to - first ≤ length places → length diagonal ≡ n → length values ≡ room → k ≡ get_or rows s 0
    → Placed places starts rows (get_or rows s 0) first (get_or starts (get_or rows s 0) 0) (s + 1) to
    → Following starts rows kept lower places first s to diagonal values diagonal values k 0 (s + 1)
following-begins starts rows keeps lower places n room first s to diagonal values k a fits en er e placed =
    let back : s + 1 - 1 ≡ s = omega arith in
    let none : get_or starts (get_or rows s 0) 0 - 0 ≡ get_or starts (get_or rows s 0) 0 = omega arith in
    record {
      room = fits;
      some = omega arith;
      ready = λ lt. row-later starts rows n room (length keeps) (length lower) first s to a (length diagonal) (length values) (s + 1) en er (omega arith) lt;
      row = rw back e;
      within = omega arith;
      placed = rw (e, none) placed;
      advanced = advanced_none starts rows keeps lower diagonal values first to (s + 1) (omega (arith, a.high));
    }

-- one row more, whose column continues k's
pub following_on : (starts rows : List ℕ) (kept lower : List Float) (places : List ℕ) (first s to : ℕ) (diagonal₀ values₀ diagonal values diagonal' values' : List Float) (k shift at : ℕ)
    → Following starts rows kept lower places first s to diagonal₀ values₀ diagonal values k shift at → first ≤ s → at < to →
    let next : ℕ = get_or rows at 0 in
    continued starts rows k next ≡ true → Advanced starts rows kept lower first to at (at + 1) diagonal values diagonal' values'
    → Following starts rows kept lower places first s to diagonal₀ values₀ diagonal' values' next (shift + (get_or starts next 0 - get_or starts k 0 - 1)) (at + 1)
following_on starts rows keeps lower places first s to diagonal₀ values₀ diagonal values diagonal' values' k shift at f low lt c a =
    let r = f.ready lt in
    let back : at + 1 - 1 ≡ at = omega arith in
    let known = known_on starts rows keeps lower places first s to diagonal₀ values₀ diagonal values k shift at f low lt c in
    record {
      room = f.room;
      some = omega (arith, f.some);
      ready = λ more. row-later starts rows (length diagonal) (length values) (length keeps) (length lower) first at to r (length diagonal') (length values') (at + 1) a.long_diagonal a.long_values (omega arith) more;
      row = rw back;
      within = known.1;
      placed = known.2;
      advanced = advanced_on starts rows keeps lower first to (s + 1) at (at + 1) diagonal₀ values₀ diagonal values diagonal' values' f.advanced a;
    }

-- ---- the room that a column needs

-- a column has no more rows than there are positions
pub column_fits : (n : ℕ) (starts rows : List ℕ) → Covering n starts rows → (j : ℕ) → j < n → get_or starts (j + 1) 0 - get_or starts j 0 ≤ n
column_fits n starts rows h j l = omega (arith, column-long n starts rows h j l, column-few n j (list_at starts rows j) (h.rule j l))

-- What holds between two rows of a column: those up to slot s are worked.
pub record InColumn (starts rows : List ℕ) (kept lower diagonal₀ values₀ diagonal values : List Float) (places : List ℕ) (first to s : ℕ) : Type 0 where
  pub room : to - first ≤ length places
  pub ready : s < to → AtRow starts rows (length diagonal) (length values) (length kept) (length lower) first s to
  pub advanced : Advanced starts rows kept lower first to first s diagonal₀ values₀ diagonal values

-- before the first row
pub in_column-begins : (starts rows : List ℕ) (kept lower diagonal values : List Float) (places : List ℕ) (n room j first to : ℕ)
    → Ready starts rows n room (length kept) (length lower) (length places) j → first ≡ get_or starts j 0 → to ≡ get_or starts (j + 1) 0 → length diagonal ≡ n → length values ≡ room
    → InColumn starts rows kept lower diagonal values diagonal values places first to first
in_column-begins starts rows keeps lower diagonal values places n room j first to r ef et en er =
    let fits = column_fits n starts rows r.plan j r.column in
    let rising = (slot_inside n starts rows r.plan j r.column).0 in
    record {
      room = omega (arith, fits, r.room_places, ef, et);
      ready = λ lt. record {
        plan = rw en r.plan;
        j = j;
        column = omega (arith, r.column, en);
        start = ef;
        end = et;
        low = omega arith;
        high = lt;
        slots = r.slots ∙ sym er;
        few = r.few;
        room_kept = omega (arith, fits, r.room_kept, ef, et);
        room_lower = omega (arith, fits, r.room_lower, ef, et);
      };
      advanced = advanced_none starts rows keeps lower diagonal values first to first (omega (arith, rising, ef, et));
    }

-- some rows more
pub in_column_on : (starts rows : List ℕ) (kept lower diagonal₀ values₀ diagonal values diagonal' values' : List Float) (places places' : List ℕ) (first to s r : ℕ)
    → InColumn starts rows kept lower diagonal₀ values₀ diagonal values places first to s → s < to → length places' ≡ length places
    → Advanced starts rows kept lower first to s r diagonal values diagonal' values' → InColumn starts rows kept lower diagonal₀ values₀ diagonal' values' places' first to r
in_column_on starts rows keeps lower diagonal₀ values₀ diagonal values diagonal' values' places places' first to s r i lt ep a = record {
  room = omega (arith, i.room, ep);
  ready = λ more. row-later starts rows (length diagonal) (length values) (length keeps) (length lower) first s to (i.ready lt) (length diagonal') (length values') r a.long_diagonal a.long_values a.low more;
  advanced = advanced_on starts rows keeps lower first to first s r diagonal₀ values₀ diagonal values diagonal' values' i.advanced a;
}
