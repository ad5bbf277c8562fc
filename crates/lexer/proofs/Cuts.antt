-- A list of bytes cut before the first place whose suffix passes a test: the two halves, and a loop that looks for the place.
use mathlib.Core.Path.{◌≡◌, refl, sym, ap, ◌∙◌}
use mathlib.Core.Logic.{inl, inr}
use mathlib.Core.Bool.{Bool, true, false, not, cond, false≢true}
use mathlib.Core.List.{List, [], ◌∷◌, ◌++◌}
use Prim.Native.Nat.{ℕ, zero, suc, ◌+◌, ◌-◌, ◌≤◌, ◌<◌}
use native.Mathlib.Numerals.{add-one, one-add}
use native.Mathlib.Omega.{arith}
use lib.ListN.{length, length-append, length-drop, length-take, get_or, take, drop, drop_of_length-le}
use lib.Seq.{drop-cons, drop-drop, take_at, take_all, get_or-drop}
use Rattle.std.specs.Prelude.{Option, Some, None, is_some}
use Rattle.std.specs.Option.{unwrap_or, MatchOption}
use Rattle.std.specs.List.{position_or_len, position}
use borrow.Author.Tests.{ltb-true, ltb-false}
use lib.Dec.{ltb}
use Rattle.plan.specs.Lists.{segment}
use Rattle.theory.proofs.Bools.{clash, lt_or_le}
use Rattle.lexer.specs.Suffixes.{starts, up_to, from, At}

-- the first byte is the one at the place
pub starts_at : (p : ℕ → Bool) (text : List ℕ) (i : ℕ) → i < length text → starts p (drop i text) ≡ p (get_or text i 0)
starts_at p text i lt = rw (drop-cons text i 0 lt)

module _ (stop : List ℕ → Bool) where
  -- both halves
  pub cut : (t : List ℕ) → up_to stop t ++ from stop t ≡ t
  cut [] = refl
  cut (b ∷ t) = go (stop (b ∷ t)) (cut t)
    where
      go : (s : Bool) → up_to stop t ++ from stop t ≡ t → cond s [] (b ∷ up_to stop t) ++ cond s (b ∷ t) (from stop t) ≡ b ∷ t
      go true e = refl
      go false e = ap (λ (l : List ℕ). b ∷ l) e

  -- the first half by the places where both begin
  pub up_to-segment : (text : List ℕ) (a e : ℕ) → a ≤ length text → At text e (from stop (drop a text)) → segment text a e ≡ up_to stop (drop a text)
  up_to-segment text a e le at =
      let whole = cut (drop a text) in
      let long : length (up_to stop (drop a text)) ≡ e - a =
      omega (arith, at.0, ap length whole, length-append (up_to stop (drop a text)) (from stop (drop a text)), ap length at.1, length-drop a text, length-drop e text) in
      ap (take (e - a)) (sym whole) ∙ take_at (up_to stop (drop a text)) (from stop (drop a text)) (e - a) long

  -- nothing is passed where the test holds at once
  pub from_here : (t : List ℕ) → stop t ≡ true → from stop t ≡ t
  from_here [] h = refl
  from_here (b ∷ t) h = rw h

  pub up_to_here : (t : List ℕ) → stop t ≡ true → up_to stop t ≡ []
  up_to_here [] h = refl
  up_to_here (b ∷ t) h = rw h

  -- a place that passes is looked for behind any that passes an easier test
  pub from-from : (easier : List ℕ → Bool) → ((b : ℕ) (t : List ℕ) → easier (b ∷ t) ≡ false → stop (b ∷ t) ≡ false) → (t : List ℕ) → from stop (from easier t) ≡ from stop t
  from-from easier h [] = refl
  from-from easier h (b ∷ t) = go (easier (b ∷ t)) refl (from-from easier h t)
    where
      go : (s : Bool) → easier (b ∷ t) ≡ s → from stop (from easier t) ≡ from stop t → from stop (cond s (b ∷ t) (from easier t)) ≡ from stop (b ∷ t)
      go true e ih = refl
      go false e ih = rw (h b t e) ih

  -- the place is passed or the text ends there
  pub from_stops : stop [] ≡ true → (t : List ℕ) → stop (from stop t) ≡ true
  from_stops h [] = h
  from_stops h (b ∷ t) = go (stop (b ∷ t)) refl (from_stops h t)
    where
      go : (s : Bool) → stop (b ∷ t) ≡ s → stop (from stop t) ≡ true → stop (cond s (b ∷ t) (from stop t)) ≡ true
      go true e ih = e
      go false e ih = ih

  -- a place at the end passes, so one that fails is inside the text
  pub at_end : stop [] ≡ true → (text : List ℕ) (i : ℕ) → length text ≤ i → stop (drop i text) ≡ true
  at_end e text i le = ap stop (drop_of_length-le text le) ∙ e

  pub inside : stop [] ≡ true → (text : List ℕ) (i : ℕ) → stop (drop i text) ≡ false → i < length text
  inside e text i h = elim (lt_or_le i (length text)) [ inl lt ↦ lt | inr le ↦ clash (stop (drop i text)) (at_end e text i le) h ]

  -- a loop from place `at` that has come to i, all places before i failing
  pub record Passed (text : List ℕ) (at i : ℕ) : Type 0 where
    pub least : at ≤ i
    pub most : i ≤ length text
    pub same : from stop (drop at text) ≡ from stop (drop i text)

  pub passed_none : (text : List ℕ) (at : ℕ) → at ≤ length text → Passed text at at
  passed_none text at le = record { least = omega arith; most = le; same = refl }

  pub passed_more : (text : List ℕ) (at i : ℕ) → Passed text at i → i < length text → stop (drop i text) ≡ false → Passed text at (i + 1)
  passed_more text at i p lt h = record {
    least = omega (arith, p.least);
    most = omega (arith, lt);
    same = p.same ∙ rw (add-one, drop-cons text i 0 lt) (ap (λ (s : Bool). cond s (get_or text i 0 ∷ drop (suc i) text) (from stop (drop (suc i) text))) (rw (drop-cons text i 0 lt) at h));
  }

  pub passed-all : (text : List ℕ) (at i : ℕ) → Passed text at i → stop (drop i text) ≡ true → At text i (from stop (drop at text))
  passed-all text at i p h = (p.most, sym (p.same ∙ from_here (drop i text) h))

  -- the same where each place from `at` up to i is known to fail
  passed_places : (text : List ℕ) (at n : ℕ) → at + n ≤ length text → ((k : ℕ) → at ≤ k → k < at + n → stop (drop k text) ≡ false) → Passed text at (at + n)
  passed_places text at zero le f = (let e : at + 0 ≡ at = omega arith in rw e (passed_none text at (omega arith)))
  passed_places text at (suc n) le f =
      let e : at + suc n ≡ at + n + 1 = omega arith in
      let before = passed_places text at n (omega arith) (λ k a b. f k a (omega arith)) in
      rw e (passed_more text at (at + n) before (omega arith) (f (at + n) (omega arith) (omega arith)))

  passed_up_to : (text : List ℕ) (at i : ℕ) → at ≤ i → i ≤ length text → ((k : ℕ) → at ≤ k → k < i → stop (drop k text) ≡ false) → Passed text at i
  passed_up_to text at i le most f =
      let e : at + (i - at) ≡ i = omega arith in
      rw e at (passed_places text at (i - at) (omega arith) (λ k a b. f k a (omega arith)))

  -- the first place that passes, as a search of the places tells it, or the text's end
  pub first_place : stop [] ≡ true → (text : List ℕ) (at : ℕ) → at ≤ length text → (r : Option ℕ)
      → MatchOption r ((k : ℕ) → at ≤ k → k < length text → stop (drop k text) ≡ false) (λ i. (at ≤ i) × (i < length text) × (stop (drop i text) ≡ true) × ((k : ℕ) → at ≤ k → k < i → stop (drop k text) ≡ false))
      → At text (unwrap_or r (length text)) (from stop (drop at text)) × (at ≤ unwrap_or r (length text))
  first_place end text at le None none = (passed-all text at (length text) (passed_up_to text at (length text) le (omega arith) none) (at_end end text (length text) (omega arith)), le)
  first_place end text at le (Some i) some = (passed-all text at i (passed_up_to text at i some.0 (omega (arith, some.1)) some.3) some.2, some.0)

-- what is left of a text, as the code takes it
pub left_all : (text : List ℕ) (at : ℕ) → take (length text - at) (drop at text) ≡ drop at text
left_all text at = take_all (length text - at) (drop at text) (omega (arith, length-drop at text))

-- where the place that is looked for is the first byte that passes p
module _ (stop : List ℕ → Bool) (p : ℕ → Bool) (first : (b : ℕ) (t : List ℕ) → stop (b ∷ t) ≡ p b) where
  from_first : (t : List ℕ) → from stop t ≡ drop (position_or_len p t) t
  from_first [] = refl
  from_first (b ∷ t) = rw (first b t) (go (p b) (from_first t))
    where
      go : (s : Bool) → from stop t ≡ drop (position_or_len p t) t → cond s (b ∷ t) (from stop t) ≡ drop (cond (not s) (1 + position_or_len p t) 0) (b ∷ t)
      go true e = refl
      go false e = e ∙ rw (one-add (position_or_len p t))

  pub place_found : (text : List ℕ) (at k : ℕ) → position p (take (length text - at) (drop at text)) ≡ Some k → (at + k < length text) × (drop (at + k) text ≡ from stop (drop at text))
  place_found text at k = rw (left_all text at) (go (ltb n (length (drop at text))) refl)
    where
      n : ℕ
      n = position_or_len p (drop at text)

      go : (b : Bool) → ltb n (length (drop at text)) ≡ b → cond b (Some n) None ≡ Some k → (at + k < length text) × (drop (at + k) text ≡ from stop (drop at text))
      go true h e =
          let same : n ≡ k = ap (λ (o : Option ℕ). unwrap_or o 0) e in
          (omega (arith, same, ltb-true n (length (drop at text)) h, length-drop at text), sym (drop-drop k at text) ∙ ap (λ (i : ℕ). drop i (drop at text)) (sym same) ∙ sym (from_first (drop at text)))
      go false h e = absurd (false≢true (ap (λ (o : Option ℕ). is_some o) e))

  pub place_none : (text : List ℕ) (at : ℕ) → position p (take (length text - at) (drop at text)) ≡ None → from stop (drop at text) ≡ []
  place_none text at = rw (left_all text at) (go (ltb n (length (drop at text))) refl)
    where
      n : ℕ
      n = position_or_len p (drop at text)

      go : (b : Bool) → ltb n (length (drop at text)) ≡ b → cond b (Some n) None ≡ None → from stop (drop at text) ≡ []
      go true h e = absurd (false≢true (sym (ap (λ (o : Option ℕ). is_some o) e)))
      go false h e = from_first (drop at text) ∙ drop_of_length-le (drop at text) (ltb-false n (length (drop at text)) h)

-- the byte at place k of what is left, as a loop reads it
pub left_long : (text : List ℕ) (at k : ℕ) → k < length (take (length text - at) (drop at text)) → at + k < length text
left_long text at k lt = omega (arith, lt, length-take (length text - at) (drop at text), length-drop at text)

pub left_byte : (text : List ℕ) (at k : ℕ) → k < length (take (length text - at) (drop at text)) → get_or (take (length text - at) (drop at text)) k 0 ≡ get_or text (at + k) 0
left_byte text at k lt = ap (λ (l : List ℕ). get_or l k 0) (left_all text at) ∙ get_or-drop at text k 0

-- the same for a loop that passes bytes of one kind
module _ (p : ℕ → Bool) (text : List ℕ) (at i : ℕ) where
  abbrev other : List ℕ → Bool
  other t = not (starts p t)

  pub kind_more : Passed other text at i → i < length text → p (get_or text i 0) ≡ true → Passed other text at (i + 1)
  kind_more q lt h = passed_more other text at i q lt (ap not (starts_at p text i lt ∙ h))
