-- A buffer with entries written at its front, or from a place on, and the rest as found.
use mathlib.Core.Path.{◌≡◌, sym, ap, ◌∙◌}
use mathlib.Core.Logic.{◌⊎◌, inl, inr}
use mathlib.Core.List.{List, [], ◌∷◌, ◌++◌, append-nil, append_assoc}
use Prim.Native.Nat.{ℕ, suc, ◌+◌, ◌-◌, ◌≤◌, ◌<◌}
use native.Mathlib.Nat.{zero-add}
use native.Mathlib.Omega.{arith}
use lib.ListN.{length, take, drop, set, get_or, length-append, length-take, length-drop, drop_of_length-le, get_or-append}
use lib.Seq.{length-take-le, take_all, take_at, drop-cons, drop-set-lt, drop-drop, take-append_seam, drop-append_seam, drop-append-add, set-append_seam, append_snoc, get_or-take, get_or-drop, get_or-append-add, ext_get_or}
use Rattle.plan.specs.Lists.{written}
use Rattle.theory.proofs.Bools.{lt_or_le}
use Rattle.theory.proofs.Lists.{take_more}
use Rattle.theory.proofs.Segments.{segment-front}

module _ {A : Type 0} where
  -- ---- one entry after the other

  -- one entry more, stored behind those that are written
  pub written_push : (l found : List A) (i : ℕ) (v : A) → length l ≡ i → i < length found → set (written l found) i v ≡ written (l ++ (v ∷ [])) found
  written_push l found i v e h =
      let q : length l < length found = omega arith in
      let n : length (l ++ (v ∷ [])) ≡ suc (length l) = length-append l (v ∷ []) ∙ omega arith in
      rw (← e, drop-cons found (length l) v q, set-append_seam, n, append_snoc)

  -- the next element of a list that is copied to the front
  pub written_next : (l found buffer : List A) (i : ℕ) (d : A) → i < length l → length l ≤ length found → buffer ≡ written (take i l) found
      → set buffer i (get_or l i d) ≡ written (take (i + 1) l) found
  written_next l found buffer i d lt fits e =
      rw (e, take_more l i d lt) (written_push (take i l) found i (get_or l i d) (length-take-le i l (omega arith)) (omega arith))

  -- ---- what is written

  -- the buffer stays as long as it was
  pub written-length : (l found : List A) → length l ≤ length found → length (written l found) ≡ length found
  written-length l found h = simp (length-append, length-drop) (omega arith)

  -- what is written stands at the front
  pub front-written : (k : ℕ) (l found left : List A) → left ≡ written l found → length l ≡ k → take k left ≡ l
  front-written k l found left e h = rw e (take_at l (drop (length l) found) k h)

  -- what the first place held before does not matter
  pub written-set : (l found : List A) (v : A) → 0 < length l → written l (set found 0 v) ≡ written l found
  written-set l found v h = ap (λ (t : List A). l ++ t) (drop-set-lt (length l) found 0 v h)

  -- written once more, it changes nothing
  pub written_again : (l found : List A) → written l (written l found) ≡ written l found
  written_again l found = ap (λ (x : List A). l ++ x) (drop-append_seam l (drop (length l) found))

  -- what is written over something shorter hides it
  pub written_over : (l new found : List A) → written (l ++ new) (written l found) ≡ written (l ++ new) found
  written_over l new found =
      ap (λ (x : List A). (l ++ new) ++ x)
      (ap (λ (k : ℕ). drop k (l ++ drop (length l) found)) (length-append l new)
      ∙ sym (drop-drop (length new) (length l) (l ++ drop (length l) found))
      ∙ ap (drop (length new)) (drop-append_seam l (drop (length l) found))
      ∙ drop-drop (length new) (length l) found
      ∙ ap (λ (k : ℕ). drop k found) (sym (length-append l new)))

  -- so does what is no shorter
  pub written_longer : (l m found : List A) → length l ≤ length m → written m (written l found) ≡ written m found
  written_longer l m found le =
      let r : ℕ = length m - length l in
      let e : length m ≡ length l + r = omega arith in
      ap (λ (t : List A). m ++ t)
      (ap (λ (k : ℕ). drop k (written l found)) e ∙ drop-append-add l (drop (length l) found) r ∙ drop-drop r (length l) found
      ∙ ap (λ (k : ℕ). drop k found) (sym e))

  -- ---- part by part

  -- a part from the end of what is written to the buffer's end, itself written over, and back in its place
  written-part : (l new found : List A) (i k : ℕ) → length l ≡ i → length (drop i (written l found)) ≤ k
      → take i (written l found) ++ (written new (take k (drop i (written l found))) ++ drop k (drop i (written l found))) ≡ written (l ++ new) found
  written-part l new found i k e m =
      rw (take_all k (drop i (written l found)) m, drop_of_length-le (drop i (written l found)) m, append-nil, ← e, take-append_seam, drop-append_seam, drop-drop, length-append, append_assoc)

  -- the same as it is met: a call that was lent `&mut buffer[at..]` left `last` there
  pub written_grow : (found buffer l new last : List A) (at : ℕ) → buffer ≡ written l found → at ≡ length l → last ≡ written new (take (length buffer - at) (drop at buffer))
      → take at buffer ++ (last ++ drop (length buffer - at) (drop at buffer)) ≡ written (l ++ new) found
  written_grow found buffer l new last at e f g =
      rw (g, e) (written-part l new found at (length (written l found) - at) (sym f) (rw length-drop (omega arith)))

  -- ---- a buffer that holds k entries at its front

  module _ (k : ℕ) (entries buffer : List A) (many : k ≡ length entries) (front : take k buffer ≡ entries) where
    -- it is at least k long
    pub front-within : k ≤ length buffer
    front-within = omega (arith, many, ap length front, length-take k buffer)

    -- and k entries stand at its front
    pub front_long : k ≡ length (take k buffer)
    front_long = many ∙ sym (ap length front)

    -- they are the entries
    pub front_entry : (i : ℕ) (d : A) → i < k → get_or buffer i d ≡ get_or entries i d
    front_entry i d lt = sym (get_or-take k buffer i d lt) ∙ ap (λ (l : List A). get_or l i d) front

    -- those behind the first too
    pub front-others : 1 ≤ k → take (k - 1) (drop 1 buffer) ≡ drop 1 entries
    front-others some =
        segment-front buffer entries 1 k k some (omega arith) (front ∙ sym (take_all k entries (omega (arith, many))))
        ∙ take_all (k - 1) (drop 1 entries) (omega (arith, many, length-drop 1 entries))

  -- ---- place by place

  -- a buffer that has entries from place `at` on, and is as found at every other place
  pub spliced : (d : A) (at : ℕ) (found entries left : List A) → at + length entries ≤ length found → length left ≡ length found
      → ((p : ℕ) → p < length entries → get_or left (at + p) d ≡ get_or entries p d)
      → ((p : ℕ) → (p < at) ⊎ (at + length entries ≤ p) → get_or left p d ≡ get_or found p d)
      → left ≡ take at found ++ (entries ++ drop (at + length entries) found)
  spliced d at found entries left fits long own others = ext_get_or d left (take at found ++ (entries ++ rest)) lengths each
    where
      rest : List A
      rest = drop (at + length entries) found

      front : length (take at found) ≡ at
      front = length-take-le at found (omega arith)

      lengths : length left ≡ length (take at found ++ (entries ++ rest))
      lengths = omega (
        arith,
        long,
        fits,
        front,
        length-append (take at found) (entries ++ rest),
        length-append entries rest,
        length-drop (at + length entries) found,
      )

      inside : (r : ℕ) → get_or (take at found ++ (entries ++ rest)) (at + r) d ≡ get_or (entries ++ rest) r d
      inside r = ap (λ (q : ℕ). get_or (take at found ++ (entries ++ rest)) q d) (omega (arith, front)) ∙ get_or-append-add (take at found) (entries ++ rest) r d

      each : (p : ℕ) → p < length left → get_or left p d ≡ get_or (take at found ++ (entries ++ rest)) p d
      each p h = elim (lt_or_le p at) [
        | inl lt ↦ others p (inl lt) ∙ sym (get_or-append (take at found) (entries ++ rest) d p (omega (arith, front)) ∙ get_or-take at found p d lt)
        | inr le ↦ elim (lt_or_le p (at + length entries)) [
          | inl lt ↦ (
              let r : ℕ = p - at in
              let e : p ≡ at + r = omega arith in
              let few : r < length entries = omega arith in
              rw e (own r few ∙ sym (inside r ∙ get_or-append entries rest d r few)))
          | inr ge ↦ (
              let r : ℕ = p - (at + length entries) in
              let e : p ≡ at + (length entries + r) = omega arith in
              others p (inr ge)
              ∙ ap (λ (q : ℕ). get_or found q d) (omega arith)
              ∙ sym (get_or-drop (at + length entries) found r d)
              ∙ sym (inside (length entries + r) ∙ get_or-append-add entries rest r d)
              ∙ ap (λ (q : ℕ). get_or (take at found ++ (entries ++ rest)) q d) (sym e))
        ]
      ]

  -- a buffer that has the entries at its front, and is as found behind them
  pub written_all : (d : A) (entries found left : List A) → length entries ≤ length found → length left ≡ length found
      → ((i : ℕ) → i < length entries → get_or left i d ≡ get_or entries i d)
      → ((i : ℕ) → length entries ≤ i → get_or left i d ≡ get_or found i d)
      → left ≡ written entries found
  written_all d entries found left h same front rest =
      spliced d 0 found entries left (omega arith) same
      (λ i l. ap (λ (k : ℕ). get_or left k d) (zero-add i) ∙ front i l)
      (λ i c. rest i (elim c [ inl l ↦ absurd (omega arith) | inr l ↦ omega arith ]))
      ∙ ap (λ (k : ℕ). entries ++ drop k found) (zero-add (length entries))

-- ---- a buffer that is filled from its front on

-- it held `found` and has `entries` at its front, which reach up to place `at`
pub record Reached (found entries buffer : List ℕ) (at : ℕ) : Type 0 where
  pub front : buffer ≡ written entries found
  pub many : length entries ≡ at

-- the buffer after a call that was lent its part from place `at` on and left `last` there
abbrev pub lent_from : ℕ → List ℕ → List ℕ → List ℕ
lent_from at buffer last = take at buffer ++ (last ++ drop (length buffer - at) (drop at buffer))

module _ (found entries buffer : List ℕ) (at : ℕ) (r : Reached found entries buffer at) where
  -- it is as long as it was
  pub reached-long : at ≤ length found → length buffer ≡ length found
  reached-long h = ap length r.front ∙ written-length entries found (omega (arith, r.many))

  -- there is room behind the entries
  pub reached-room : (k : ℕ) → at + k ≤ length found → k ≤ length (take (length buffer - at) (drop at buffer))
  reached-room k h = simp (length-take, length-drop) (omega (arith, reached-long (omega arith)))

  -- more of them, by a call that was lent the part behind them
  pub reached_more : (more last : List ℕ) (next : ℕ) → last ≡ written more (take (length buffer - at) (drop at buffer)) → at + length more ≡ next
      → Reached found (entries ++ more) (lent_from at buffer last) next
  reached_more more last next e place = record {
    front = written_grow found buffer entries more last at r.front (sym r.many) e;
    many = length-append entries more ∙ omega (arith, r.many);
  }
