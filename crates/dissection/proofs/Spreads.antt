-- One spread of a walk: nothing touched, one node touched, one spread after another, and the same nodes touched by another test.
use mathlib.Core.Path.{◌≡◌, refl, sym, ap, ◌∙◌}
use mathlib.Core.Logic.{inl, inr}
use mathlib.Core.Bool.{Bool, true, false, cond, ◌&&◌, ◌||◌, and-false}
use mathlib.Core.List.{List, ◌++◌}
use Prim.Native.Nat.{ℕ, ◌+◌, ◌-◌, ◌≤◌, ◌<◌}
use native.Mathlib.Nat.{add-zero}
use native.Mathlib.Omega.{arith}
use borrow.Author.Tests.{eqb-true, eqb-false, ne_eqb}
use lib.Dec.{eqb}
use lib.ListN.{length, get_or, take, drop, set, length-append, length-drop, length-set}
use lib.Seq.{length-take-le, take-take, take-set-le, get_or-set_same, get_or-set_other, set-get_or}
use Rattle.std.proofs.Math.Seq.{take-append_seam, drop-append_seam}
use Rattle.plan.specs.Lists.{is_in, segment}
use Rattle.theory.proofs.Bools.{tested}
use Rattle.theory.proofs.Lists.{exists-append}
use Rattle.theory.proofs.Segments.{segment-none, segment_more, segment-append, segment-front}
use Rattle.dissection.specs.Numbers.{fresh, fresh_of}
use Rattle.dissection.specs.Spread.{Room, newly, Spread}
use Rattle.dissection.proofs.Fresh.{not_fresh, fresh-less}

-- no node that is touched is fresh: nothing changes but what stands behind the queue's end
spread_none : {n x hi : ℕ} {ns q q₁ : List ℕ} {t : ℕ → Bool} → Room n ns q hi → take hi q₁ ≡ take hi q → length q₁ ≡ length q → ((v : ℕ) → newly ns t v ≡ false) → Spread n x hi ns q t ns q₁ hi
spread_none {hi = hi} {q₁ = q₁} room same long h =
    record {
      numbers = λ v. rw (h v);
      queued = λ v. rw (segment-none q₁ hi, h v);
      kept = same;
      numbers_length = refl;
      queue_length = long;
      left = record { numbers_long = room.numbers_long; room = omega (arith, long, room.room) };
      low = omega arith;
      many = refl;
    }

-- no node is touched
pub spread_start : {n x hi : ℕ} {ns q : List ℕ} {t : ℕ → Bool} → Room n ns q hi → ((v : ℕ) → t v ≡ false) → Spread n x hi ns q t ns q hi
spread_start {ns = ns} room h = spread_none room refl refl (λ v. rw (h v) (and-false (eqb (get_or ns v 0) fresh)))

-- one node is touched that is not fresh, and anything may stand behind the queue's end
pub spread_numbered : {n x hi : ℕ} {ns q q₁ : List ℕ} (w : ℕ) → Room n ns q hi → take hi q₁ ≡ take hi q → length q₁ ≡ length q → (get_or ns w 0 ≡ fresh → ⊥)
    → Spread n x hi ns q (λ v. eqb v w) ns q₁ hi
spread_numbered {ns = ns} w room same long h = spread_none room same long each
  where
    each : (v : ℕ) → newly ns (λ v. eqb v w) v ≡ false
    each v = elim (tested (eqb v w)) [
      | inl e ↦ rw (eqb-true v w e, ne_eqb (get_or ns w 0) fresh h)
      | inr e ↦ rw e (and-false (eqb (get_or ns v 0) fresh))
    ]

-- the same for another way to say which nodes are touched
pub spread_as : {n x hi : ℕ} {ns q : List ℕ} {s t : ℕ → Bool} {n₁ q₁ : List ℕ} {tail : ℕ} → ((v : ℕ) → s v ≡ t v) → Spread n x hi ns q s n₁ q₁ tail → Spread n x hi ns q t n₁ q₁ tail
spread_as e p =
    record {
      numbers = λ v. rw (← e v) (p.numbers v);
      queued = λ v. rw (← e v) (p.queued v);
      kept = p.kept;
      numbers_length = p.numbers_length;
      queue_length = p.queue_length;
      left = p.left;
      low = p.low;
      many = p.many;
    }

-- one fresh node is touched
module _ {n x hi w : ℕ} {ns q : List ℕ} (room : Room n ns q hi) (wf : w < n) (xf : x < fresh) (none : get_or ns w 0 ≡ fresh) where
  -- it is reached
  newly_w : (v : ℕ) → eqb v w ≡ true → newly ns (λ u. eqb u w) v ≡ true
  newly_w v e = rw (e, eqb-true v w e, none)

  -- no other node is
  newly_other : (v : ℕ) → eqb v w ≡ false → newly ns (λ u. eqb u w) v ≡ false
  newly_other v e = rw e (and-false (eqb (get_or ns v 0) fresh))

  -- the queue has a place for it
  pub place-left : hi < length q
  place-left = omega (arith, room.room, fresh-less n w x ns wf room.numbers_long xf none)

  -- it gets the number and the place
  pub spread_one : Spread n x hi ns q (λ u. eqb u w) (set ns w x) (set q hi w) (hi + 1)
  spread_one =
      let less : length (fresh_of n (set ns w x)) + 1 ≡ length (fresh_of n ns) = fresh-less n w x ns wf room.numbers_long xf none in
      let wl : w < length ns = omega (arith, room.numbers_long) in
      record {
        numbers = λ v. elim (tested (eqb v w)) [
          | inl e ↦ rw (newly_w v e, eqb-true v w e) (get_or-set_same ns w x 0 wl)
          | inr e ↦ rw (newly_other v e) (get_or-set_other ns w v x 0 (eqb-false v w e))
        ];
        queued = λ v. segment_more (eqb v) (set q hi w) hi hi (omega arith) (omega (arith, length-set q hi w))
            ∙ rw (segment-none (set q hi w) hi, get_or-set_same q hi w 0 place-left)
            (elim (tested (eqb v w)) [ inl e ↦ rw (newly_w v e, e) | inr e ↦ rw (newly_other v e, e) ]);
        kept = take-set-le hi q hi w (omega arith);
        numbers_length = length-set ns w x;
        queue_length = length-set q hi w;
        left = record {
          numbers_long = omega (arith, length-set ns w x, room.numbers_long);
          room = omega (arith, length-set q hi w, room.room);
        };
        low = omega arith;
        many = omega arith;
      }

-- one node is touched, fresh or not
pub spread_touch : {n x hi w : ℕ} {ns q : List ℕ} → Room n ns q hi → w < n → x < fresh
    → Spread n x hi ns q (λ u. eqb u w) (set ns w (cond (eqb (get_or ns w 0) fresh) x (get_or ns w 0))) (set q hi w) (hi + cond (eqb (get_or ns w 0) fresh) 1 0)
spread_touch {hi = hi} {w = w} {ns = ns} {q = q} room wf xf = elim (tested (eqb (get_or ns w 0) fresh)) [
  | inl e ↦ rw e (spread_one room wf xf (eqb-true (get_or ns w 0) fresh e))
  | inr e ↦ rw (e, set-get_or ns w 0, add-zero hi) (spread_numbered w room (take-set-le hi q hi w (omega arith)) (length-set q hi w) (eqb-false (get_or ns w 0) fresh e))
]

-- one spread after another
module _ {n x hi : ℕ} {n₀ q₀ : List ℕ} {s : ℕ → Bool} {n₁ q₁ : List ℕ} {mid : ℕ} {t : ℕ → Bool} {n₂ q₂ : List ℕ} {tail : ℕ}
    (xf : x < fresh) (p : Spread n x hi n₀ q₀ s n₁ q₁ mid) (p' : Spread n x mid n₁ q₁ t n₂ q₂ tail) where
  -- a node that the first spread reached is not fresh for the second
  newly_after : (v : ℕ) → newly n₀ s v ≡ true → newly n₁ t v ≡ false
  newly_after v e = rw (p.numbers v, e, not_fresh x xf)

  -- the others are as they were
  newly_still : (v : ℕ) → newly n₀ s v ≡ false → newly n₁ t v ≡ newly n₀ t v
  newly_still v e = rw (p.numbers v, e)

  -- a node is reached by either of them
  newly_or : (v : ℕ) → newly n₀ (λ u. s u || t u) v ≡ (newly n₀ s v || newly n₀ t v)
  newly_or v = cases (eqb (get_or n₀ v 0) fresh)
    where
      cases : (a : Bool) → (a && (s v || t v)) ≡ ((a && s v) || (a && t v))
      cases true = refl
      cases false = refl

  -- together they touch what either of them touches
  pub spread_both : Spread n x hi n₀ q₀ (λ u. s u || t u) n₂ q₂ tail
  spread_both =
      record {
        numbers = λ v. rw (newly_or v, p'.numbers v) (elim (tested (newly n₀ s v)) [
          | inl e ↦ rw (newly_after v e, p.numbers v, e)
          | inr e ↦ rw (newly_still v e, p.numbers v, e)
        ]);
        queued = λ v.
            ap (is_in v) (segment-append q₂ hi mid tail p.low p'.low ∙ ap (λ (l : List ℕ). l ++ segment q₂ mid tail) (segment-front q₂ q₁ hi mid mid p.low (omega arith) p'.kept))
            ∙ exists-append (eqb v) (segment q₁ hi mid) (segment q₂ mid tail)
            ∙ rw (p.queued v, p'.queued v, newly_or v)
            (elim (tested (newly n₀ s v)) [ inl e ↦ rw e | inr e ↦ rw (e, newly_still v e) ]);
        kept = sym (take-take hi mid q₂ p.low) ∙ ap (take hi) p'.kept ∙ take-take hi mid q₁ p.low ∙ p.kept;
        numbers_length = p'.numbers_length ∙ p.numbers_length;
        queue_length = p'.queue_length ∙ p.queue_length;
        left = p'.left;
        low = omega (arith, p.low, p'.low);
        many = omega (arith, p.many, p'.many);
      }

-- what is spread from the front of the places behind place hi is spread from hi
pub spread_behind : {n x hi : ℕ} {ns q : List ℕ} {t : ℕ → Bool} {ns₁ rest : List ℕ} {tail : ℕ} → hi ≤ length q → Spread n x 0 ns (drop hi q) t ns₁ rest tail
    → Spread n x hi ns q t ns₁ (take hi q ++ rest) (hi + tail)
spread_behind {hi = hi} {q = q} {rest = rest} {tail = tail} long p =
    let front : length (take hi q) ≡ hi = length-take-le hi q long in
    let all : length (take hi q ++ rest) ≡ length q = omega (arith, length-append (take hi q) rest, front, p.queue_length, length-drop hi q) in
    let y : drop hi (take hi q ++ rest) ≡ rest = rw front at (drop-append_seam (take hi q) rest) in
    let z : hi + tail - hi ≡ tail = omega arith in
    let z₀ : tail - 0 ≡ tail = omega arith in
    record {
      numbers = p.numbers;
      queued = λ v. ap (is_in v) (rw (z, z₀, y) refl) ∙ p.queued v;
      kept = rw front at (take-append_seam (take hi q) rest);
      numbers_length = p.numbers_length;
      queue_length = all;
      left = record { numbers_long = p.left.numbers_long; room = omega (arith, p.left.room, p.queue_length, length-drop hi q, all) };
      low = omega arith;
      many = omega (arith, p.many);
    }
