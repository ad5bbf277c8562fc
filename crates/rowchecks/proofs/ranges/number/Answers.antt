-- `rowchecks::ranges::number` meets its contract: from the last part to the first, each one's width is taken back from its parent's, and its range
-- begins behind what is left.
use mathlib.Core.Path.{◌≡◌, refl, sym, ap, ◌∙◌}
use mathlib.Core.Logic.{inl, inr}
use mathlib.Core.List.{List}
use Prim.Native.Nat.{ℕ, ◌+◌, ◌-◌, ◌≤◌, ◌<◌}
use native.Mathlib.Omega.{arith}
use borrow.Author.Rules.{rules}
use lib.ListN.{length, get_or, set, length-set}
use lib.Seq.{get_or-set_same, get_or-set_other}
use Rattle.theory.proofs.Bools.{eq_or_ne}
use Rattle.rowchecks.specs.Numbering.{SoundParents, rooted_parent, width_after, width}
use Rattle.rowchecks.proofs.Widths.{width-parent, width_other, width_grows, rooted-later, root-width}
use Rattle.rowchecks.proofs.ranges.number.Invariants.{Ranged}
use Rattle.rowchecks.proofs.ranges.number.Goals.{After-parent_or_root-r}
use Rattle.rowchecks.proofs.ranges.number.Goals as goal

-- what stands in the three lists after the turn of part k, whose parent is r
abbrev left : List ℕ → ℕ → ℕ → List ℕ
left widths k r = set widths r (get_or widths r 0 - get_or widths k 0)

abbrev begin : List ℕ → List ℕ → ℕ → ℕ → List ℕ
begin widths firsts k r = set firsts k (get_or firsts r 0 + get_or (left widths k r) r 0)

abbrev finish : List ℕ → List ℕ → List ℕ → ℕ → ℕ → List ℕ
finish widths firsts lasts k r = set lasts k (get_or (begin widths firsts k r) k 0 + get_or (left widths k r) k 0)

-- the turn of part k
record Turn (parents widths₀ firsts₀ lasts₀ widths firsts lasts : List ℕ) (q k r : ℕ) : Type 0 where
  sound : SoundParents parents
  before : k + 1 ≡ q
  is-parent : r ≡ rooted_parent parents k
  widths-room : length parents < length widths
  firsts-room : length parents < length firsts
  lasts-room : length parents ≤ length lasts
  ranged : Ranged parents widths₀ firsts₀ lasts₀ widths firsts lasts q

module _ {parents widths₀ firsts₀ lasts₀ widths firsts lasts : List ℕ} {q k r : ℕ}
    (t : Turn parents widths₀ firsts₀ lasts₀ widths firsts lasts q k r) where
  -- k is a part
  part : k < length parents
  part = omega (arith, t.before, t.ranged.few)

  -- the parent is a later part, or the root
  later : (k < r) × (r ≤ length parents)
  later = rw t.is-parent (rooted-later parents t.sound k part)

  -- at the parent, part k's width is still in
  with-own : width_after parents q r ≡ width_after parents k r + width parents k
  with-own = rw (← t.before, t.is-parent) (width-parent parents k)

  at-parent : get_or widths r 0 ≡ width_after parents k r + width parents k
  at-parent = t.ranged.so r later.1 ∙ with-own

  -- its own stays
  at_own : get_or widths k 0 ≡ width parents k
  at_own = t.ranged.so k (omega (arith, part)) ∙ rw (← t.before) (width_other parents k k (λ e. omega (arith, later, e ∙ sym t.is-parent)))

  -- what is left are the widths after the first k parts
  left_so : (b : ℕ) → b ≤ length parents → get_or (left widths k r) b 0 ≡ width_after parents k b
  left_so b le =
      let x : ℕ = get_or widths r 0 - get_or widths k 0 in
      elim (eq_or_ne b r) [
        | inl e ↦ rw e (omega (arith, get_or-set_same widths r x 0 (omega (arith, later, t.widths-room)), at-parent, at_own))
        | inr e ↦ get_or-set_other widths r b x 0 e ∙ t.ranged.so b le ∙ rw (← t.before) (width_other parents k b (λ s. e (s ∙ sym t.is-parent)))
      ]

  -- the range ends within the parent's
  ends : get_or firsts r 0 + width_after parents k r + width parents k ≤ length parents + 1
  ends =
      let le : q ≤ r = omega (arith, later, t.before) in
      omega (arith, with-own, t.ranged.within r le later.1, width_grows parents q r r le)

  -- where it begins
  at_first : get_or (begin widths firsts k r) k 0 ≡ get_or firsts r 0 + width_after parents k r
  at_first =
      get_or-set_same firsts k (get_or firsts r 0 + get_or (left widths k r) r 0) 0 (omega (arith, part, t.firsts-room))
      ∙ ap (λ (x : ℕ). get_or firsts r 0 + x) (left_so r later.1)

  -- the others begin where they did
  other-first : (b : ℕ) → k < b → get_or (begin widths firsts k r) b 0 ≡ get_or firsts b 0
  other-first b lt = get_or-set_other firsts k b (get_or firsts r 0 + get_or (left widths k r) r 0) 0 (λ e. omega arith)

  -- both ends are within what 16 bits hold
  first-within : get_or firsts r 0 + get_or (left widths k r) r 0 ≤ length parents + 1
  first-within = omega (arith, ends, left_so r later.1)

  last_within : get_or (begin widths firsts k r) k 0 + get_or (left widths k r) k 0 ≤ length parents + 1
  last_within = omega (arith, ends, at_first, left_so k (omega (arith, part)))

  -- the lists have the parent's places, and they keep them
  places : (r < length widths) × (r < length firsts) × (r < length (left widths k r)) × (r < 65536)
  places =
      let kept = length-set widths r (get_or widths r 0 - get_or widths k 0) in
      (omega (arith, later, t.widths-room), omega (arith, later, t.firsts-room), omega (arith, later, kept, t.widths-room), omega (arith, later, t.sound.few))

  -- and the part's own
  own-places : (k < length (begin widths firsts k r)) × (k < length (left widths k r))
  own-places =
      let kept = length-set firsts k (get_or firsts r 0 + get_or (left widths k r) r 0) in
      (omega (arith, part, kept, t.firsts-room), omega (arith, later, places))

  -- it begins behind the earlier parts with the same parent
  begun-here : (x : ℕ) → x ≡ r → get_or (begin widths firsts k r) k 0 ≡ get_or (begin widths firsts k r) x 0 + width_after parents k x
  begun-here x e = rw e (omega (arith, at_first, other-first r later.0))

  -- part k has its range too
  ranged-more : Ranged parents widths₀ firsts₀ lasts₀ (left widths k r) (begin widths firsts k r) (finish widths firsts lasts k r) k
  ranged-more =
      let v = t.ranged in
      let end : ℕ = get_or (begin widths firsts k r) k 0 + get_or (left widths k r) k 0 in
      record {
        few = omega (arith, part);
        widths-long = length-set widths r (get_or widths r 0 - get_or widths k 0) ∙ v.widths-long;
        firsts-long = length-set firsts k (get_or firsts r 0 + get_or (left widths k r) r 0) ∙ v.firsts-long;
        lasts-long = length-set lasts k end ∙ v.lasts-long;
        so = left_so;
        root = other-first (length parents) part ∙ v.root;
        begun = λ c l h. elim (eq_or_ne c k) [
          | inl e ↦ rw e (begun-here (rooted_parent parents k) (sym t.is-parent))
          | inr e ↦
              let below : k < c = omega (arith, e) in
              let above = rooted-later parents t.sound c h in
              omega (arith, other-first c below, v.begun c (omega (arith, t.before)) h, other-first (rooted_parent parents c) (omega (arith, above)))
        ];
        ended = λ c l h. elim (eq_or_ne c k) [
          | inl e ↦ rw e (omega (arith, get_or-set_same lasts k end 0 (omega (arith, part, t.lasts-room)), left_so k (omega (arith, part))))
          | inr e ↦
              let below : k < c = omega (arith, e) in
              omega (arith, get_or-set_other lasts k c end 0 e, v.ended c (omega (arith, t.before)) h, other-first c below)
        ];
        within = λ b l h. elim (eq_or_ne b k) [
          | inl e ↦ rw e (omega (arith, at_first, ends))
          | inr e ↦ let below : k < b = omega (arith, e) in omega (arith, other-first b below, v.within b (omega (arith, t.before)) h)
        ];
      }

-- each turn of the loop is one
turn : (c : After-parent_or_root-r) → Turn c.args.parents.now c.args.widths.now c.args.firsts.now c.args.lasts.now c.loop-q.widths c.loop-q.firsts c.loop-q.lasts
    c.loop-q.q (c.loop-q.q - 1) c.parent_or_root-r.result
turn c =
    record {
      sound = c.requires.sound_parents.0;
      before = omega arith;
      is-parent = c.parent_or_root-r.ensures;
      widths-room = omega (arith, c.loop-q.invariant.widths-long, c.requires.sound_parents.1);
      firsts-room = omega (arith, c.loop-q.invariant.firsts-long, c.requires.sound_parents.2);
      lasts-room = omega (arith, c.loop-q.invariant.lasts-long, c.requires.sound_parents.3);
      ranged = c.loop-q.invariant;
    }

pub loop-q-init : goal.loop-q-init
loop-q-init c =
    record {
      few = search rules;
      widths-long = refl;
      firsts-long = refl;
      lasts-long = refl;
      so = c.requires.by_index.0;
      root = c.requires.by_index.1;
      begun = λ c' l h. absurd (omega arith);
      ended = λ c' l h. absurd (omega arith);
      within = λ b l h.
          let e : b ≡ length c.args.parents.now = omega arith in
          rw e (omega (arith, c.requires.by_index.1, root-width c.args.parents.now c.requires.sound_parents.0));
    }

pub loop-q-preserved : goal.loop-q-preserved
loop-q-preserved c = ranged-more (turn (goal.at.loop-q-preserved c).After-parent_or_root-r)

pub returns : goal.returns
returns c = (record { root = c.loop-q.invariant.root; next = λ q h. c.loop-q.invariant.begun q (omega arith) h }, λ q h. c.loop-q.invariant.ended q (omega arith) h)

pub offset_bounds-widths-r : goal.offset_bounds-widths-r
offset_bounds-widths-r c = omega (arith, places (turn (goal.at.offset_bounds-widths-r c).After-parent_or_root-r))

pub bounds-widths-r : goal.bounds-widths-r
bounds-widths-r c = omega (arith, places (turn (goal.at.bounds-widths-r c).After-parent_or_root-r))

pub overflow_sub-widths : goal.overflow_sub-widths
overflow_sub-widths c = let t = turn (goal.at.overflow_sub-widths c).After-parent_or_root-r in omega (arith, at-parent t, at_own t)

pub offset_bounds-widths-r-in-loop-q : goal.offset_bounds-widths-r-in-loop-q
offset_bounds-widths-r-in-loop-q c = omega (arith, places (turn (goal.at.offset_bounds-widths-r-in-loop-q c).After-parent_or_root-r))

pub bounds-widths-r-in-loop-q : goal.bounds-widths-r-in-loop-q
bounds-widths-r-in-loop-q c = omega (arith, places (turn (goal.at.bounds-widths-r-in-loop-q c).After-parent_or_root-r))

pub offset_bounds-firsts-r : goal.offset_bounds-firsts-r
offset_bounds-firsts-r c = omega (arith, places (turn (goal.at.offset_bounds-firsts-r c).After-parent_or_root-r))

pub bounds-firsts-r : goal.bounds-firsts-r
bounds-firsts-r c = omega (arith, places (turn (goal.at.bounds-firsts-r c).After-parent_or_root-r))

pub offset_bounds-widths-r-in-loop-q-2 : goal.offset_bounds-widths-r-in-loop-q-2
offset_bounds-widths-r-in-loop-q-2 c = omega (arith, places (turn (goal.at.offset_bounds-widths-r-in-loop-q-2 c).After-parent_or_root-r))

pub bounds-widths-r-in-loop-q-2 : goal.bounds-widths-r-in-loop-q-2
bounds-widths-r-in-loop-q-2 c = omega (arith, places (turn (goal.at.bounds-widths-r-in-loop-q-2 c).After-parent_or_root-r))

pub overflow_add-firsts : goal.overflow_add-firsts
overflow_add-firsts c = let t = turn (goal.at.overflow_add-firsts c).After-parent_or_root-r in omega (arith, first-within t, t.sound.few)

pub bounds-firsts-q-in-loop-q : goal.bounds-firsts-q-in-loop-q
bounds-firsts-q-in-loop-q c = omega (arith, own-places (turn (goal.at.bounds-firsts-q-in-loop-q c).After-parent_or_root-r))

pub bounds-widths-q-in-loop-q : goal.bounds-widths-q-in-loop-q
bounds-widths-q-in-loop-q c = omega (arith, own-places (turn (goal.at.bounds-widths-q-in-loop-q c).After-parent_or_root-r))

pub overflow_add-lasts : goal.overflow_add-lasts
overflow_add-lasts c = let t = turn (goal.at.overflow_add-lasts c).After-parent_or_root-r in omega (arith, last_within t, t.sound.few)

pub shape_of-widths : goal.shape_of-widths
shape_of-widths c = c.loop-q.invariant.widths-long

pub shape_of-firsts : goal.shape_of-firsts
shape_of-firsts c = c.loop-q.invariant.firsts-long

pub shape_of-lasts : goal.shape_of-lasts
shape_of-lasts c = c.loop-q.invariant.lasts-long
