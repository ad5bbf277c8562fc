-- `rowchecks::ranges::add_widths` meets its contract: turn after turn a part's width is added to its parent's.
use mathlib.Core.Path.{◌≡◌, refl, sym, ◌∙◌}
use mathlib.Core.Logic.{inl, inr}
use mathlib.Core.List.{List}
use Prim.Native.Nat.{ℕ, ◌+◌, ◌≤◌, ◌<◌}
use native.Mathlib.Omega.{arith}
use borrow.Author.Rules.{rules}
use lib.ListN.{length, get_or, set, length-set}
use lib.Seq.{get_or-set_same, get_or-set_other}
use Rattle.theory.proofs.Bools.{eq_or_ne}
use Rattle.rowchecks.specs.Numbering.{rooted_parent, width_after, width}
use Rattle.rowchecks.proofs.Widths.{width-first, width-parent, width_other, rooted-later, two_widths}
use Rattle.rowchecks.proofs.ranges.add_widths.Invariants.{Added}
use Rattle.rowchecks.proofs.ranges.add_widths.Goals.{After-parent_or_root-r}
use Rattle.rowchecks.proofs.ranges.add_widths.Goals as goal

-- one more
added_more : (parents widths₀ widths : List ℕ) (q r : ℕ) → q < length parents → r ≡ rooted_parent parents q → r < length widths
    → Added parents widths₀ widths q → Added parents widths₀ (set widths r (get_or widths r 0 + get_or widths q 0)) (q + 1)
added_more parents widths₀ widths q r lt is room a =
    let x : ℕ = get_or widths r 0 + get_or widths q 0 in
    let more : width_after parents (q + 1) r ≡ width_after parents q r + width parents q = rw is (width-parent parents q) in
    record {
      few = omega arith;
      long = length-set widths r x ∙ a.long;
      so = λ b le. elim (eq_or_ne b r) [
        | inl e ↦ rw e (omega (arith, get_or-set_same widths r x 0 room, a.so r (omega arith), a.so q (omega arith), more))
        | inr e ↦ get_or-set_other widths r b x 0 e ∙ a.so b le ∙ sym (width_other parents q b (λ s. e (s ∙ sym is)))
      ];
    }

-- the parent is a later part, or the root
parent : (c : After-parent_or_root-r) → (c.loop-q.q < c.parent_or_root-r.result) × (c.parent_or_root-r.result ≤ length c.args.parents.now)
parent c = rw c.parent_or_root-r.ensures (rooted-later c.args.parents.now c.requires.0 c.loop-q.q (omega arith))

-- and it has its place, which is below 65,536
place : (c : After-parent_or_root-r) → (c.parent_or_root-r.result < length c.loop-q.widths) × (c.parent_or_root-r.result < 65536)
place c = (omega (arith, parent c, c.loop-q.invariant.long, c.requires.1), omega (arith, parent c, c.requires.0.few))

pub loop-q-init : goal.loop-q-init
loop-q-init c = record { few = search rules; long = refl; so = λ b le. c.requires.2 b le ∙ sym (width-first c.args.parents.now b) }

pub overflow_add-widths : goal.overflow_add-widths
overflow_add-widths c =
    let r : ℕ = c.parent_or_root-r.result in
    omega (
      arith,
      c.loop-q.invariant.so r (parent (goal.at.overflow_add-widths c).After-parent_or_root-r).1,
      c.loop-q.invariant.so c.loop-q.q c.loop-q.invariant.few,
      c.requires.0.few,
      two_widths c.args.parents.now c.requires.0 c.loop-q.q r (parent (goal.at.overflow_add-widths c).After-parent_or_root-r).0 (parent (goal.at.overflow_add-widths c).After-parent_or_root-r).1,
    )

pub loop-q-preserved : goal.loop-q-preserved
loop-q-preserved c = added_more c.args.parents.now c.args.widths.now c.loop-q.widths c.loop-q.q c.parent_or_root-r.result (omega arith) c.parent_or_root-r.ensures (place (goal.at.loop-q-preserved c).After-parent_or_root-r).0 c.loop-q.invariant

pub returns : goal.returns
returns c =
    let e : c.loop-q.q ≡ length c.args.parents.now = omega arith in
    λ b le. rw (← e) (c.loop-q.invariant.so b le)

pub offset_bounds-widths-r : goal.offset_bounds-widths-r
offset_bounds-widths-r c = omega (arith, place (goal.at.offset_bounds-widths-r c).After-parent_or_root-r)

pub bounds-widths-r : goal.bounds-widths-r
bounds-widths-r c = (place (goal.at.bounds-widths-r c).After-parent_or_root-r).0

pub offset_bounds-widths-r-in-loop-q : goal.offset_bounds-widths-r-in-loop-q
offset_bounds-widths-r-in-loop-q c = omega (arith, place (goal.at.offset_bounds-widths-r-in-loop-q c).After-parent_or_root-r)

pub bounds-widths-r-in-loop-q : goal.bounds-widths-r-in-loop-q
bounds-widths-r-in-loop-q c = (place (goal.at.bounds-widths-r-in-loop-q c).After-parent_or_root-r).0

pub shape_of-widths : goal.shape_of-widths
shape_of-widths c = c.loop-q.invariant.long
