-- Handing out into lent buffers: where they have room, that a refusal leaves all as found, and what they hold once a plan is accepted.
use mathlib.Core.Path.{◌≡◌, refl, ap}
use mathlib.Core.Bool.{Bool, false, ◌||◌}
use Prim.Native.Nat.{ℕ, zero, suc, ◌+◌, ◌≤◌, ◌<◌}
use native.Mathlib.Omega.{arith}
use lib.Dec.{ltb}
use lib.ListN.{length, get_or}
use borrow.Author.Tests.{ltb-false}
use Rattle.std.specs.Prelude.{Ok, Err}
use Rattle.plan.specs.declared.Plan.{Plan}
use Rattle.plan.specs.declared.refusal.Refusal.{Refusal}
use Rattle.plan.specs.Lists.{written}
use Rattle.plan.specs.Refusals.{number_of}
use Rattle.plan.specs.Answers.{Reply, refused, plan_reply}
use Rattle.plan.specs.Planning.{Contents, Buffers, Capacity, lengths, buffers_too_short, hand_out, fill, Filled}
use Rattle.theory.proofs.Bools.{or_false_left, or_false_right}
use Rattle.theory.proofs.Refusals.{number-suc}

-- every lent result but the rows is long enough
pub record Room (n : ℕ) (room : Capacity) : Type 0 where
  pub order : n ≤ room.order
  pub positions : n ≤ room.positions
  pub sizes : n ≤ room.sizes
  pub parents : n ≤ room.parents
  pub column_starts : n < room.column_starts

-- it is where check 8 finds no fault
pub enough_room : (n : ℕ) (room : Capacity) → buffers_too_short n room ≡ false → Room n room
unfolding buffers_too_short
enough_room n room h =
    let o : Bool = ltb room.order n in
    let p : Bool = ltb room.positions n in
    let s : Bool = ltb room.sizes n in
    let f : Bool = ltb room.parents n in
    let c : Bool = ltb room.column_starts (n + 1) in
    let four : (o || p || s || f) ≡ false = or_false_left (o || p || s || f) c h in
    let three : (o || p || s) ≡ false = or_false_left (o || p || s) f four in
    let two : (o || p) ≡ false = or_false_left (o || p) s three in
    record {
      order = ltb-false room.order n (or_false_left o p two);
      positions = ltb-false room.positions n (or_false_right o p two);
      sizes = ltb-false room.sizes n (or_false_right (o || p) s three);
      parents = ltb-false room.parents n (or_false_right (o || p || s) f four);
      column_starts = let l : n + 1 ≤ room.column_starts = ltb-false room.column_starts (n + 1) (or_false_right (o || p || s || f) c h) in omega arith;
    }

-- how long the buffers are, but for the rows
abbrev pub lengths_of : Buffers → Capacity
lengths_of b = lengths (length b.order) (length b.positions) (length b.sizes) (length b.parents) (length b.column_starts) 0

-- a refusal leaves all as found
pub filled-refused : (r : Refusal) (c : Contents) (found : Buffers) → Filled (hand_out (number_of r) c) (Err r) found found
unfolding hand_out fill
filled-refused r c found =
    let n : (k : ℕ) × (number_of r ≡ suc k) = number-suc r in
    rw n.1 (record { reply = ap refused n.1; order = refl; positions = refl; sizes = refl; parents = refl; column_starts = refl; rows = refl })

-- a plan was accepted: the counts of the answer are the plan's, and each buffer has the plan's list at its front
pub record Holds (c : Contents) (p : Plan) (found left : Buffers) : Type 0 where
  pub nodes : p.nodes ≡ c.nodes
  pub parts : p.parts ≡ c.parts
  pub slots : p.slots ≡ c.slots
  pub order : left.order ≡ written c.order found.order
  pub sizes : left.sizes ≡ written c.sizes found.sizes
  pub parents : left.parents ≡ written c.parents found.parents
  pub column_starts : left.column_starts ≡ written c.column_starts found.column_starts
  pub rows : left.rows ≡ written c.rows found.rows

pub accepted-holds : (c : Contents) (p : Plan) (found left : Buffers) → Filled (hand_out 0 c) (Ok p) found left → Holds c p found left
unfolding hand_out fill
accepted-holds c p found left h =
    let value : (k : ℕ) → get_or (plan_reply (Ok p)).values k 0 ≡ get_or (hand_out 0 c).reply.values k 0 = λ k. ap (λ (r : Reply). get_or r.values k 0) h.reply in
    record {
      nodes = value 0;
      parts = value 1;
      slots = value 2;
      order = h.order;
      sizes = h.sizes;
      parents = h.parents;
      column_starts = h.column_starts;
      rows = h.rows;
    }
