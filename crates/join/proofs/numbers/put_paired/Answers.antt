-- `join::numbers::put_paired` meets its contract: each turn stores where one more paired node goes.
use mathlib.Core.Path.{◌≡◌, sym, ap, ◌∙◌}
use mathlib.Core.List.{List, ◌∷◌, head_d}
use Prim.Native.Nat.{ℕ, ◌+◌, ◌<◌}
use native.Mathlib.Numerals.{add-one}
use native.Mathlib.Omega.{arith}
use lib.ListN.{length, drop, get_or, length-drop}
use lib.Seq.{drop-cons}
use borrow.Author.Rules.{rules}
use Rattle.std.proofs.lemmas.Iterator.{empty_from_Zip}
use Rattle.theory.proofs.Lists.{is_in-get_or}
use Rattle.join.proofs.Scattered.{scattered_none, scattered_more, scattered_all}
use Rattle.join.proofs.numbers.put_paired.Goals.{In-Some}
use Rattle.join.proofs.numbers.put_paired.Goals as goal

-- what is left of a list from place k on begins with the number there
next : (l : List ℕ) (k x : ℕ) (rest : List ℕ) → drop k l ≡ x ∷ rest → (k < length l) × (x ≡ get_or l k 0) × (rest ≡ drop (k + 1) l)
unfolding head_d
next l k x rest e =
    let lt : k < length l = omega (arith, length-drop k l, ap length e) in
    let front = sym e ∙ drop-cons l k 0 lt in
    (lt, ap (λ (r : List ℕ). head_d r 0) front, rw add-one (ap (drop 1) front))

pub loop-v-init : goal.loop-v-init
loop-v-init c = record { k = 0; firsts = search rules; seconds = search rules; few = omega arith; stored = scattered_none c.args.pairs.now.second.now (λ i. get_or c.args.pairs.now.first.now i 0) c.args.goes.now }

-- the pair is the next one, and its second node has a place
pair : (c : In-Some) → let k : ℕ = c.loop-v.invariant.k in
    (k < length c.args.pairs.now.second.now) × (c.in-Some.v.now ≡ get_or c.args.pairs.now.first.now k 0) × (c.in-Some.w.now ≡ get_or c.args.pairs.now.second.now k 0) × (c.in-Some.w.now < length c.args.goes.now)
pair c =
    let i = c.loop-v.invariant in
    let a = next c.args.pairs.now.first.now i.k _ _ (sym i.firsts ∙ c.in-Some.ensures.steps.0) in
    let b = next c.args.pairs.now.second.now i.k _ _ (sym i.seconds ∙ c.in-Some.ensures.steps.1) in
    (b.0, a.1, b.1, omega (arith, b.1, c.requires.2 _ (is_in-get_or c.args.pairs.now.second.now i.k 0 b.0)))

pub bounds-goes-w : goal.bounds-goes-w
bounds-goes-w c = omega (arith, pair (goal.at.bounds-goes-w c).In-Some)

pub loop-v-preserved : goal.loop-v-preserved
loop-v-preserved c =
    let i = c.loop-v.invariant in
    let p = pair (goal.at.loop-v-preserved c).In-Some in
    record {
      k = i.k + 1;
      firsts = (next c.args.pairs.now.first.now i.k _ _ (sym i.firsts ∙ c.in-Some.ensures.steps.0)).2;
      seconds = (next c.args.pairs.now.second.now i.k _ _ (sym i.seconds ∙ c.in-Some.ensures.steps.1)).2;
      few = omega (arith, p.0);
      stored = scattered_more i.stored c.requires.1 _ _ p.0 p.2 p.3 p.1;
    }

pub returns : goal.returns
returns c =
    let i = c.loop-v.invariant in
    let many = c.requires.0 in
    let end = empty_from_Zip c.loop-v.v-iterator c.next.new.self c.next.result c.in-None.is c.next.ensures.steps
    (rw (i.firsts, i.seconds) (omega (arith, many, length-drop i.k c.args.pairs.now.first.now, length-drop i.k c.args.pairs.now.second.now))) in
    (i.stored.long, scattered_all i.stored (omega (arith, i.few, length-drop i.k c.args.pairs.now.second.now, ap length (sym i.seconds ∙ end.1))))
