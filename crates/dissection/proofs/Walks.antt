-- A walk between its levels: where it starts, one more level, and the end.
use mathlib.Core.Path.{◌≡◌, refl, sym, ap, subst, ◌∙◌}
use mathlib.Core.Logic.{inl, inr}
use mathlib.Core.Bool.{Bool, true, false, not, cond, ◌&&◌, ◌||◌, and-false, and-true, or-false, or_comm, false≢true}
use mathlib.Core.List.{List, [], ◌∷◌, head_d, flatten, reverse}
use Prim.Native.Nat.{ℕ, zero, suc, ◌+◌, ◌-◌, ◌≤◌, ◌<◌, max}
use native.Mathlib.Omega.{arith}
use native.Mathlib.Numerals.{add-one}
use borrow.Author.Tests.{eqb-true}
use lib.Dec.{eqb}
use lib.ListN.{length, get_or, take, set, length-reverse, get_or-eq_default}
use lib.Seq.{length-take-le, take_all, take-add, get_or-take, set-get_or, set-set}
use Rattle.plan.specs.Lists.{exists, keep, is_in, segment, below}
use Rattle.plan.specs.Levels.{Graph, next_level, add_level, levels_back, levels, widest, width as width_of, component}
use Rattle.theory.proofs.Bools.{tested, clash, refuted, lt_or_le}
use Rattle.theory.proofs.Lists.{is_in-get_or, is_in-append, is_in-none, is_in-keep, exists-is_in, exists-same, keep-keep, kept-own, get_d_reverse}
use Rattle.theory.proofs.Segments.{segment-none, segment-front}
use Rattle.theory.proofs.Ranges.{below-is_in}
use Rattle.theory.proofs.Flatten.{flatten_nil, is_in-flatten_cons, is_in-flatten-take, is_in-flatten-reverse}
use Rattle.theory.proofs.Counting.{unit, count_sum}
use Rattle.theory.proofs.Levels.{Levelled, first, after, of_next, levelled, levels-stay, reached-inside}
use Rattle.theory.proofs.LevelNumbers.{widest-reverse}
use Rattle.theory.proofs.LevelSets.{levels_cover}
use Rattle.dissection.specs.Numbers.{fresh, fresh_of, Walked}
use Rattle.dissection.specs.Spread.{Room, newly, Spread}
use Rattle.dissection.proofs.Fresh.{not_fresh, fresh_is, in_fresh, of_fresh, fresh-few}
use Rattle.dissection.proofs.Spreads.{spread_one}

-- ---- the number of a node by the levels so far

-- The number of node v where the levels, the last one first, stand in the numbers and v had number x before: the number of the level that has it.
abbrev placed : ℕ → List (List ℕ) → ℕ → ℕ
placed v [] x = x
placed v (l ∷ ls) x = cond (is_in v l) (length ls) (placed v ls x)

-- a node is fresh exactly where it was fresh and is in no level
placed-fresh : (v x : ℕ) (ls : List (List ℕ)) → length ls ≤ fresh → eqb (placed v ls x) fresh ≡ (eqb x fresh && not (is_in v (flatten ls)))
placed-fresh v x [] h = rw (ap (is_in v) (flatten_nil {A = ℕ})) (sym (and-true (eqb x fresh)))
placed-fresh v x (l ∷ ls) h = go (placed-fresh v x ls)
  where
    go : (length ls ≤ fresh → eqb (placed v ls x) fresh ≡ (eqb x fresh && not (is_in v (flatten ls))))
        → eqb (placed v (l ∷ ls) x) fresh ≡ (eqb x fresh && not (is_in v (flatten (l ∷ ls))))
    go ih = rw (is_in-flatten_cons v l ls) (elim (tested (is_in v l)) [
      | inl e ↦ rw (e, not_fresh (length ls) (omega arith)) (sym (and-false (eqb x fresh)))
      | inr e ↦ rw e (ih (omega arith))
    ])

-- a node of no level keeps its number
placed-others : (v x : ℕ) (ls : List (List ℕ)) → is_in v (flatten ls) ≡ false → placed v ls x ≡ x
placed-others v x [] h = refl
placed-others v x (l ∷ ls) h = go (placed-others v x ls)
  where
    go : (is_in v (flatten ls) ≡ false → placed v ls x ≡ x) → placed v (l ∷ ls) x ≡ x
    go ih = elim (tested (is_in v l)) [
      | inl e ↦ clash (is_in v (flatten (l ∷ ls))) (is_in-flatten_cons v l ls ∙ rw e) h
      | inr e ↦ rw e (ih (sym (is_in-flatten_cons v l ls ∙ rw e) ∙ h))
    ]

-- a node of a level has the level's number
placed-own : (edge : Graph) (region : List ℕ) (root : ℕ) {ls : List (List ℕ)} → Levelled edge region root ls
    → (i v x : ℕ) → is_in v (get_or ls i []) ≡ true → placed v ls x + suc i ≡ length ls
placed-own edge region root first zero v x h = rw h
placed-own edge region root first (suc i) v x h = absurd (false≢true h)
placed-own edge region root (after {l = l} {ls = ls} le e some) zero v x h = rw h (omega arith)
placed-own edge region root (after {l = l} {ls = ls} le e some) (suc i) v x h =
    let k : ℕ = i + 1 + length ls in
    let m : is_in v (flatten ls) ≡ true = ap (λ (r : List (List ℕ)). is_in v (flatten r)) (sym (take_all k ls (omega arith))) ∙ is_in-flatten-take ls k i v (omega arith) h in
    let none : is_in v l ≡ false = refuted (is_in v l) (λ t. clash (is_in v (flatten ls)) m (of_next edge region ls v (sym (ap (is_in v) e) ∙ t)).fresh) in
    rw none (omega (arith, placed-own edge region root le i v x h))

-- ---- between two levels

-- The levels of a walk so far, the last one first, stand in the numbers and in the queue, which is hi long; the last one from place lo on.
pub record Stand (n : ℕ) (old : List ℕ) (ls : List (List ℕ)) (last width lo hi : ℕ) (numbers queue : List ℕ) : Type 0 where
  pub numbered : (v : ℕ) → get_or numbers v 0 ≡ placed v ls (get_or old v 0)
  pub count : length ls ≡ last + 1
  pub wide : width ≡ widest ls
  pub frontier : (v : ℕ) → is_in v (segment queue lo hi) ≡ is_in v (head_d ls [])
  pub reached : (v : ℕ) → is_in v (take hi queue) ≡ is_in v (flatten ls)
  pub left : Room n numbers queue hi
  pub many : hi + length (fresh_of n numbers) ≡ length (fresh_of n old)
  pub deep : last ≤ lo
  pub some : lo < hi

-- the levels so far are those of a walk from a root after `last` steps
abbrev pub Walking : ℕ → Graph → ℕ → List ℕ → ℕ → ℕ → ℕ → ℕ → List ℕ → List ℕ → Type 0
Walking n edge root old last width lo hi numbers queue = Stand n old (levels_back last edge (fresh_of n old) root) last width lo hi numbers queue

-- the same for another way to say which numbers were before
pub walking_as : {n last width lo hi : ℕ} {numbers queue : List ℕ} (edge : Graph) (root : ℕ) {old old' : List ℕ} → old ≡ old'
    → Walking n edge root old last width lo hi numbers queue → Walking n edge root old' last width lo hi numbers queue
walking_as {n} {last} {width} {lo} {hi} {numbers} {queue} edge root e w = subst (λ (old : List ℕ). Walking n edge root old last width lo hi numbers queue) e w

-- the queue is no longer than there are nodes, and there are fewer steps than that
pub stand_few : {n : ℕ} {old : List ℕ} {ls : List (List ℕ)} {last width lo hi : ℕ} {numbers queue : List ℕ} → Stand n old ls last width lo hi numbers queue → (hi ≤ n) × (last < hi)
stand_few {n} {old} s = omega (arith, s.many, fresh-few n old, s.deep, s.some)

-- the numbers before the root's was set
pub restored : (old : List ℕ) (root : ℕ) → get_or old root 0 ≡ fresh → set (set old root 0) root fresh ≡ old
restored old root e = set-set old root 0 fresh ∙ ap (set old root) (sym e) ∙ set-get_or old root 0

-- a walk starts with the root alone
pub walk_start : (n : ℕ) (edge : Graph) (old : List ℕ) (root : ℕ) (q : List ℕ) → root < n → get_or old root 0 ≡ fresh → n ≤ length old → n < length q → Walking n edge root old 0 1 0 1 (set old root 0) (set q 0 root)
unfolding levels_back head_d widest
walk_start n edge old root q lt e long long' =
    let room : Room n old q 0 = record { numbers_long = long; room = omega (arith, fresh-few n old, long') } in
    let p : Spread n 0 0 old q (λ u. eqb u root) (set old root 0) (set q 0 root) (0 + 1) = spread_one room lt (omega arith) e in
    let is : (v : ℕ) → newly old (λ u. eqb u root) v ≡ (eqb v root || false) = λ v. elim (tested (eqb v root)) [
      | inl t ↦ rw (t, eqb-true v root t, e)
      | inr t ↦ rw t (and-false (eqb (get_or old v 0) fresh))
    ] in
    record {
      numbered = λ v. p.numbers v ∙ rw (is v);
      count = refl;
      wide = refl;
      frontier = λ v. p.queued v ∙ is v;
      reached = λ v. p.queued v ∙ is v ∙ sym (is_in-flatten_cons v (root ∷ []) [] ∙ rw (ap (is_in v) (flatten_nil {A = ℕ})) (or-false (eqb v root || false)));
      left = p.left;
      many = omega (arith, p.many);
      deep = omega arith;
      some = omega arith;
    }

-- the nodes that a step touches: those next to a node that stands in the queue from place lo up to, not including, hi
abbrev touched : Graph → List ℕ → ℕ → ℕ → ℕ → Bool
touched edge queue lo hi v = exists (λ u. edge u v) (segment queue lo hi)

-- a walk from old numbers, in which every edge leads to a node
module _ (n : ℕ) (edge : Graph) (inside : (u v : ℕ) → edge u v ≡ true → v < n) (small : n < fresh) (old : List ℕ) (root : ℕ) where
  -- the nodes that may be reached
  abbrev region : List ℕ
  region = fresh_of n old

  -- the levels after a number of steps, the last one first
  abbrev back : ℕ → List (List ℕ)
  back last = levels_back last edge region root

  -- ---- one step

  -- the levels so far, and what a step does
  module _ (ls : List (List ℕ)) (last width lo hi : ℕ) (ns q : List ℕ) (s : Stand n old ls last width lo hi ns q) where
    -- a node is fresh where it was fresh and is in no level
    fresh-left : (v : ℕ) → eqb (get_or ns v 0) fresh ≡ (eqb (get_or old v 0) fresh && not (is_in v (flatten ls)))
    fresh-left v = ap (λ (x : ℕ). eqb x fresh) (s.numbered v) ∙ placed-fresh v (get_or old v 0) ls (omega (arith, s.count, stand_few s))

    -- the nodes that a step reaches are those of the next level
    newly-next : (v : ℕ) → newly ns (touched edge q lo hi) v ≡ is_in v (next_level edge region ls)
    unfolding next_level
    newly-next v =
        let near : Bool = exists (λ u. edge u v) (head_d ls []) in
        let same : touched edge q lo hi v ≡ near = exists-same (λ u. edge u v) (segment q lo hi) (head_d ls []) s.frontier in
        let node : near ≡ true → is_in v (below n) ≡ true = λ t. let r = exists-is_in (λ u. edge u v) (head_d ls []) t in below-is_in n v (inside r.0 v r.2) in
        rw (fresh-left v, same, is_in-keep (λ v. exists (λ u. edge u v) (head_d ls []) && not (is_in v (flatten ls))) region v, fresh_is n old v)
        (cases (eqb (get_or old v 0) fresh) (not (is_in v (flatten ls))) near (is_in v (below n)) node)
      where
        cases : (a b near node : Bool) → (near ≡ true → node ≡ true) → (a && b && near) ≡ (node && a && (near && b))
        cases a b true node h = rw (h refl) (and-true (a && b))
        cases a b false node h = and-false (a && b) ∙ sym (and-false (node && a))

    module _ (ns' q' : List ℕ) (tail : ℕ) (p : Spread n (last + 1) hi ns q (touched edge q lo hi) ns' q' tail) where
      -- the step put the next level into the queue
      queued-next : (v : ℕ) → is_in v (segment q' hi tail) ≡ is_in v (next_level edge region ls)
      queued-next v = p.queued v ∙ newly-next v

      -- each node of it once
      next-many : tail ≡ hi + length (next_level edge region ls)
      unfolding next_level
      next-many =
          let next : List ℕ = next_level edge region ls in
          let sum : length (fresh_of n ns) ≡ length (fresh_of n ns') + length (keep (λ v. is_in v next) (below n)) =
          count_sum (λ v. eqb (get_or ns v 0) fresh) (λ v. eqb (get_or ns' v 0) fresh) (λ v. is_in v next) (below n) each in
          omega (arith, sum, p.many, ap length (kept-own (below n) next (record { test = _; same = keep-keep _ _ (below n) })))
        where
          go : (b t : Bool) (x : ℕ) → eqb x fresh ≡ b → unit b ≡ unit (eqb (cond (b && t) (last + 1) x) fresh) + unit (b && t)
          go true true x e = rw (not_fresh (last + 1) (omega (arith, stand_few s)))
          go true false x e = rw e
          go false t x e = rw e

          each : (v : ℕ) → unit (eqb (get_or ns v 0) fresh) ≡ unit (eqb (get_or ns' v 0) fresh) + unit (is_in v (next_level edge region ls))
          each v = rw (p.numbers v, ← newly-next v)
              (go (eqb (get_or ns v 0) fresh) (touched edge q lo hi v) (get_or ns v 0) refl)

      -- what the queue holds now
      queue_split : (v : ℕ) → is_in v (take tail q') ≡ (is_in v (flatten ls) || is_in v (next_level edge region ls))
      queue_split v =
          let z : hi + (tail - hi) ≡ tail = omega (arith, p.low) in
          ap (λ (k : ℕ). is_in v (take k q')) (sym z)
          ∙ ap (is_in v) (take-add hi (tail - hi) q')
          ∙ is_in-append v (take hi q') (segment q' hi tail)
          ∙ rw (p.kept, s.reached v, queued-next v)

      -- a step that has put nodes into the queue has made one more level of them
      grown : (new : List ℕ) → next_level edge region ls ≡ new → hi < tail → Stand n old (add_level new ls) (last + 1) (max width (tail - hi)) hi tail ns' q'
      unfolding add_level head_d widest
      grown [] e h = absurd (omega (arith, next-many, ap length e))
      grown (x ∷ xs) e h =
          let in-it : (v : ℕ) → is_in v (next_level edge region ls) ≡ is_in v (x ∷ xs) = λ v. ap (is_in v) e in
          record {
            numbered = λ v. p.numbers v ∙ rw (newly-next v ∙ in-it v, s.numbered v, s.count);
            count = omega (arith, s.count);
            wide = omega (arith, s.wide, next-many, ap length e);
            frontier = λ v. queued-next v ∙ in-it v;
            reached = λ v. queue_split v ∙ rw (in-it v, is_in-flatten_cons v (x ∷ xs) ls) (or_comm (is_in v (flatten ls)) (is_in v (x ∷ xs)));
            left = p.left;
            many = omega (arith, p.many, s.many);
            deep = omega (arith, s.deep, s.some);
            some = h;
          }

      -- a step that has put none there has changed nothing, and no level is to come
      stand_stop : tail ≤ hi → (next_level edge region ls ≡ []) × Stand n old ls last width lo hi ns' q'
      stand_stop h =
          let e : tail ≡ hi = omega (arith, p.low) in
          let none : (v : ℕ) → is_in v (next_level edge region ls) ≡ false = λ v. sym (queued-next v) ∙ ap (is_in v) (ap (segment q' hi) e ∙ segment-none q' hi) in (
            is_in-none (next_level edge region ls) (λ v t. false≢true (sym (none v) ∙ t)),
            record {
              numbered = λ v. p.numbers v ∙ rw (newly-next v ∙ none v) (s.numbered v);
              count = s.count;
              wide = s.wide;
              frontier = λ v. ap (is_in v) (segment-front q' q lo hi hi (omega (arith, s.some)) (omega arith) p.kept) ∙ s.frontier v;
              reached = λ v. ap (is_in v) p.kept ∙ s.reached v;
              left = rw e at p.left;
              many = omega (arith, e, p.many, s.many);
              deep = s.deep;
              some = s.some;
            },
          )

  -- one more level
  pub walk_step : (last width lo hi : ℕ) (ns q ns' q' : List ℕ) (tail : ℕ) → Walking n edge root old last width lo hi ns q
      → Spread n (last + 1) hi ns q (touched edge q lo hi) ns' q' tail → hi < tail → Walking n edge root old (last + 1) (max width (tail - hi)) hi tail ns' q'
  unfolding levels_back
  walk_step last width lo hi ns q ns' q' tail s p h =
      subst (λ (ls : List (List ℕ)). Stand n old ls (last + 1) (max width (tail - hi)) hi tail ns' q') (ap back (sym (add-one last)))
      (grown (back last) last width lo hi ns q s ns' q' tail p (next_level edge region (back last)) refl h)

  -- ---- the end

  -- the walk stands before a step
  module _ (lt : root < n) (e : get_or old root 0 ≡ fresh) (last width lo hi : ℕ) (ns q : List ℕ) (s : Walking n edge root old last width lo hi ns q) where
    -- each place of the queue holds a node
    pub walk_node : (k : ℕ) → k < hi → get_or q k 0 < n
    walk_node k h =
        let v : ℕ = get_or q k 0 in
        let in-queue : is_in v (take hi q) ≡ true =
        ap (λ (x : ℕ). is_in x (take hi q)) (sym (get_or-take hi q k 0 h)) ∙ is_in-get_or (take hi q) k 0 (omega (arith, length-take-le hi q (omega (arith, s.left.room)))) in
        let in-region : is_in v region ≡ true = reached-inside edge region root (levelled edge region root last) (in_fresh n old root lt e) v (sym (s.reached v) ∙ in-queue) in
        (of_fresh n old v in-region).0

    -- there is no next level
    module _ (stop : next_level edge region (back last) ≡ []) where
      -- the levels are those so far, in their order
      levels_are : levels edge region root ≡ reverse (back last)
      unfolding levels
      levels_are =
          let z : length region - last + last ≡ length region = omega (arith, s.many, stand_few s) in
          ap reverse (ap back (sym z) ∙ levels-stay edge region root last (length region - last) stop)

      -- there are as many
      levels-many : length (levels edge region root) ≡ length (back last)
      levels-many = ap length levels_are ∙ length-reverse (back last)

      -- level j among those so far
      level_at : (j : ℕ) → j < length (back last) → get_or (levels edge region root) j [] ≡ get_or (back last) (length (back last) - suc j) []
      level_at j h = ap (λ (ls : List (List ℕ)). get_or ls j []) levels_are ∙ get_d_reverse (back last) [] j h

      -- the levels hold what those so far hold
      in_levels : (v : ℕ) → is_in v (flatten (levels edge region root)) ≡ is_in v (flatten (back last))
      in_levels v = ap (λ (ls : List (List ℕ)). is_in v (flatten ls)) levels_are ∙ is_in-flatten-reverse v (back last)

      -- each node of a level has the level's number
      own : (j v : ℕ) → is_in v (get_or (levels edge region root) j []) ≡ true → get_or ns v 0 ≡ j
      own j v m = elim (lt_or_le j (length (back last))) [
        | inl h ↦ omega (
          arith,
          s.numbered v,
          placed-own edge region root (levelled edge region root last) (length (back last) - suc j) v (get_or old v 0) (ap (is_in v) (sym (level_at j h)) ∙ m),
        )
        | inr h ↦ absurd (false≢true (ap (is_in v) (sym (get_or-eq_default (levels edge region root) [] (omega (arith, levels-many)))) ∙ m))
      ]

      -- the nodes that are not fresh any more are the root's component
      reached-many : hi ≡ length (component edge region root)
      unfolding component
      reached-many =
          let in-it : ℕ → Bool = λ w. is_in w (flatten (levels edge region root)) in
          let was : ℕ → Bool = λ v. eqb (get_or old v 0) fresh in
          let sum : length region ≡ length (fresh_of n ns) + length (keep (λ v. was v && in-it v) (below n)) =
          count_sum was (λ v. eqb (get_or ns v 0) fresh) (λ v. was v && in-it v) (below n)
          (λ v. rw (fresh-left (back last) last width lo hi ns q s v, in_levels v) (each (was v) (is_in v (flatten (back last))))) in
          omega (arith, sum, s.many, ap length (keep-keep in-it was (below n)))
        where
          each : (a b : Bool) → unit a ≡ unit (a && not b) + unit (a && b)
          each true true = refl
          each true false = refl
          each false b = refl

      -- what the walk leaves
      walked : Walked n edge region root old ns q last width hi
      unfolding width_of
      walked =
          record {
            numbered = record { own = own; others = λ v h. s.numbered v ∙ placed-others v (get_or old v 0) (back last) (sym (in_levels v) ∙ h) };
            count = levels-many ∙ s.count;
            deep = omega (arith, stand_few s);
            wide = s.wide ∙ sym (ap widest levels_are ∙ widest-reverse (back last));
            members = λ v. s.reached v ∙ sym (in_levels v) ∙ levels_cover edge region root (in_fresh n old root lt e) v;
            many = reached-many;
            few = (stand_few s).0;
          }

  -- a step that has put no node into the queue ends the walk
  pub walk_end : root < n → get_or old root 0 ≡ fresh → (last width lo hi : ℕ) (ns q ns' q' : List ℕ) (tail : ℕ) → Walking n edge root old last width lo hi ns q
      → Spread n (last + 1) hi ns q (touched edge q lo hi) ns' q' tail → tail ≤ hi → Walked n edge region root old ns' q' last width hi
  walk_end lt e last width lo hi ns q ns' q' tail s p h =
      let r = stand_stop (back last) last width lo hi ns q s ns' q' tail p h in
      walked lt e last width lo hi ns' q' r.1 r.0
