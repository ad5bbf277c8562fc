-- The dissection's state is balanced after any number of steps: the pending and the chosen nodes are all nodes, each once, and parents are chosen
-- before their children.
use mathlib.Core.Path.{◌≡◌, refl, ap, subst, ◌∙◌}
use mathlib.Core.Logic.{◌⊎◌, inl, inr}
use mathlib.Core.Bool.{Bool, true, false≢true}
use mathlib.Core.List.{map-append, List, [], ◌∷◌, ◌++◌, map, reverse, reverse_aux, flatten, append-nil}
use Prim.Native.Nat.{ℕ, zero, suc, ◌+◌, ◌-◌, ◌≤◌, ◌<◌}
use native.Mathlib.Omega.{arith}
use lib.Dec.{eqb}
use lib.ListN.{length, get_or, length-map}
use Rattle.plan.specs.Lists.{below, is_in, without}
use Rattle.plan.specs.Mesh.{no_parent}
use Rattle.plan.specs.Levels.{Graph, components}
use Rattle.plan.specs.Steps.{Pending, State, pending_below, begin, step_with, step, steps}
use Rattle.theory.specs.Counting.{count}
use Rattle.theory.specs.Regions.{All, Region, Takes}
use Rattle.theory.specs.Balanced.{regions_of, parents_of, ParentBefore, Balanced}
use Rattle.theory.proofs.Lists.{is_in-head, is_in_tail, is_in_cons, is_in-append_cases}
use Rattle.theory.proofs.Ranges.{is_in-below, length-up_from}
use Rattle.theory.proofs.Flatten.{flatten-append, flatten_nil, flatten_cons}
use Rattle.theory.proofs.AllLists.{all_map, all_append, all-reverse_onto, all-members, lists_few}
use Rattle.theory.proofs.Ascending.{ascending-up_from}
use Rattle.theory.proofs.Counting.{count-append, count-all, exists-count, count-exists, count-flatten-reverse}
use Rattle.theory.proofs.Components.{components-count, components-regions}
use Rattle.theory.proofs.Dissection.{left-regions}

-- ---- regions below one parent

-- the regions of a list that is turned round are those regions, turned round
regions-reverse_onto : (parent : ℕ) (rs : List (List ℕ)) (acc : List Pending)
    → regions_of (reverse_aux (map (λ region. record { region = region; parent = parent }) rs) acc) ≡ reverse_aux rs (regions_of acc)
regions-reverse_onto parent [] acc = refl
regions-reverse_onto parent (r ∷ rs) acc = regions-reverse_onto parent rs (record { region = r; parent = parent } ∷ acc)

-- they stand the last one first, before the others
pending-regions : (parent : ℕ) (rs : List (List ℕ)) (others : List Pending) → regions_of (pending_below parent rs ++ others) ≡ reverse rs ++ regions_of others
unfolding pending_below
pending-regions parent rs others =
    map-append (λ (q : Pending). q.region) (pending_below parent rs) others
    ∙ ap (λ (l : List (List ℕ)). l ++ regions_of others) (regions-reverse_onto parent rs [])

-- a parent in a list that is turned round is the one parent, or stands behind
parents-reverse_onto : (parent : ℕ) (rs : List (List ℕ)) (acc : List Pending) (x : ℕ)
    → is_in x (parents_of (reverse_aux (map (λ region. record { region = region; parent = parent }) rs) acc)) ≡ true → (x ≡ parent) ⊎ (is_in x (parents_of acc) ≡ true)
parents-reverse_onto parent [] acc x h = inr h
parents-reverse_onto parent (r ∷ rs) acc x h = elim (parents-reverse_onto parent rs (record { region = r; parent = parent } ∷ acc) x h) [
  | inl e ↦ inl e
  | inr m ↦ is_in_cons x parent (parents_of acc) m
]

-- a parent of theirs and the others' is that one, or one of the others'
pending-parents : (parent : ℕ) (rs : List (List ℕ)) (others : List Pending) (x : ℕ)
    → is_in x (parents_of (pending_below parent rs ++ others)) ≡ true → (x ≡ parent) ⊎ (is_in x (parents_of others) ≡ true)
unfolding pending_below
pending-parents parent rs others x h =
    elim (is_in-append_cases x (parents_of (pending_below parent rs)) (parents_of others)
    (rw (map-append (λ (q : Pending). q.parent) (pending_below parent rs) others) at h)) [
      | inl m ↦ elim (parents-reverse_onto parent rs [] x m) [ inl e ↦ inl e | inr m ↦ absurd (false≢true m) ]
      | inr m ↦ inr m
    ]

-- where each of them is a region, and each of the others, all are
pending-all : (edge : Graph) (parent : ℕ) (rs : List (List ℕ)) (others : List Pending) → All (Region edge) rs → All (Region edge) (regions_of others)
    → All (Region edge) (regions_of (pending_below parent rs ++ others))
pending-all edge parent rs others a b =
    rw (pending-regions parent rs others) (all_append (Region edge) (reverse rs) (regions_of others) (all-reverse_onto (Region edge) rs [] a tt) b)

-- a test counts in all of them what it counts in these and in the others
pending-count : (p : ℕ → Bool) (parent : ℕ) (rs : List (List ℕ)) (others : List Pending)
    → count p (flatten (regions_of (pending_below parent rs ++ others))) ≡ count p (flatten rs) + count p (flatten (regions_of others))
pending-count p parent rs others =
    omega (
      arith,
      ap (λ (l : List (List ℕ)). count p (flatten l)) (pending-regions parent rs others),
      ap (count p) (flatten-append (reverse rs) (regions_of others)),
      count-append p (flatten (reverse rs)) (flatten (regions_of others)),
      count-flatten-reverse p rs,
    )

-- ---- parents

-- chosen among the first k, so among the first m
before_more : (k m parent : ℕ) → k ≤ m → ParentBefore k parent → ParentBefore m parent
before_more k m parent le (inl e) = inl e
before_more k m parent le (inr l) = inr (omega arith)

-- the parent of the part chosen as number k stands before those of the k parts chosen earlier
parents_cons : (k parent : ℕ) (ps : List ℕ) → ParentBefore k parent → ((i : ℕ) → i < length ps → ParentBefore (k - 1 - i) (get_or ps i 0))
    → (i : ℕ) → i < length (parent ∷ ps) → ParentBefore (suc k - 1 - i) (get_or (parent ∷ ps) i 0)
parents_cons k parent ps h f zero l = before_more k (suc k - 1 - zero) parent (omega arith) h
parents_cons k parent ps h f (suc i) l = before_more (k - 1 - i) (suc k - 1 - suc i) (get_or ps i 0) (omega arith) (f i (omega arith))

-- ---- the steps

module _ (edge : Graph) (n : ℕ) where
  -- the state before any step
  balanced_begin : Balanced edge n (begin edge n)
  unfolding begin
  balanced_begin =
      let first : List (List ℕ) = components edge (below n) in
      subst (λ (pending : List Pending). Balanced edge n (record { pending = pending; chosen = []; parents = [] })) (append-nil (pending_below no_parent first))
      record {
        regions = pending-all edge no_parent first [] (components-regions edge (below n) (ascending-up_from n 0)) tt;
        counts = λ p. omega (arith, pending-count p no_parent first [], ap (count p) flatten_nil, components-count edge (below n) p);
        filled = tt;
        as_many = refl;
        pending_parents = λ parent h. elim (pending-parents no_parent first [] parent h) [ inl e ↦ inl e | inr m ↦ absurd (false≢true m) ];
        parents = λ i l. absurd (omega arith);
      }

  module _ (choose : List ℕ → List ℕ) (takes : Takes edge choose) where
    -- one step, by the regions still pending
    balanced_with : (pending : List Pending) (chosen : List (List ℕ)) (parents : List ℕ)
        → Balanced edge n (record { pending = pending; chosen = chosen; parents = parents }) → Balanced edge n (step_with edge choose pending chosen parents)
    unfolding step_with
    balanced_with [] chosen parents b = b
    balanced_with (next ∷ others) chosen parents b =
        let r : List ℕ = next.region in
        let h : Region edge r = b.regions.0 in
        let rest : List (List ℕ) = components edge (without (choose r) r) in
        record {
          regions = pending-all edge (length chosen) rest others (left-regions edge choose r h) b.regions.1;
          counts = λ p. omega (
            arith,
            b.counts p,
            pending-count p (length chosen) rest others,
            components-count edge (without (choose r) r) p,
            takes.rest r h p,
            ap (count p) (flatten_cons r (regions_of others)),
            count-append p r (flatten (regions_of others)),
            ap (count p) (flatten_cons (choose r) chosen),
            count-append p (choose r) (flatten chosen),
          );
          filled = (takes.some r h, b.filled);
          as_many = ap suc b.as_many;
          pending_parents = λ parent m. elim (pending-parents (length chosen) rest others parent m) [
            | inl e ↦ inr (omega arith)
            | inr t ↦ before_more (length chosen) (suc (length chosen)) parent (omega arith) (b.pending_parents parent (is_in_tail parent next.parent (parents_of others) t))
          ];
          parents = parents_cons (length chosen) next.parent parents (b.pending_parents next.parent (is_in-head next.parent (parents_of others))) b.parents;
        }

    -- one more part chosen
    balanced_step : (s : State) → Balanced edge n s → Balanced edge n (step edge choose s)
    unfolding step
    balanced_step s b = balanced_with s.pending s.chosen s.parents b

    -- any number of steps from such a state
    balanced_from : (k : ℕ) (s : State) → Balanced edge n s → Balanced edge n (steps k edge choose s)
    unfolding steps
    balanced_from zero s b = b
    balanced_from (suc k) s b = balanced_from k (step edge choose s) (balanced_step s b)

    -- the state after any number of steps
    pub balanced_steps : (k : ℕ) → Balanced edge n (steps k edge choose (begin edge n))
    balanced_steps k = balanced_from k (begin edge n) balanced_begin

  -- ---- what follows

  module _ (s : State) (b : Balanced edge n s) where
    -- the nodes of the pending regions and of the chosen parts are n together
    pub balanced_room : length (flatten (regions_of s.pending)) + length (flatten s.chosen) ≡ n
    balanced_room =
        omega (
          arith,
          b.counts (λ v. true),
          count-all (flatten (regions_of s.pending)),
          count-all (flatten s.chosen),
          count-all (below n),
          length-up_from n 0,
        )

    -- there are at most n pending regions and chosen parts together, for each has a node
    pub balanced_few : length s.pending + length s.chosen ≤ n
    balanced_few =
        omega (
          arith,
          balanced_room,
          length-map s.pending (λ q. q.region),
          lists_few (regions_of s.pending) (all_map (Region edge) (λ r. 0 < length r) (λ r h. h.some) (regions_of s.pending) b.regions),
          lists_few s.chosen b.filled,
        )

    -- every node of the pending regions is below n
    pub balanced_nodes : (v : ℕ) → is_in v (flatten (regions_of s.pending)) ≡ true → v < n
    balanced_nodes v h =
        is_in-below n v (count-exists (eqb v) (below n) (omega (arith, b.counts (eqb v), exists-count (eqb v) (flatten (regions_of s.pending)) h)))

    -- the same region by region
    pub balanced_inside : All (λ r. (v : ℕ) → is_in v r ≡ true → v < n) (regions_of s.pending)
    balanced_inside = all-members (λ v. v < n) (regions_of s.pending) balanced_nodes
