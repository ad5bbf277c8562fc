-- What a step of the dissection does to the arrays that hold a state.
use mathlib.Core.Path.{◌≡◌, refl, sym, ap, ap₂, ◌∙◌}
use mathlib.Core.Logic.{◌⊎◌, ◌≢◌, inl, inr}
use mathlib.Core.Bool.{Bool, true, false≢true}
use mathlib.Core.List.{List, [], ◌∷◌, ◌++◌, map, map-map, map-id, flatten, reverse, reverse_aux, append_assoc, append-nil, map-append, reverse-cons, reverse-append, reverse-reverse}
use Prim.Native.Nat.{ℕ, zero, suc, ◌+◌, ◌-◌, ◌≤◌, ◌<◌}
use native.Mathlib.Numerals.{add-one}
use native.Mathlib.Nat.{zero-add}
use native.Mathlib.Omega.{arith}
use lib.Dec.{eqb}
use lib.ListN.{length, take, drop, set, get_or, replicate, length-append, length-drop, length-set, length-map, length-reverse}
use lib.Seq.{length-take-le, get_or-take, get_or-drop, take_at, drop_at, drop-drop, drop-set-lt, ext_get_or}
use borrow.Author.Tests.{eqb-true, eq-eqb}
use Rattle.plan.specs.Lists.{keep, is_in, segment, up_from, below, without, written}
use Rattle.plan.specs.Mesh.{max_nodes, no_parent, Mesh, adjacent}
use Rattle.plan.specs.Levels.{components}
use Rattle.plan.specs.Choice.{george_liu}
use Rattle.plan.specs.Dissection.{parts, order}
use Rattle.plan.specs.Enough.{StepsAgree}
use Rattle.plan.specs.Steps.{Pending, State, pending_below, begin, step_with, step, steps, by_number}
use Rattle.plan.specs.Planning.{dissection_of}
use Rattle.theory.specs.Regions.{All, Region}
use Rattle.theory.specs.Checked.{Checked}
use Rattle.theory.specs.Balanced.{regions_of, parents_of, ParentBefore, Balanced}
use Rattle.theory.specs.Places.{begin_of}
use Rattle.theory.proofs.Bools.{tested, cond_true, cond_false, refuted, eq_or_ne, lt_or_le}
use Rattle.theory.proofs.Lists.{keep_all, keep_ext, is_in-head, is_in-get_or, is_in-append_cases, of_keep, get_d_reverse}
use Rattle.theory.proofs.Ranges.{length-up_from, length-map-up_from}
use Rattle.theory.proofs.Written.{front-written}
use Rattle.theory.proofs.Flatten.{flatten_one, flatten-append, flatten_nil, flatten_cons}
use Rattle.theory.proofs.AllLists.{all_map, all-reverse_onto, lists_few}
use Rattle.theory.proofs.Counting.{count-append, count-exists, exists-count}
use Rattle.theory.proofs.Components.{components-some}
use Rattle.theory.proofs.Choice.{george_liu_takes}
use Rattle.theory.proofs.Dissection.{regions_left, part_length, first-regions-length, part_count}
use Rattle.theory.proofs.Steps.{state, steps-done, steps_add, steps_agree}
use Rattle.theory.proofs.StepStates.{balanced_steps, balanced_few, balanced_inside}
use Rattle.mesh.specs.Lists.{filled_with}
use Rattle.mesh.proofs.Lists.{filled-length, filled_at}
use Rattle.dissection.specs.Numbers.{fresh, outside, fresh_of, Only, Renumbered, grouped, Begins, Labelled}
use Rattle.dissection.specs.Standing.{Divided}
use Rattle.dissection.specs.Blocks.{inner, heads_of, state_after, Holds, Dissected}
use Rattle.dissection.proofs.Blocks.{segment_of, segment_other, headed_heads, marked_headed, heads_append, heads_long_lem, heads_first, begin-end, begin-front, begin-before, Firsts, firsts, Block, heads_block, heads_divided}

-- ---- the last one first, turned round

-- mapped and turned round
map_reverse_aux : {A B : Type 0} (f : A → B) (l acc : List A) → map f (reverse_aux l acc) ≡ reverse_aux (map f l) (map f acc)
map_reverse_aux f [] acc = refl
map_reverse_aux f (x ∷ l) acc = map_reverse_aux f l (x ∷ acc)

-- regions below one parent stand behind the others, in their order
below-back : {A : Type 0} (f : Pending → A) (parent : ℕ) (rs : List (List ℕ)) (others : List Pending)
    → reverse (map f (pending_below parent rs ++ others)) ≡ reverse (map f others) ++ map (λ r. f (record { region = r; parent = parent })) rs
unfolding pending_below
below-back f parent rs others =
    let made : List Pending = map (λ r. record { region = r; parent = parent }) rs in
    ap reverse (map-append f (reverse made) others)
    ∙ reverse-append (map f (reverse made)) (map f others)
    ∙ ap (λ l. reverse (map f others) ++ l)
    (ap reverse (map_reverse_aux f made []) ∙ reverse-reverse (map f made) ∙ map-map f (λ r. record { region = r; parent = parent }) rs)

-- as many times the same
map_same : {A B : Type 0} (b : B) (l : List A) → map (λ x. b) l ≡ replicate (length l) b
map_same b [] = refl
map_same b (x ∷ l) = ap (λ t. b ∷ t) (map_same b l)

-- their regions
regions-back : (parent : ℕ) (rs : List (List ℕ)) (others : List Pending) → reverse (regions_of (pending_below parent rs ++ others)) ≡ reverse (regions_of others) ++ rs
regions-back parent rs others = below-back (λ q. q.region) parent rs others ∙ ap (λ (l : List (List ℕ)). reverse (regions_of others) ++ l) (map-id rs)

-- their parents
parents-back : (parent : ℕ) (rs : List (List ℕ)) (others : List Pending)
    → reverse (parents_of (pending_below parent rs ++ others)) ≡ reverse (parents_of others) ++ replicate (length rs) parent
parents-back parent rs others = below-back (λ q. q.parent) parent rs others ∙ ap (λ (l : List ℕ). reverse (parents_of others) ++ l) (map_same parent rs)

-- the nodes of the first region stand last
nodes_cons : (r : List ℕ) (rs : List (List ℕ)) → flatten (reverse (r ∷ rs)) ≡ flatten (reverse rs) ++ r
nodes_cons r rs =
    ap flatten (reverse-cons r rs) ∙ flatten-append (reverse rs) (r ∷ [])
    ∙ ap (λ (l : List ℕ). flatten (reverse rs) ++ l) (flatten_one r)

-- and its heads
heads_cons : (r : List ℕ) (rs : List (List ℕ)) (p : ℕ) (ps : List ℕ) → length rs ≡ length ps
    → heads_of (reverse (r ∷ rs)) (reverse (p ∷ ps)) ≡ heads_of (reverse rs) (reverse ps) ++ (p ∷ replicate (length r - 1) inner)
heads_cons r rs p ps same =
    ap₂ heads_of (reverse-cons r rs) (reverse-cons p ps)
    ∙ heads_append (reverse rs) (r ∷ []) (reverse ps) (p ∷ []) (length-reverse rs ∙ same ∙ sym (length-reverse ps))
    ∙ ap (λ (l : List ℕ). heads_of (reverse rs) (reverse ps) ++ l) (append-nil (p ∷ replicate (length r - 1) inner))

-- ---- the states of the book

-- the state after one more step
pub state_more : (m : Mesh) (k : ℕ) → state_after m (suc k) ≡ step (adjacent m) (george_liu m) (state_after m k)
unfolding state_after steps
state_more m k =
    ap (λ (j : ℕ). steps j (adjacent m) (george_liu m) (begin (adjacent m) m.nodes)) (sym (add-one k))
    ∙ steps_add (adjacent m) (george_liu m) k 1 (begin (adjacent m) m.nodes)

-- what holds of each
pub state_balanced : (m : Mesh) (k : ℕ) → Balanced (adjacent m) m.nodes (state_after m k)
unfolding state_after
state_balanced m k = balanced_steps (adjacent m) m.nodes (george_liu m) (george_liu_takes m) k

-- the state with the first pending region cut
abbrev cut : Mesh → Pending → List Pending → List (List ℕ) → List ℕ → State
cut m next others chosen ps = state (pending_below (length chosen) (regions_left (adjacent m) (george_liu m) next.region) ++ others) (george_liu m next.region ∷ chosen) (next.parent ∷ ps)

-- a step cuts the first pending region
step_cut : (m : Mesh) (s : State) (next : Pending) (others : List Pending) → s.pending ≡ next ∷ others → step (adjacent m) (george_liu m) s ≡ cut m next others s.chosen s.parents
unfolding step step_with
step_cut m s next others e = ap (λ (l : List Pending). step_with (adjacent m) (george_liu m) l s.chosen s.parents) e

-- the next state of the book
pub state_cut : (m : Mesh) (k : ℕ) (next : Pending) (others : List Pending) → (state_after m k).pending ≡ next ∷ others
    → state_after m (suc k) ≡ cut m next others (state_after m k).chosen (state_after m k).parents
state_cut m k next others e = state_more m k ∙ step_cut m (state_after m k) next others e

-- nothing is pending, or something is
pub pending_cases : (l : List Pending) → (l ≡ []) ⊎ ((next : Pending) × (others : List Pending) × (l ≡ next ∷ others))
pending_cases [] = inl refl
pending_cases (next ∷ others) = inr (next, others, refl)

-- a step where something is pending chooses one part
pub chosen_more : (m : Mesh) (k : ℕ) → 0 < length (state_after m k).pending → length (state_after m (suc k)).chosen ≡ suc (length (state_after m k).chosen)
chosen_more m k some = elim (pending_cases (state_after m k).pending) [
  | inl e ↦ absurd (omega (arith, ap length e))
  | inr w ↦ ap (λ (s : State). length s.chosen) (state_cut m k w.0 w.1 w.2)
]

-- where something is pending, something was before
pending-before : (m : Mesh) (k : ℕ) → 0 < length (state_after m (suc k)).pending → 0 < length (state_after m k).pending
unfolding steps
pending-before m k some = elim (pending_cases (state_after m k).pending) [
  | inl e ↦ absurd (omega (arith, ap (λ (s : State). length s.pending) (state_more m k ∙ steps-done (adjacent m) (george_liu m) 1 (state_after m k) e), ap length e))
  | inr w ↦ omega (arith, ap length w.2)
]

-- as long as something is pending, as many parts are chosen as steps were done
pub chosen-many : (m : Mesh) (k : ℕ) → 0 < length (state_after m k).pending → length (state_after m k).chosen ≡ k
unfolding state_after steps begin
chosen-many m zero some = refl
chosen-many m (suc k) some = let was : 0 < length (state_after m k).pending = pending-before m k some in chosen_more m k was ∙ ap suc (chosen-many m k was)

-- ---- the last pending region in the arrays

-- The region that the next step cuts, and how the arrays hold it.
pub record Last (m : Mesh) (s : State) (orderHeld heads : List ℕ) (left : ℕ) : Type 0 where
  pub next : Pending
  pub others : List Pending
  pub whole : s.pending ≡ next ∷ others
  pub order : take m.nodes orderHeld ≡ flatten (reverse (regions_of others)) ++ (next.region ++ flatten s.chosen)
  pub marks : take m.nodes heads ≡ heads_of (reverse (regions_of others)) (reverse (parents_of others)) ++ ((next.parent ∷ replicate (length next.region - 1) inner) ++ heads_of s.chosen s.parents)
  pub before : length (heads_of (reverse (regions_of others)) (reverse (parents_of others))) ≡ length (flatten (reverse (regions_of others)))
  pub place : left ≡ length (flatten (reverse (regions_of others))) + length next.region
  pub fits : left ≤ m.nodes
  pub region : Region (adjacent m) next.region
  pub inside : (v : ℕ) → is_in v next.region ≡ true → v < m.nodes
  pub parent : next.parent ≢ inner
  pub first : get_or heads 0 0 ≢ inner
  pub order_rest : drop m.nodes orderHeld ≡ drop m.nodes (filled_with 0)
  pub heads_rest : drop m.nodes heads ≡ drop m.nodes (filled_with inner)
  pub small : m.nodes ≤ max_nodes
  pub order_long : length orderHeld ≡ max_nodes
  pub heads_long : length heads ≡ max_nodes

-- a parent is no inner place's mark
parent_not_inner : (k n parent : ℕ) → k ≤ n → n ≤ max_nodes → ParentBefore k parent → parent ≢ inner
parent_not_inner k n parent few small (inl none) e = omega arith
parent_not_inner k n parent few small (inr before) e = omega arith

-- the first head is the parent of a pending region
first-parent : (n : ℕ) (pending : List Pending) (heads zs : List ℕ) → 0 < n → 0 < length pending
    → take n heads ≡ heads_of (reverse (regions_of pending)) (reverse (parents_of pending)) ++ zs → is_in (get_or heads 0 0) (parents_of pending) ≡ true
first-parent n pending heads zs some more e =
    let rs : List (List ℕ) = regions_of pending in
    let ps : List ℕ = parents_of pending in
    let many : length ps ≡ length pending = length-map pending (λ q. q.parent) in
    let same : length (reverse rs) ≡ length (reverse ps) = length-reverse rs ∙ length-map pending (λ q. q.region) ∙ sym many ∙ sym (length-reverse ps) in
    let it : get_or heads 0 0 ≡ get_or ps (length ps - 1) 0 =
    sym (get_or-take n heads 0 0 some) ∙ ap (λ (l : List ℕ). get_or l 0 0) e ∙ heads_first (reverse rs) (reverse ps) zs (omega (arith, length-reverse ps)) same
    ∙ get_d_reverse ps 0 0 (omega arith) in
    rw it (is_in-get_or ps (length ps - 1) 0 (omega arith))

-- what the arrays hold, by the regions still pending
last_with : (m : Mesh) (pending : List Pending) (chosen : List (List ℕ)) (ps orderHeld heads : List ℕ) (left : ℕ) → Checked m
    → Balanced (adjacent m) m.nodes (state pending chosen ps) → Holds m (state pending chosen ps) orderHeld heads left → 0 < left → Last m (state pending chosen ps) orderHeld heads left
last_with m [] chosen ps orderHeld heads left checked b h some = absurd (omega (arith, h.pending, ap length (flatten_nil {A = ℕ})))
last_with m (next ∷ others) chosen ps orderHeld heads left checked b h some =
    let n : ℕ = m.nodes in
    let s : State = state (next ∷ others) chosen ps in
    let rs : List (List ℕ) = regions_of others in
    let qs : List ℕ = parents_of others in
    let same : length rs ≡ length qs = length-map others (λ q. q.region) ∙ sym (length-map others (λ q. q.parent)) in
    let few : length (next ∷ others) + length chosen ≤ n = balanced_few (adjacent m) n s b in
    record {
      next = next;
      others = others;
      whole = refl;
      order = h.order ∙ ap (λ (l : List ℕ). l ++ flatten chosen) (nodes_cons next.region rs) ∙ append_assoc (flatten (reverse rs)) next.region (flatten chosen);
      marks =
          h.marks ∙ ap (λ (l : List ℕ). l ++ heads_of chosen ps) (heads_cons next.region rs next.parent qs same)
          ∙ append_assoc (heads_of (reverse rs) (reverse qs)) (next.parent ∷ replicate (length next.region - 1) inner) (heads_of chosen ps);
      before =
          heads_long_lem (reverse rs) (reverse qs)
          (all-reverse_onto (λ r. 0 < length r) rs [] (all_map (Region (adjacent m)) (λ r. 0 < length r) (λ r g. g.some) rs b.regions.1) tt)
          (length-reverse rs ∙ same ∙ sym (length-reverse qs));
      place = h.pending ∙ ap length (nodes_cons next.region rs) ∙ length-append (flatten (reverse rs)) next.region;
      fits = omega (
        arith,
        h.pending,
        length-take-le n orderHeld (omega (arith, h.order_long, checked.few)),
        ap length h.order,
        length-append (flatten (reverse (regions_of (next ∷ others)))) (flatten chosen),
      );
      region = b.regions.0;
      inside = (balanced_inside (adjacent m) n s b).0;
      parent = parent_not_inner (length chosen) n next.parent (omega arith) checked.few (b.pending_parents next.parent (is_in-head next.parent qs));
      first = parent_not_inner (length chosen) n (get_or heads 0 0) (omega arith) checked.few
          (b.pending_parents (get_or heads 0 0) (first-parent n (next ∷ others) heads (heads_of chosen ps) checked.some (omega arith) h.marks));
      order_rest = h.order_rest;
      heads_rest = h.heads_rest;
      small = checked.few;
      order_long = h.order_long;
      heads_long = h.heads_long;
    }

-- what the arrays hold of a state of the book at which something is pending
pub last : (m : Mesh) (k : ℕ) (orderHeld heads : List ℕ) (left : ℕ) → Checked m → Holds m (state_after m k) orderHeld heads left → 0 < left → Last m (state_after m k) orderHeld heads left
last m k orderHeld heads left checked h some =
    let s : State = state_after m k in
    last_with m s.pending s.chosen s.parents orderHeld heads left checked (state_balanced m k) h some

-- ---- what stands behind the nodes

-- two lists of one length are equal from place n on, if they are at each place from there
drop-same : (n : ℕ) (l r : List ℕ) → length l ≡ length r → ((i : ℕ) → n ≤ i → get_or l i 0 ≡ get_or r i 0) → drop n l ≡ drop n r
drop-same n l r long same =
    ext_get_or 0 (drop n l) (drop n r) (length-drop n l ∙ ap (λ (k : ℕ). k - n) long ∙ sym (length-drop n r))
    (λ i h. get_or-drop n l i 0 ∙ same (n + i) (omega arith) ∙ sym (get_or-drop n r i 0))

-- a list with another segment before place n is as it was from there on
drop_other : (n a e : ℕ) (old other : List ℕ) → a ≤ length old → a + length other ≡ e → e ≤ n → drop n (take a old ++ (other ++ drop e old)) ≡ drop n old
drop_other n a e old other within ends le =
    let k : ℕ = n - e in
    let all : n ≡ e + k = omega arith in
    let front : length (take a old ++ other) ≡ e = length-append (take a old) other ∙ ap (λ (k : ℕ). k + length other) (length-take-le a old within) ∙ ends in
    rw (all, sym (append_assoc (take a old) other (drop e old)), sym (drop-drop k e (take a old ++ other ++ drop e old)), drop_at (take a old ++ other) (drop e old) e front) (drop-drop k e old)

-- places that are marked before n change nothing from there on
drop_marked : (n k : ℕ) (places old new : List ℕ) → length new ≡ length old → ((v : ℕ) → is_in v places ≡ true → v < n) → Renumbered (λ _. k) places old new → drop n new ≡ drop n old
drop_marked n k places old new long before e =
    drop-same n new old long (λ i le. e i ∙ cond_false (is_in i places) k (get_or old i 0) (refuted (is_in i places) (λ t. omega (arith, before i t))))

-- ---- the region that is cut

-- a node of the groups has the number of one
group_number : (numbers nodes : List ℕ) (k a v : ℕ) → is_in v (flatten (map (λ c. keep (λ v. eqb (get_or numbers v 0) c) nodes) (up_from a k))) ≡ true → get_or numbers v 0 < a + k
group_number numbers nodes zero a v h = absurd (false≢true (sym (ap (is_in v) flatten_nil) ∙ h))
group_number numbers nodes (suc k) a v h =
    let p : ℕ → Bool = λ v. eqb (get_or numbers v 0) a in
    let later : List (List ℕ) = map (λ c. keep (λ v. eqb (get_or numbers v 0) c) nodes) (up_from (suc a) k) in
    elim (is_in-append_cases v (keep p nodes) (flatten later) (sym (ap (is_in v) (flatten_cons (keep p nodes) later)) ∙ h)) [
      | inl t ↦ omega (arith, eqb-true (get_or numbers v 0) a (of_keep p nodes v t).1)
      | inr t ↦ omega (arith, group_number numbers nodes k (suc a) v t)
    ]

-- every node of a list is left out, where the others were
pub all-outside : {n : ℕ} {nodes region : List ℕ} (old new : List ℕ) → nodes ≡ region → Only n region old → Renumbered (λ _. outside) nodes old new → Only n [] new
all-outside {nodes = nodes} old new e only out v lt none = elim (tested (is_in v nodes)) [
  | inl t ↦ out v ∙ cond_true (is_in v nodes) outside (get_or old v 0) t
  | inr f ↦ out v ∙ cond_false (is_in v nodes) outside (get_or old v 0) f ∙ only v lt (sym (ap (is_in v) e) ∙ f)
]

-- a division, by what its list and its place are equal to
pub divided_as : {m : Mesh} {nodes region : List ℕ} {a b : ℕ} {numbers begins : List ℕ} {count : ℕ} → nodes ≡ region → a ≡ b → Divided m nodes a numbers begins count → Divided m region b numbers begins count
divided_as e f d = rw (e, f) at d

module _ {m : Mesh} {orderHeld heads : List ℕ} {left : ℕ} (k : ℕ) (l : Last m (state_after m k) orderHeld heads left) where
  -- where it begins
  abbrev pub start : ℕ
  start = length (flatten (reverse (regions_of l.others)))

  -- what it leaves
  abbrev pub rest : List (List ℕ)
  rest = regions_left (adjacent m) (george_liu m) l.next.region

  -- where its part is to stand
  abbrev pub part_place : ℕ
  part_place = start + length (flatten rest)

  -- as many parts are chosen as steps were done
  pub last-chosen : length (state_after m k).chosen ≡ k
  last-chosen = chosen-many m k (omega (arith, ap length l.whole))

  -- fewer than there are nodes
  pub last-few : k < m.nodes
  last-few = omega (arith, last-chosen, balanced_few (adjacent m) m.nodes (state_after m k) (state_balanced m k), ap length l.whole)

  -- it has a node
  last_some : 0 < length l.next.region
  last_some = l.region.some

  -- its heads
  last_block : Block start (length l.next.region) l.next.parent heads
  last_block =
      rw (sym l.before)
      (heads_block (length l.next.region) l.next.parent heads (heads_of (reverse (regions_of l.others)) (reverse (parents_of l.others))) (heads_of (state_after m k).chosen (state_after m k).parents) m.nodes last_some l.marks)

  -- the last head that is a parent tells it
  pub last-place : (a : ℕ) → a < left → get_or heads a 0 ≢ inner → ((i : ℕ) → a < i → i < left → get_or heads i 0 ≡ inner) → a ≡ start
  last-place a low head none = elim (lt_or_le a start) [
    | inl lt ↦ absurd (l.parent (sym last_block.first ∙ none start lt (omega (arith, l.place, last_some))))
    | inr le ↦ elim (eq_or_ne a start) [
      | inl e ↦ e
      | inr ne ↦ absurd (head (last_block.rest a (omega arith) (omega (arith, l.place))))
    ]
  ]

  -- its first head is its parent
  pub last-head : (a : ℕ) → a ≡ start → get_or heads a 0 ≡ l.next.parent
  last-head a e = ap (λ (i : ℕ). get_or heads i 0) e ∙ last_block.first

  -- its nodes
  pub last-nodes : (a : ℕ) → a ≡ start → segment orderHeld a left ≡ l.next.region
  last-nodes a e =
      let size : left - a ≡ length l.next.region = omega (arith, l.place) in
      ap₂ (λ (k a : ℕ). take k (drop a orderHeld)) size e
      ∙ segment_of m.nodes orderHeld (flatten (reverse (regions_of l.others))) l.next.region (flatten (state_after m k).chosen) l.order

  -- so are those of a list that holds them
  pub last-queued : {nodes : List ℕ} (a : ℕ) → a ≡ start → nodes ≡ segment orderHeld a left → nodes ≡ l.next.region
  last-queued a e held = held ∙ last-nodes a e

  -- its part has a node
  part-some : 0 < length (george_liu m l.next.region)
  part-some = (george_liu_takes m).some l.next.region l.region

  -- with the regions that are left the part makes up the region
  part-rest : length (flatten rest) + length (george_liu m l.next.region) ≡ length l.next.region
  part-rest = omega (arith, part_length (adjacent m) (george_liu m) (george_liu_takes m) l.next.region l.region)

  -- each region that is left has a node
  rest-full : All (λ b. 0 < length b) rest
  rest-full = components-some (adjacent m) (without (george_liu m l.next.region) l.next.region)

  -- the part begins before the place where the region ended
  pub part-before : part_place < left
  part-before = omega (arith, l.place, part-some, part-rest)

  -- ---- divided

  module _ {numbers begins : List ℕ} {count : ℕ} (d : Divided m l.next.region start numbers begins count) (long : m.nodes < length begins) where
    -- there are fewer regions left than nodes
    pub count-few : count < m.nodes
    count-few = omega (arith, d.many, lists_few rest rest-full, part-before, l.fits)

    -- the place behind the regions that are left is the part's
    pub part-begin : get_or begins count 0 ≡ part_place
    part-begin = d.begin count (omega (arith, d.many)) ∙ ap (begin_of start rest) d.many ∙ begin-end start rest

    -- the other places are where they begin
    rest_firsts : Firsts start rest (take count begins)
    rest_firsts = firsts start rest begins count d.many (omega (arith, count-few)) d.begin

    -- all before the nodes' end, and so within the array
    places_before : (v : ℕ) → is_in v (take count begins) ≡ true → v < m.nodes
    places_before v h = let w = rest_firsts.only v h in omega (arith, w.2, begin-before start rest rest-full w.0 w.1, part-before, l.fits)

    pub places_few : (v : ℕ) → is_in v (take count begins) ≡ true → v < max_nodes
    places_few v h = omega (arith, places_before v h, l.small)

    -- the nodes of the groups: those of the regions that are left, and then the part
    groups-nodes : flatten (grouped (count + 1) numbers l.next.region) ≡ flatten rest ++ george_liu m l.next.region
    groups-nodes =
        let part : List ℕ = george_liu m l.next.region in
        ap flatten d.groups ∙ flatten-append rest (part ∷ [])
        ∙ ap (λ (l : List ℕ). flatten rest ++ l) (flatten_one part)

    -- each node of the region is in a group
    pub region-number : (v : ℕ) → is_in v l.next.region ≡ true → get_or numbers v 0 < count + 1
    region-number v h =
        let r : List ℕ = l.next.region in
        let part : List ℕ = george_liu m r in
        let found : is_in v (flatten rest ++ part) ≡ true =
        count-exists (eqb v) (flatten rest ++ part)
        (omega (arith, count-append (eqb v) (flatten rest) part, part_count (adjacent m) (george_liu m) (george_liu_takes m) r l.region (eqb v), exists-count (eqb v) r h)) in
        omega (arith, group_number numbers r (count + 1) 0 v (ap (is_in v) groups-nodes ∙ found))

    -- the groups begin where it is noted
    pub groups-begin : (c : ℕ) → c < count + 1 → get_or begins c 0 ≡ begin_of start (grouped (count + 1) numbers l.next.region) c
    groups-begin c h =
        let le : c ≤ length rest = omega (arith, d.many) in
        d.begin c le ∙ sym (ap (λ (ls : List (List ℕ)). begin_of start ls c) d.groups ∙ begin-front start rest (george_liu m l.next.region ∷ []) c le)

    -- what the step leaves in the arrays is the next state
    pub holds-next : {nodes : List ℕ} {a end p : ℕ} {now : List ℕ} (marked : List ℕ) → nodes ≡ l.next.region → a ≡ start → end ≡ part_place → p ≡ l.next.parent
        → now ≡ take a orderHeld ++ (flatten (grouped (count + 1) numbers nodes) ++ drop (a + (left - a)) orderHeld) → length now ≡ max_nodes
        → Renumbered (λ _. k) (take count begins) heads marked → length marked ≡ max_nodes
        → Holds m (state_after m (k + 1)) now (set marked end p) end
    holds-next {nodes} {a} {end} {p = p₀} {now} marked nodesSame aSame endSame pSame regrouped nowLong mark markedLong =
        let n : ℕ = m.nodes in
        let chosen : List (List ℕ) = (state_after m k).chosen in
        let ps : List ℕ = (state_after m k).parents in
        let r : List ℕ = l.next.region in
        let p : ℕ = l.next.parent in
        let part : List ℕ = george_liu m r in
        let rs : List (List ℕ) = reverse (regions_of l.others) in
        let qs : List ℕ = reverse (parents_of l.others) in
        let hs : List ℕ = heads_of rs qs in
        let left-blocks : reverse (regions_of (pending_below (length chosen) rest ++ l.others)) ≡ rs ++ rest = regions-back (length chosen) rest l.others in
        let left-parents : reverse (parents_of (pending_below (length chosen) rest ++ l.others)) ≡ qs ++ replicate (length rest) k =
        parents-back (length chosen) rest l.others ∙ ap (λ (k : ℕ). qs ++ replicate (length rest) k) last-chosen in
        let left-nodes : flatten (reverse (regions_of (pending_below (length chosen) rest ++ l.others))) ≡ flatten rs ++ flatten rest = ap flatten left-blocks ∙ flatten-append rs rest in
        let same : length rs ≡ length qs =
        length-reverse (regions_of l.others) ∙ length-map l.others (λ q. q.region) ∙ sym (length-map l.others (λ q. q.parent)) ∙ sym (length-reverse (parents_of l.others)) in
        let other : List ℕ = flatten (grouped (count + 1) numbers r) in
        let end_at : a + (left - a) ≡ start + length r = omega (arith, l.place) in
        let otherLong : length other ≡ length r = omega (arith, ap length groups-nodes, length-append (flatten rest) part, part-rest) in
        let here : now ≡ take start orderHeld ++ (other ++ drop (start + length r) orderHeld) =
        regrouped ∙ ap₂ (λ (a e : ℕ). take a orderHeld ++ (flatten (grouped (count + 1) numbers nodes) ++ drop e orderHeld)) aSame end_at
        ∙ ap (λ (nodes : List ℕ). take start orderHeld ++ (flatten (grouped (count + 1) numbers nodes) ++ drop (start + length r) orderHeld)) nodesSame in
        rw (add-one k, endSame, pSame, state_cut m k l.next l.others l.whole)
        record {
          order =
              segment_other n orderHeld now (flatten rs) r (flatten chosen) other l.order (omega (arith, l.order_long, l.small)) otherLong here
              ∙ ap (λ (g : List ℕ). flatten rs ++ (g ++ flatten chosen)) groups-nodes
              ∙ sym (ap₂ (λ (xs ys : List ℕ). xs ++ ys) left-nodes (flatten_cons part chosen) ∙ simp append_assoc);
          marks =
              ap (λ (at : ℕ). take n (set marked (at + length (flatten rest)) p)) (sym l.before)
              ∙ heads_divided n k p heads marked hs (heads_of chosen ps) r part rest (take count begins) l.marks (omega (arith, l.heads_long)) (markedLong ∙ sym l.heads_long) part-rest part-some rest-full
              (rw l.before rest_firsts) mark
              ∙ sym (ap₂ (λ (bs : List (List ℕ)) (cs : List ℕ). heads_of bs cs ++ heads_of (part ∷ chosen) (p ∷ ps)) left-blocks left-parents
              ∙ ap (λ (l : List ℕ). l ++ heads_of (part ∷ chosen) (p ∷ ps)) (heads_append rs rest qs (replicate (length rest) k) same)
              ∙ append_assoc hs (heads_of rest (replicate (length rest) k)) (heads_of (part ∷ chosen) (p ∷ ps)));
          pending = sym (ap length left-nodes ∙ length-append (flatten rs) (flatten rest));
          order_rest =
              ap (drop n) here
              ∙ drop_other n start (start + length r) orderHeld other (omega (arith, l.place, l.fits, l.small, l.order_long)) (ap (λ (k : ℕ). start + k) otherLong) (omega (arith, l.place, l.fits))
              ∙ l.order_rest;
          heads_rest =
              drop-set-lt n marked part_place p (omega (arith, part-before, l.fits))
              ∙ drop_marked n k (take count begins) heads marked (markedLong ∙ sym l.heads_long) places_before mark
              ∙ l.heads_rest;
          order_long = nowLong;
          heads_long = length-set marked part_place p ∙ markedLong;
        }

-- ---- how many steps

-- where places are left, fewer parts are chosen than there are nodes
pub step-few : {m : Mesh} {orderHeld heads : List ℕ} {left : ℕ} (k : ℕ) → Checked m → Holds m (state_after m k) orderHeld heads left → 0 < left → k < m.nodes
step-few {m} {orderHeld} {heads} {left} k checked h some = last-few k (last m k orderHeld heads left checked h some)

-- and the next step makes them one more
pub step-chosen : {m : Mesh} {orderHeld heads : List ℕ} {left : ℕ} (k : ℕ) → Checked m → Holds m (state_after m k) orderHeld heads left → 0 < left
    → length (state_after m (k + 1)).chosen ≡ k + 1
step-chosen {m} {orderHeld} {heads} {left} k checked h some =
    let l : Last m (state_after m k) orderHeld heads left = last m k orderHeld heads left checked h some in
    rw (add-one k) (chosen_more m k (omega (arith, ap length l.whole)) ∙ ap suc (last-chosen k l))

-- none is chosen before the first
pub none-chosen : (m : Mesh) → length (state_after m 0).chosen ≡ 0
unfolding state_after steps begin
none-chosen m = refl

-- ---- the first state

-- the components of a whole mesh
abbrev pub first_regions : Mesh → List (List ℕ)
first_regions m = components (adjacent m) (below m.nodes)

-- they hold every node once
pub first-nodes : (m : Mesh) → length (flatten (first_regions m)) ≡ m.nodes
first-nodes m = first-regions-length (adjacent m) m.nodes

-- the components one after the other, each with no parent, are the state before the first step
pub holds-begin : (m : Mesh) (orderHeld heads : List ℕ) → take m.nodes orderHeld ≡ flatten (first_regions m)
    → take m.nodes heads ≡ heads_of (first_regions m) (replicate (length (first_regions m)) no_parent) → drop m.nodes orderHeld ≡ drop m.nodes (filled_with 0)
    → drop m.nodes heads ≡ drop m.nodes (filled_with inner) → length orderHeld ≡ max_nodes → length heads ≡ max_nodes
    → Holds m (state_after m 0) orderHeld heads m.nodes
unfolding state_after steps begin
holds-begin m orderHeld heads o h order_rest heads_rest order_long heads_long =
    let rs : List (List ℕ) = first_regions m in
    let none : pending_below no_parent rs ++ [] ≡ pending_below no_parent rs = append-nil (pending_below no_parent rs) in
    let regions : reverse (regions_of (pending_below no_parent rs)) ≡ rs = sym (ap (λ (l : List Pending). reverse (regions_of l)) none) ∙ regions-back no_parent rs [] in
    let ps : reverse (parents_of (pending_below no_parent rs)) ≡ replicate (length rs) no_parent = sym (ap (λ (l : List Pending). reverse (parents_of l)) none) ∙ parents-back no_parent rs [] in
    record {
      order = o ∙ sym (ap₂ (λ (xs ys : List ℕ). xs ++ ys) (ap flatten regions) flatten_nil ∙ append-nil (flatten rs));
      marks = h ∙ sym (ap (λ (l : List ℕ). l ++ []) (ap₂ heads_of regions ps) ∙ append-nil (heads_of rs (replicate (length rs) no_parent)));
      pending = sym (ap (λ (l : List (List ℕ)). length (flatten l)) regions ∙ first-nodes m);
      order_rest = order_rest;
      heads_rest = heads_rest;
      order_long = order_long;
      heads_long = heads_long;
    }

-- the nodes of a mesh, at the front of a list that they are written to
pub first_below : (n : ℕ) (found l : List ℕ) → l ≡ written (below n) found → take n l ≡ below n
first_below n found l e = front-written n (below n) found l e (length-up_from n 0)

-- where each of them is made fresh, all nodes are
pub all-fresh : (n : ℕ) {nodes : List ℕ} (old new : List ℕ) → nodes ≡ below n → Renumbered (λ _. fresh) nodes old new → fresh_of n new ≡ below n
all-fresh n {nodes} old new e made =
    keep_ext (λ v. eqb (get_or new v 0) fresh) (λ v. true) (below n)
    (λ v h. eq-eqb (get_or new v 0) fresh (made v ∙ cond_true (is_in v nodes) fresh (get_or old v 0) (ap (is_in v) e ∙ h)))
    ∙ keep_all (below n)

-- All nodes by their components, which begin where it is noted.
pub record Whole (m : Mesh) (numbers begins : List ℕ) (count : ℕ) : Type 0 where
  pub groups : grouped count numbers (below m.nodes) ≡ first_regions m
  pub begin : Begins 0 (first_regions m) begins
  pub many : count ≡ length (first_regions m)
  pub numbered : (v : ℕ) → is_in v (below m.nodes) ≡ true → get_or numbers v 0 < count

-- what labelling all nodes leaves
pub whole : {m : Mesh} {nodes begins : List ℕ} {count : ℕ} (old new : List ℕ) → nodes ≡ below m.nodes → fresh_of m.nodes old ≡ below m.nodes
    → Labelled m.nodes (adjacent m) nodes 0 old new begins count → Whole m new begins count
whole {m} {nodes} {begins} {count} old new e all l =
    let groups : grouped count new (below m.nodes) ≡ first_regions m =
    sym (ap (λ (nodes : List ℕ). grouped count new nodes) e) ∙ l.groups ∙ ap (components (adjacent m)) all in
    record {
      groups = groups;
      begin = rw all at l.begin;
      many = sym (length-map-up_from (λ c. keep (λ v. eqb (get_or new v 0) c) (below m.nodes)) count 0) ∙ ap length groups;
      numbered = λ v h. l.done v (ap (is_in v) all ∙ h);
    }

module _ {m : Mesh} {numbers begins : List ℕ} {count : ℕ} (w : Whole m numbers begins count) (long : m.nodes < length begins) where
  -- each component has a node
  first-full : All (λ b. 0 < length b) (first_regions m)
  first-full = components-some (adjacent m) (below m.nodes)

  -- there are no more of them than nodes
  pub whole-few : count ≤ m.nodes
  whole-few = omega (arith, w.many, lists_few (first_regions m) first-full, first-nodes m)

  -- the places that are noted are where they begin
  whole_firsts : Firsts 0 (first_regions m) (take count begins)
  whole_firsts = firsts 0 (first_regions m) begins count w.many (omega (arith, whole-few)) w.begin

  -- all before the nodes' end
  pub whole_places : (v : ℕ) → is_in v (take count begins) ≡ true → v < m.nodes
  whole_places v h = let p = whole_firsts.only v h in omega (arith, p.2, begin-before 0 (first_regions m) first-full p.0 p.1, first-nodes m)

  -- the groups begin where it is noted
  pub whole-begins : {nodes : List ℕ} → nodes ≡ below m.nodes → (c : ℕ) → c < count → get_or begins c 0 ≡ begin_of 0 (grouped count numbers nodes) c
  whole-begins e c h =
      w.begin c (omega (arith, w.many))
      ∙ sym (ap (λ (nodes : List ℕ). begin_of 0 (grouped count numbers nodes) c) e ∙ ap (λ (ls : List (List ℕ)). begin_of 0 ls c) w.groups)

  -- what is left in the arrays is the state before the first step
  pub holds-first : m.nodes ≤ max_nodes → {nodes now : List ℕ} (orderHeld marked : List ℕ) → nodes ≡ below m.nodes → orderHeld ≡ written (below m.nodes) (filled_with 0)
      → now ≡ take 0 orderHeld ++ (flatten (grouped count numbers nodes) ++ drop (0 + m.nodes) orderHeld) → length now ≡ max_nodes
      → Renumbered (λ _. no_parent) (take count begins) (filled_with inner) marked → length marked ≡ max_nodes
      → Holds m (state_after m 0) now marked m.nodes
  holds-first small {nodes} {now} orderHeld marked e held regrouped nowLong mark markedLong =
      let n : ℕ = m.nodes in
      let rs : List (List ℕ) = first_regions m in
      let rest : List ℕ = drop (0 + n) orderHeld in
      let here : now ≡ flatten rs ++ rest =
      regrouped ∙ ap (λ (nodes : List ℕ). flatten (grouped count numbers nodes) ++ rest) e ∙ ap (λ (ls : List (List ℕ)). flatten ls ++ rest) w.groups in
      holds-begin m now marked
      (ap (take n) here ∙ take_at (flatten rs) rest n (first-nodes m))
      (ap (λ (k : ℕ). take k marked) (sym (first-nodes m))
      ∙ headed_heads rs 0 no_parent marked first-full (omega (arith, first-nodes m))
      (marked_headed 0 rs no_parent (take count begins) (filled_with inner) marked whole_firsts (λ i low high. filled_at inner i (omega (arith, first-nodes m))) (λ i low high. mark i) first-full))
      (ap (drop n) here ∙ drop_at (flatten rs) rest n (first-nodes m) ∙ ap (λ (k : ℕ). drop k orderHeld) (zero-add n) ∙ ap (drop n) held
      ∙ drop_at (below n) (drop (length (below n)) (filled_with 0)) n (length-up_from n 0) ∙ ap (λ (k : ℕ). drop k (filled_with 0)) (length-up_from n 0))
      (drop_marked n no_parent (take count begins) (filled_with inner) marked (markedLong ∙ sym (filled-length inner)) whole_places mark)
      nowLong markedLong

-- ---- the last state

-- where no place is left nothing is pending
none-pending : (m : Mesh) (k : ℕ) (orderHeld heads : List ℕ) (left : ℕ) → Checked m → Holds m (state_after m k) orderHeld heads left → left ≡ 0 → (state_after m k).pending ≡ []
none-pending m k orderHeld heads left checked h z = elim (pending_cases (state_after m k).pending) [
  | inl e ↦ e
  | inr w ↦
      let next : Pending = w.0 in
      let region : Region (adjacent m) next.region = (rw w.2 at (state_balanced m k).regions).0 in
      absurd (omega (
        arith,
        h.pending,
        region.some,
        ap (λ (l : List Pending). length (flatten (reverse (regions_of l)))) w.2,
        ap length (nodes_cons next.region (regions_of w.1)),
        length-append (flatten (reverse (regions_of w.1))) next.region,
      ))
]

-- it is then the state that the steps of the book end with
steps-end : (m : Mesh) (k : ℕ) → Checked m → k ≤ m.nodes → (state_after m k).pending ≡ [] → StepsAgree (dissection_of m) (state_after m k)
unfolding state_after
steps-end m k checked few e =
    let b : State = begin (adjacent m) m.nodes in
    let s : State = state_after m k in
    let all : m.nodes ≡ k + (m.nodes - k) = omega arith in
    let same : steps m.nodes (adjacent m) (george_liu m) b ≡ s =
    ap (λ (j : ℕ). steps j (adjacent m) (george_liu m) b) all ∙ steps_add (adjacent m) (george_liu m) k (m.nodes - k) b ∙ steps-done (adjacent m) (george_liu m) (m.nodes - k) s e in
    rw same at (steps_agree (adjacent m) (george_liu m) (george_liu_takes m) m.nodes (omega (arith, checked.few)))

-- so the arrays hold the dissection
pub dissected : (m : Mesh) (k : ℕ) (orderHeld heads : List ℕ) (left : ℕ) → Checked m → Holds m (state_after m k) orderHeld heads left → left ≡ 0 → length (state_after m k).chosen ≡ k
    → Dissected m orderHeld heads left k
unfolding order
dissected m k orderHeld heads left checked h z many =
    let s : State = state_after m k in
    let e : s.pending ≡ [] = none-pending m k orderHeld heads left checked h z in
    let agree : StepsAgree (dissection_of m) s = steps-end m k checked (omega (arith, balanced_few (adjacent m) m.nodes s (state_balanced m k))) e in
    let count : length (parts (dissection_of m)) ≡ k = ap length (sym agree.chosen) ∙ many in
    record {
      order = h.order ∙ ap (λ (l : List Pending). flatten (reverse (regions_of l)) ++ flatten s.chosen) e ∙ ap (λ (l : List ℕ). l ++ flatten s.chosen) flatten_nil ∙ ap flatten agree.chosen;
      order_rest = h.order_rest;
      marks = h.marks ∙ ap (λ (l : List Pending). heads_of (reverse (regions_of l)) (reverse (parents_of l)) ++ heads_of s.chosen s.parents) e ∙ ap (λ (bs : List (List ℕ)). heads_of bs s.parents) agree.chosen;
      heads_rest = h.heads_rest;
      finished = z;
      many = sym count;
      parents = ap (λ (p : ℕ). by_number p s.parents) (sym count) ∙ agree.numbered;
      order_long = h.order_long;
      heads_long = h.heads_long;
    }
