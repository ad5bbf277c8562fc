-- The components of a set: they partition it, each is connected, no two share a node, no edge joins two where edges are mirrored, and they come by
-- smallest node.
use mathlib.Core.Path.{◌≡◌, refl, sym, ap, subst, ◌∙◌}
use mathlib.Core.Logic.{inl, inr, ◌≢◌}
use mathlib.Core.Bool.{Bool, true, false, not, cond, false≢true}
use mathlib.Core.List.{List, [], ◌∷◌, map, head_d, flatten}
use Prim.Native.Nat.{ℕ, zero, suc, ◌+◌, ◌≤◌, ◌<◌}
use native.Mathlib.Omega.{arith}
use lib.Dec.{eqb}
use lib.ListN.{length, get_or, drop}
use lib.Seq.{take-length}
use borrow.Author.Tests.{not-true, eqb-true, eq-eqb}
use Rattle.plan.specs.Lists.{keep, is_in, without, ascending}
use Rattle.plan.specs.Levels.{Graph, levels_back, levels, component, components_up_to, components}
use Rattle.plan.specs.Enough.{ComponentsWhole}
use Rattle.theory.specs.Counting.{count}
use Rattle.theory.specs.Regions.{All, Apart, Walk, stay, go, Connected, Region}
use Rattle.theory.proofs.Bools.{or_left, clash, iff_eq, cond_true, eqb_same, lt_or_le}
use Rattle.theory.proofs.Lists.{is_in-head, is_in_tail, is_in_cons, is_in-append_right, is_in-append_cases, exists-is_in, in_keep, of_keep}
use Rattle.theory.proofs.Flatten.{is_in-flatten-take, is_in-flatten-reverse, is_in-flatten-head}
use Rattle.theory.proofs.AllLists.{lists_few}
use Rattle.theory.proofs.Ascending.{ascending_tail, ascending_lt, ascending_cons, ascending-keep, head_or-is_in}
use Rattle.theory.proofs.Counting.{count-append, count_le, same-members, same_length, count-part}
use Rattle.theory.proofs.Levels.{Levelled, first, after, of_next, levelled, root-reached, reached-closed, levels-end}

-- the first node of each list
abbrev pub heads : List (List ℕ) → List ℕ
heads cs = map (λ c. head_d c 0) cs

-- where no edge leads from one of several lists to a later one, none leads from list i to list j after it
apart_places : (edge : Graph) (ls : List (List ℕ)) → Apart edge ls → (i j a b : ℕ) → i < j → j < length ls
    → is_in a (get_or ls i []) ≡ true → is_in b (get_or ls j []) ≡ true → edge a b ≡ true → ⊥
apart_places edge [] s i j a b lt h ha hb e = omega arith
apart_places edge (l ∷ ls) s i zero a b lt h ha hb e = omega arith
apart_places edge (l ∷ ls) s zero (suc j) a b lt h ha hb e =
    s.0 a b ha (ap (λ (k : List (List ℕ)). is_in b (flatten k)) (sym (take-length ls)) ∙ is_in-flatten-take ls (length ls) j b (omega arith) hb) e
apart_places edge (l ∷ ls) s (suc i) (suc j) a b lt h ha hb e = apart_places edge ls s.1 i j a b (omega arith) (omega arith) ha hb e

module _ (edge : Graph) where
  -- what the levels from v reach
  abbrev reached : List ℕ → ℕ → List ℕ
  reached nodes v = flatten (levels_back (length nodes) edge nodes v)

  -- what is of the set and reached is of the component
  pub in_component : (nodes : List ℕ) (v w : ℕ) → is_in w nodes ≡ true → is_in w (reached nodes v) ≡ true → is_in w (component edge nodes v) ≡ true
  unfolding component levels
  in_component nodes v w h r = in_keep (λ w. is_in w (flatten (levels edge nodes v))) nodes w h (is_in-flatten-reverse w (levels_back (length nodes) edge nodes v) ∙ r)

  -- and back
  pub of_component : (nodes : List ℕ) (v w : ℕ) → is_in w (component edge nodes v) ≡ true → (is_in w nodes ≡ true) × (is_in w (reached nodes v) ≡ true)
  unfolding component levels
  of_component nodes v w h =
      let k = of_keep (λ w. is_in w (flatten (levels edge nodes v))) nodes w h in
      (k.0, sym (is_in-flatten-reverse w (levels_back (length nodes) edge nodes v)) ∙ k.1)

  -- an edge of the set does not leave a component
  pub component-closed : (nodes : List ℕ) (v a b : ℕ) → is_in a (component edge nodes v) ≡ true → is_in b nodes ≡ true → edge a b ≡ true → is_in b (component edge nodes v) ≡ true
  component-closed nodes v a b ha hb e =
      in_component nodes v b hb
      (reached-closed edge nodes v (levelled edge nodes v (length nodes)) (levels-end edge nodes v) a b (of_component nodes v a ha).1 hb e)

  -- the component of the first node begins with it
  pub component-head : (v : ℕ) (nodes : List ℕ) → component edge (v ∷ nodes) v ≡ v ∷ keep (λ w. is_in w (flatten (levels edge (v ∷ nodes) v))) nodes
  unfolding component levels
  component-head v nodes =
      cond_true (is_in v (flatten (levels edge (v ∷ nodes) v))) _ _
      (is_in-flatten-reverse v (levels_back (length (v ∷ nodes)) edge (v ∷ nodes) v) ∙ root-reached edge (v ∷ nodes) v (levelled edge (v ∷ nodes) v (length (v ∷ nodes))))

  -- what is left behind it
  left_of : (v : ℕ) (nodes : List ℕ) → without (component edge (v ∷ nodes) v) nodes ≡ without (component edge (v ∷ nodes) v) (v ∷ nodes)
  left_of v nodes = hide (is_in v (component edge (v ∷ nodes) v)) (ap (is_in v) (component-head v nodes) ∙ is_in-head v (keep (λ w. is_in w (flatten (levels edge (v ∷ nodes) v))) nodes))
    where
      hide : (b : Bool) → b ≡ true → without (component edge (v ∷ nodes) v) nodes
          ≡ cond (not b) (v ∷ without (component edge (v ∷ nodes) v) nodes) (without (component edge (v ∷ nodes) v) nodes)
      hide true t = refl
      hide false t = absurd (false≢true t)

  -- the component and what is left behind it make up the set
  component-count : (v : ℕ) (nodes : List ℕ) (p : ℕ → Bool)
      → count p (component edge (v ∷ nodes) v) + count p (without (component edge (v ∷ nodes) v) nodes) ≡ count p (v ∷ nodes)
  unfolding component
  component-count v nodes p = rw (left_of v nodes) (count-part p (λ w. is_in w (flatten (levels edge (v ∷ nodes) v))) (v ∷ nodes))

  -- ---- the components together

  few-left : (v : ℕ) (nodes : List ℕ) (most : ℕ) → length (v ∷ nodes) ≤ suc most → length (without (component edge (v ∷ nodes) v) nodes) ≤ most
  few-left v nodes most l = omega (arith, count_le (λ w. not (is_in w (component edge (v ∷ nodes) v))) nodes)

  count-up_to : (most : ℕ) (nodes : List ℕ) → length nodes ≤ most → (p : ℕ → Bool) → count p (flatten (components_up_to most edge nodes)) ≡ count p nodes
  unfolding components_up_to flatten
  count-up_to zero nodes l p = omega (arith, count_le p nodes)
  count-up_to (suc most) [] l p = refl
  count-up_to (suc most) (v ∷ nodes) l p =
      let c : List ℕ = component edge (v ∷ nodes) v in
      omega (
        arith,
        count-append p c (flatten (components_up_to most edge (without c nodes))),
        count-up_to most (without c nodes) (few-left v nodes most l) p,
        component-count v nodes p,
      )

  -- a relation that leaves no component inside its set leads from no component to a later one
  apart-up_to : (r : Graph)
      → ((nodes : List ℕ) (v a b : ℕ) → is_in a (component edge nodes v) ≡ true → is_in b nodes ≡ true → r a b ≡ true → is_in b (component edge nodes v) ≡ true)
      → (most : ℕ) (nodes : List ℕ) → length nodes ≤ most → Apart r (components_up_to most edge nodes)
  unfolding components_up_to
  apart-up_to r closed zero nodes l = tt
  apart-up_to r closed (suc most) [] l = tt
  apart-up_to r closed (suc most) (v ∷ nodes) l =
      let c : List ℕ = component edge (v ∷ nodes) v in
      let few : length (without c nodes) ≤ most = few-left v nodes most l in (
        (λ a b ha hb e.
            let k = of_keep (λ w. not (is_in w c)) nodes b (same-members (flatten (components_up_to most edge (without c nodes))) (without c nodes) (count-up_to most (without c nodes) few) b hb) in
            clash (is_in b c) (closed (v ∷ nodes) v a b ha (is_in_tail b v nodes k.0) e) (not-true (is_in b c) k.1)),
        apart-up_to r closed most (without c nodes) few,
      )

  -- what is true of the component of a set's first node, whatever the set, is true of every component
  each-up_to : (P : List ℕ → Type 0) → ((v : ℕ) (nodes : List ℕ) → P (component edge (v ∷ nodes) v)) → (most : ℕ) (nodes : List ℕ) → All P (components_up_to most edge nodes)
  unfolding components_up_to
  each-up_to P h zero nodes = tt
  each-up_to P h (suc most) [] = tt
  each-up_to P h (suc most) (v ∷ nodes) = (h v nodes, each-up_to P h most (without (component edge (v ∷ nodes) v) nodes))

  -- components partition a set: flattened they hold each of its nodes, as often as the set does
  pub components-count : (nodes : List ℕ) (p : ℕ → Bool) → count p (flatten (components edge nodes)) ≡ count p nodes
  unfolding components
  components-count nodes p = count-up_to (length nodes) nodes (omega arith) p

  -- the empty set has no component
  none-up_to : (most : ℕ) → components_up_to most edge [] ≡ []
  unfolding components_up_to
  none-up_to zero = refl
  none-up_to (suc most) = refl

  -- two counts that are large enough give the same components
  same-up_to : (most more : ℕ) (nodes : List ℕ) → length nodes ≤ most → length nodes ≤ more → components_up_to most edge nodes ≡ components_up_to more edge nodes
  unfolding components_up_to
  same-up_to zero more [] l k = sym (none-up_to more)
  same-up_to zero more (v ∷ nodes) l k = absurd (omega arith)
  same-up_to (suc most) more [] l k = sym (none-up_to more)
  same-up_to (suc most) zero (v ∷ nodes) l k = absurd (omega arith)
  same-up_to (suc most) (suc more) (v ∷ nodes) l k =
      let c : List ℕ = component edge (v ∷ nodes) v in
      ap (λ (cs : List (List ℕ)). c ∷ cs) (same-up_to most more (without c nodes) (few-left v nodes most l) (few-left v nodes more k))

  -- any count from the number of nodes on gives the same components
  pub components-same : (most : ℕ) (nodes : List ℕ) → length nodes ≤ most → components_up_to most edge nodes ≡ components edge nodes
  unfolding components
  components-same most nodes l = same-up_to most (length nodes) nodes l (omega arith)

  -- the empty set has none
  pub components-none : components edge [] ≡ []
  unfolding components
  components-none = none-up_to 0

  -- the first component is that of the first node, and the others are the components of what is left
  components_cons : (v : ℕ) (nodes : List ℕ)
      → components edge (v ∷ nodes) ≡ component edge (v ∷ nodes) v ∷ components edge (without (component edge (v ∷ nodes) v) (v ∷ nodes))
  unfolding components components_up_to
  components_cons v nodes =
      let c : List ℕ = component edge (v ∷ nodes) v in
      ap (λ (cs : List (List ℕ)). c ∷ cs)
      (components-same (length nodes) (without c nodes) (few-left v nodes (length nodes) (omega arith)) ∙ ap (components edge) (left_of v nodes))

  -- the same of a set that begins with v
  pub components-next : (v : ℕ) (nodes : List ℕ) → nodes ≡ v ∷ drop 1 nodes
      → components edge nodes ≡ component edge nodes v ∷ components edge (without (component edge nodes v) nodes)
  components-next v nodes e =
      subst (λ (l : List ℕ). components edge l ≡ component edge l v ∷ components edge (without (component edge l v) l)) (sym e) (components_cons v (drop 1 nodes))

  -- together they hold just the nodes of the set
  pub in_components : (nodes : List ℕ) (v : ℕ) → is_in v (flatten (components edge nodes)) ≡ is_in v nodes
  in_components nodes v = iff_eq _ _
      (same-members (flatten (components edge nodes)) nodes (components-count nodes) v)
      (same-members nodes (flatten (components edge nodes)) (λ p. sym (components-count nodes p)) v)

  -- a node of one of them is a node of the set
  pub component-inside : (nodes : List ℕ) (c v : ℕ) → c < length (components edge nodes) → is_in v (get_or (components edge nodes) c []) ≡ true → is_in v nodes ≡ true
  component-inside nodes c v lt m =
      sym (in_components nodes v)
      ∙ ap (λ (ls : List (List ℕ)). is_in v (flatten ls)) (sym (take-length (components edge nodes)))
      ∙ is_in-flatten-take (components edge nodes) (length (components edge nodes)) c v lt m

  -- no edge leads from one of them to a later one
  pub components-apart : (nodes : List ℕ) → Apart edge (components edge nodes)
  unfolding components
  components-apart nodes = apart-up_to edge component-closed (length nodes) nodes (omega arith)

  -- no node of one of them equals a node of a later one
  components_distinct : (nodes : List ℕ) → Apart eqb (components edge nodes)
  unfolding components
  components_distinct nodes =
      apart-up_to eqb (λ nodes v a b ha hb e. ap (λ (x : ℕ). is_in x (component edge nodes v)) (sym (eqb-true a b e)) ∙ ha) (length nodes) nodes (omega arith)

  -- two components that share a node are one
  pub components_disjoint : (nodes : List ℕ) (i j v : ℕ) → i < length (components edge nodes) → j < length (components edge nodes)
      → is_in v (get_or (components edge nodes) i []) ≡ true → is_in v (get_or (components edge nodes) j []) ≡ true → i ≡ j
  components_disjoint nodes i j v hi hj a b = elim (lt_or_le i j) [
    | inl l ↦ absurd (apart_places eqb (components edge nodes) (components_distinct nodes) i j v v l hj a b (eqb_same v))
    | inr l ↦ elim (lt_or_le j i) [
      | inl m ↦ absurd (apart_places eqb (components edge nodes) (components_distinct nodes) j i v v m hi b a (eqb_same v))
      | inr m ↦ omega arith
    ]
  ]

  -- where each edge is mirrored, no edge joins two components, in either direction
  pub components_unjoined : ((a b : ℕ) → edge a b ≡ true → edge b a ≡ true) → (nodes : List ℕ) (i j a b : ℕ)
      → i < length (components edge nodes) → j < length (components edge nodes) → i ≢ j
      → is_in a (get_or (components edge nodes) i []) ≡ true → is_in b (get_or (components edge nodes) j []) ≡ true → edge a b ≡ true → ⊥
  components_unjoined mirror nodes i j a b hi hj ne ha hb e = elim (lt_or_le i j) [
    | inl l ↦ apart_places edge (components edge nodes) (components-apart nodes) i j a b l hj ha hb e
    | inr l ↦ apart_places edge (components edge nodes) (components-apart nodes) j i b a (omega arith) hi hb ha (mirror a b e)
  ]

  -- each has a node
  pub components-some : (nodes : List ℕ) → All (λ r. 0 < length r) (components edge nodes)
  unfolding components
  components-some nodes = each-up_to (λ r. 0 < length r) (λ v rest. rw (component-head v rest) (omega arith)) (length nodes) nodes

  -- so there are no more of them than nodes
  pub components-few : (nodes : List ℕ) → length (components edge nodes) ≤ length nodes
  components-few nodes =
      omega (arith, lists_few (components edge nodes) (components-some nodes), same_length (flatten (components edge nodes)) nodes (components-count nodes))

  -- ---- connected

  -- a node that the levels hold is reached from the root by a path through nodes of the set that they hold
  reached_walk : (nodes : List ℕ) (v : ℕ) (c : List ℕ) {ls : List (List ℕ)} → Levelled edge nodes v ls
      → ((w : ℕ) → is_in w nodes ≡ true → is_in w (flatten ls) ≡ true → is_in w c ≡ true) → (w : ℕ) → is_in w (flatten ls) ≡ true → Walk edge c v w
  unfolding flatten
  reached_walk nodes v c first f w h = elim (is_in-append_cases w (v ∷ []) [] h) [
    | inl s ↦ elim (is_in_cons w v [] s) [ inl e ↦ subst (λ (x : ℕ). Walk edge c v x) (sym e) stay | inr e ↦ absurd (false≢true e) ]
    | inr s ↦ absurd (false≢true s)
  ]
  reached_walk nodes v c (after {l = l} {ls = ls} h e some) f w m =
      let earlier : (x : ℕ) → is_in x (flatten ls) ≡ true → Walk edge c v x = reached_walk nodes v c h (λ x i t. f x i (is_in-append_right x l (flatten ls) t)) in
      elim (is_in-append_cases w l (flatten ls) m) [
        | inl s ↦
            let n = of_next edge nodes ls w (subst (λ (x : List ℕ). is_in w x ≡ true) e s) in
            let u = exists-is_in (λ u. edge u w) (head_d ls []) n.near in
            go (earlier u.0 (is_in-flatten-head ls u.0 u.1)) u.2 (f w n.inside m)
        | inr s ↦ earlier w s
      ]

  -- a component is connected: from the node that it is the component of, a path inside it leads to each of its nodes
  pub component_walk : (nodes : List ℕ) (v w : ℕ) → is_in w (component edge nodes v) ≡ true → Walk edge (component edge nodes v) v w
  component_walk nodes v w h =
      reached_walk nodes v (component edge nodes v) (levelled edge nodes v (length nodes)) (λ x i t. in_component nodes v x i t) w (of_component nodes v w h).1

  -- a way inside the set does not leave a component
  walk_on : (nodes : List ℕ) (v a w : ℕ) → is_in a (component edge nodes v) ≡ true → Walk edge nodes a w → is_in w (component edge nodes v) ≡ true
  walk_on nodes v a w h stay = h
  walk_on nodes v a w h (go {b = b} p e i) = component-closed nodes v b w (walk_on nodes v a b h p) i e

  -- so the component of a node holds every node that a way inside the set leads to from that node
  pub walk_component : (nodes : List ℕ) (v w : ℕ) → is_in v nodes ≡ true → Walk edge nodes v w → is_in w (component edge nodes v) ≡ true
  walk_component nodes v w h p = walk_on nodes v v w (in_component nodes v v h (root-reached edge nodes v (levelled edge nodes v (length nodes)))) p

  -- a way that begins in the set ends in it
  walk_inside : (nodes : List ℕ) (a b : ℕ) → is_in a nodes ≡ true → Walk edge nodes a b → is_in b nodes ≡ true
  walk_inside nodes a b h stay = h
  walk_inside nodes a b h (go p e i) = i

  -- where each edge is mirrored, a way inside the set that ends in a component begins in it
  walk_back : ((a b : ℕ) → edge a b ≡ true → edge b a ≡ true) → (nodes : List ℕ) (v a b : ℕ) → is_in a nodes ≡ true → Walk edge nodes a b
      → is_in b (component edge nodes v) ≡ true → is_in a (component edge nodes v) ≡ true
  walk_back mirror nodes v a b h stay m = m
  walk_back mirror nodes v a c h (go {b = b} p e i) m =
      walk_back mirror nodes v a b h p (component-closed nodes v c b m (walk_inside nodes a b h p) (mirror b c e))

  -- so the component of any node of a connected set is the whole set
  pub component-whole : ((a b : ℕ) → edge a b ≡ true → edge b a ≡ true) → (nodes : List ℕ) → Connected edge nodes
      → (v w : ℕ) → is_in v nodes ≡ true → is_in w nodes ≡ true → is_in w (component edge nodes v) ≡ true
  component-whole mirror nodes connected v w hv hw =
      let first : ℕ = head_d nodes 0 in
      walk_on nodes v first w
      (walk_back mirror nodes v first v (head_or-is_in 0 nodes v hv) (connected v hv) (walk_component nodes v v hv stay)) (connected w hw)

  connected-first : (v : ℕ) (nodes : List ℕ) → Connected edge (component edge (v ∷ nodes) v)
  unfolding head_d
  connected-first v nodes w h =
      let e : head_d (component edge (v ∷ nodes) v) 0 ≡ v = ap (λ (l : List ℕ). head_d l 0) (component-head v nodes) in
      subst (λ (x : ℕ). Walk edge (component edge (v ∷ nodes) v) x w) (sym e) (component_walk (v ∷ nodes) v w h)

  -- each component is connected: from its first node a path inside it leads to each of its nodes
  pub components-connected : (nodes : List ℕ) → All (Connected edge) (components edge nodes)
  unfolding components
  components-connected nodes = each-up_to (Connected edge) connected-first (length nodes) nodes

  -- ---- by smallest node: each ascends, and their first nodes do

  ascending-up_to : (most : ℕ) (nodes : List ℕ) → ascending nodes ≡ true → All (λ c. ascending c ≡ true) (components_up_to most edge nodes)
  unfolding components_up_to component
  ascending-up_to zero nodes h = tt
  ascending-up_to (suc most) [] h = tt
  ascending-up_to (suc most) (v ∷ nodes) h =
      let c : List ℕ = component edge (v ∷ nodes) v in (
        ascending-keep (λ w. is_in w (flatten (levels edge (v ∷ nodes) v))) (v ∷ nodes) h,
        ascending-up_to most (without c nodes) (ascending-keep (λ w. not (is_in w c)) nodes (ascending_tail v nodes h)),
      )

  -- each component of an ascending set ascends
  pub components-ascending : (nodes : List ℕ) → ascending nodes ≡ true → All (λ c. ascending c ≡ true) (components edge nodes)
  unfolding components
  components-ascending nodes h = ascending-up_to (length nodes) nodes h

  heads_inside : (most : ℕ) (nodes : List ℕ) (x : ℕ) → is_in x (heads (components_up_to most edge nodes)) ≡ true → is_in x nodes ≡ true
  unfolding components_up_to head_d
  heads_inside zero nodes x h = absurd (false≢true h)
  heads_inside (suc most) [] x h = absurd (false≢true h)
  heads_inside (suc most) (v ∷ nodes) x h =
      let c : List ℕ = component edge (v ∷ nodes) v in
      elim (is_in_cons x (head_d c 0) (heads (components_up_to most edge (without c nodes))) h) [
        | inl e ↦ or_left (eqb x v) _ (eq-eqb x v (e ∙ ap (λ (l : List ℕ). head_d l 0) (component-head v nodes)))
        | inr m ↦ is_in_tail x v nodes (of_keep (λ w. not (is_in w c)) nodes x (heads_inside most (without c nodes) x m)).0
      ]

  heads_up_to : (most : ℕ) (nodes : List ℕ) → ascending nodes ≡ true → ascending (heads (components_up_to most edge nodes)) ≡ true
  unfolding components_up_to head_d
  heads_up_to zero nodes h = refl
  heads_up_to (suc most) [] h = refl
  heads_up_to (suc most) (v ∷ nodes) h =
      let c : List ℕ = component edge (v ∷ nodes) v in
      let e : head_d c 0 ≡ v = ap (λ (l : List ℕ). head_d l 0) (component-head v nodes) in
      ascending_cons (head_d c 0) (heads (components_up_to most edge (without c nodes)))
      (heads_up_to most (without c nodes) (ascending-keep (λ w. not (is_in w c)) nodes (ascending_tail v nodes h)))
      (λ y t. omega (arith, e, ascending_lt v nodes h y (of_keep (λ w. not (is_in w c)) nodes y (heads_inside most (without c nodes) y t)).0))

  -- "numbered by smallest node": the first nodes of the components of an ascending set, which are their smallest, ascend
  pub components_by_smallest : (nodes : List ℕ) → ascending nodes ≡ true → ascending (heads (components edge nodes)) ≡ true
  unfolding components
  components_by_smallest nodes h = heads_up_to (length nodes) nodes h

  -- lists that have a node, ascend and are connected are regions
  regions-up_to : (cs : List (List ℕ)) → All (λ c. 0 < length c) cs → All (λ c. ascending c ≡ true) cs → All (Connected edge) cs → All (Region edge) cs
  regions-up_to [] s a c = tt
  regions-up_to (l ∷ ls) s a c = (record { some = s.0; ascends = a.0; connected = c.0 }, regions-up_to ls s.1 a.1 c.1)

  -- so the components of an ascending set are regions
  pub components-regions : (nodes : List ℕ) → ascending nodes ≡ true → All (Region edge) (components edge nodes)
  components-regions nodes h = regions-up_to (components edge nodes) (components-some nodes) (components-ascending nodes h) (components-connected nodes)

-- the components together hold every node, as often as the set does
pub components-whole : ComponentsWhole
components-whole edge nodes v = components-count edge nodes (eqb v)
