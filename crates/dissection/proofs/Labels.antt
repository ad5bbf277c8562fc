-- The connected components of the fresh nodes, found one after the other along an ascending list of nodes.
use mathlib.Core.Path.{◌≡◌, refl, sym, ap, ◌∙◌}
use mathlib.Core.Logic.{◌⊎◌, inl, inr}
use mathlib.Core.Bool.{Bool, true, false, cond, ◌||◌, false≢true}
use mathlib.Core.List.{List, [], ◌∷◌, ◌++◌, flatten}
use Prim.Native.Nat.{ℕ, suc, ◌+◌, ◌≤◌, ◌<◌}
use native.Mathlib.Numerals.{add-one}
use native.Mathlib.Omega.{arith}
use lib.Dec.{eqb}
use lib.ListN.{length, take, drop, get_or, set, length-drop}
use lib.Seq.{length-take-le, get_or-take, take_all, get_or-set_same, get_or-set_other, ext_get_or}
use borrow.Author.Tests.{eqb-true, eqb-false, eq-eqb}
use Rattle.plan.specs.Lists.{keep, is_in, without, ascending}
use Rattle.plan.specs.Levels.{Graph, component, components}
use Rattle.theory.specs.Regions.{stay}
use Rattle.theory.specs.Places.{begin_of}
use Rattle.theory.proofs.Bools.{or_cases, or_false_left, or_false_right, tested, clash, refuted, iff_eq, lt_or_le}
use Rattle.theory.proofs.Lists.{is_in-append, is_in-get_or, is_in-none, exists_more, in_keep, of_keep, drop-first}
use Rattle.theory.proofs.Flatten.{flatten_more, of_flatten}
use Rattle.theory.proofs.AllLists.{all_get_d}
use Rattle.theory.proofs.Ascending.{first_least, back_least, ascending-keep, ascending-kept, ascending_ext}
use Rattle.theory.proofs.Counting.{same_length}
use Rattle.theory.proofs.Compressed.{lengths_more, lengths-within}
use Rattle.theory.proofs.LevelSets.{levels_cover}
use Rattle.theory.proofs.Components.{of_component, components-count, components-none, components-next, in_components, component-inside, components-few, walk_component, components-ascending}
use Rattle.dissection.specs.Numbers.{fresh, fresh_of, Within, Only, Renumbered, grouped, Walked, Skipped, Taken, Labelled}
use Rattle.dissection.proofs.Fresh.{not_fresh, in_fresh, of_fresh, fresh-few, fresh-without}
use Rattle.dissection.proofs.Renumbering.{renumbered_in, renumbered_out}
use Rattle.dissection.proofs.Grouped.{has_number, grouped-length, group_at}

-- ---- one component

module _ {n : ℕ} {edge : Graph} {root : ℕ} {old mid queue : List ℕ} {last widest reached : ℕ} (w : Walked n edge (fresh_of n old) root old mid queue last widest reached) where
  -- the nodes that a walk reaches are nodes
  pub walked-inside : (v : ℕ) → is_in v (take reached queue) ≡ true → v < n
  walked-inside v m = (of_fresh n old v (of_component edge (fresh_of n old) root v (sym (w.members v) ∙ m)).0).0

  -- where those that a walk has reached get number x, the root's component has got it, and every other node the number that it had before the walk
  pub walked_taken : (x : ℕ) (new : List ℕ) → root < n → get_or old root 0 ≡ fresh → Renumbered (λ _. x) (take reached queue) mid new → Renumbered (λ _. x) (component edge (fresh_of n old) root) old new
  walked_taken x new lt e f v = f v ∙ ap (λ (b : Bool). cond b x (get_or mid v 0)) (w.members v) ∙ elim (tested (is_in v (component edge (fresh_of n old) root))) [
    | inl t ↦ rw t
    | inr t ↦ rw t (w.numbered.others v (levels_cover edge (fresh_of n old) root (in_fresh n old root lt e) v ∙ t))
  ]

-- ---- the loop

-- a node among the first i + 1 is among the first i, or it is node i
of_front : (nodes : List ℕ) (i v : ℕ) → i < length nodes → is_in v (take (i + 1) nodes) ≡ true → (is_in v (take i nodes) ≡ true) ⊎ (v ≡ get_or nodes i 0)
of_front nodes i v lt m = elim (or_cases (is_in v (take i nodes)) (eqb v (get_or nodes i 0)) (sym (exists_more (eqb v) nodes i lt) ∙ m)) [
  | inl t ↦ inl t
  | inr t ↦ inr (eqb-true v (get_or nodes i 0) t)
]

-- what is asked: an ascending list that holds the fresh nodes; the numbers of its other nodes are no labels
pub record Labelable (n : ℕ) (nodes old : List ℕ) : Type 0 where
  pub small : n < fresh
  pub within : Within n nodes
  pub whole : (v : ℕ) → is_in v (fresh_of n old) ≡ true → is_in v nodes ≡ true
  pub unlabelled : (v : ℕ) → is_in v nodes ≡ true → n ≤ get_or old v 0

-- the components that are to be found
abbrev all : ℕ → Graph → List ℕ → List (List ℕ)
all n edge old = components edge (fresh_of n old)

-- the first i nodes have been tried: the first `count` components are labelled, the others are the components of the nodes that are still fresh,
-- and none of the nodes tried is
pub record Labelling (n : ℕ) (edge : Graph) (nodes : List ℕ) (at : ℕ) (old : List ℕ) (i : ℕ) (numbers begins : List ℕ) (count : ℕ) : Type 0 where
  pub few : count ≤ length (all n edge old)
  pub left : drop count (all n edge old) ≡ components edge (fresh_of n numbers)
  pub own : (c v : ℕ) → c < count → is_in v (get_or (all n edge old) c []) ≡ true → get_or numbers v 0 ≡ c
  pub others : (v : ℕ) → is_in v (flatten (take count (all n edge old))) ≡ false → get_or numbers v 0 ≡ get_or old v 0
  pub begin : (c : ℕ) → c ≤ count → get_or begins c 0 ≡ begin_of at (all n edge old) c
  pub tried : (v : ℕ) → is_in v (take i nodes) ≡ true → eqb (get_or numbers v 0) fresh ≡ false

-- nothing yet
pub labelling_none : (n : ℕ) (edge : Graph) (nodes : List ℕ) (at : ℕ) (old begins : List ℕ) → 0 < length begins → Labelling n edge nodes at old 0 old (set begins 0 at) 0
labelling_none n edge nodes at old begins lt =
    record {
      few = omega arith;
      left = refl;
      own = λ c v h m. absurd (omega arith);
      others = λ v m. refl;
      begin = λ c h.
          let e : c ≡ 0 = omega arith in
          rw e (omega (arith, get_or-set_same begins 0 at 0 lt));
      tried = λ v m. absurd (false≢true m);
    }

module _ {n : ℕ} {edge : Graph} {nodes : List ℕ} {at : ℕ} {old : List ℕ} {i : ℕ} {numbers begins : List ℕ} {count : ℕ}
    (h : Labelable n nodes old) (r : Labelling n edge nodes at old i numbers begins count) where
  -- no more components were found than there are nodes
  labelling_few : count ≤ n
  labelling_few = omega (arith, r.few, components-few edge (fresh_of n old), fresh-few n old)

  -- a node that is fresh now was so before
  still_fresh : (v : ℕ) → is_in v (fresh_of n numbers) ≡ true → is_in v (fresh_of n old) ≡ true
  still_fresh v m =
      let f = of_fresh n numbers v m in
      elim (tested (is_in v (flatten (take count (all n edge old))))) [
        | inl t ↦
            let k = of_flatten (take count (all n edge old)) v t in
            let lt : k.0 < count = omega (arith, k.1, length-take-le count (all n edge old) r.few) in
            absurd (omega (arith, h.small, labelling_few, lt, f.1, r.own k.0 v lt (ap (is_in v) (sym (get_or-take count (all n edge old) k.0 [] lt)) ∙ k.2)))
        | inr t ↦ in_fresh n old v f.0 (sym (r.others v t) ∙ f.1)
      ]

  -- so it stands in the list, and not among the nodes tried
  not_tried : (v : ℕ) → is_in v (fresh_of n numbers) ≡ true → (is_in v nodes ≡ true) × (is_in v (take i nodes) ≡ false)
  not_tried v m = (
    h.whole v (still_fresh v m),
    refuted (is_in v (take i nodes)) (λ t. eqb-false (get_or numbers v 0) fresh (r.tried v t) (of_fresh n numbers v m).1),
  )

  -- the next node, where it is fresh, is the first of the fresh nodes
  next-first : i < length nodes → get_or numbers (get_or nodes i 0) 0 ≡ fresh → fresh_of n numbers ≡ get_or nodes i 0 ∷ drop 1 (fresh_of n numbers)
  next-first lt e =
      first_least (fresh_of n numbers) (get_or nodes i 0) (ascending-kept (λ v. eqb (get_or numbers v 0) fresh) n)
      (in_fresh n numbers (get_or nodes i 0) (h.within.inside (get_or nodes i 0) (is_in-get_or nodes i 0 lt)) e)
      (λ w m.
      let k = not_tried w m in
      back_least nodes h.within.ascends i w lt k.0 k.1)

  -- so its component is the next one, and the others are those of the nodes left
  next-component : i < length nodes → get_or numbers (get_or nodes i 0) 0 ≡ fresh →
      let c : List ℕ = component edge (fresh_of n numbers) (get_or nodes i 0) in
      (count < length (all n edge old)) × (get_or (all n edge old) count [] ≡ c) × (drop (suc count) (all n edge old) ≡ components edge (without c (fresh_of n numbers)))
  next-component lt e =
      drop-first (all n edge old) count [] _ _ (r.left ∙ components-next edge (get_or nodes i 0) (fresh_of n numbers) (next-first lt e))

  -- there is room for one more
  pub labelling_room : i < length nodes → get_or numbers (get_or nodes i 0) 0 ≡ fresh → count < n
  labelling_room lt e = omega (arith, (next-component lt e).0, components-few edge (fresh_of n old), fresh-few n old)

  -- the last place noted lies at most n behind the first
  pub labelling_end : get_or begins count 0 ≤ at + n
  labelling_end =
      omega (
        arith,
        r.begin count (omega arith),
        lengths-within (all n edge old) count,
        same_length (flatten (all n edge old)) (fresh_of n old) (components-count edge (fresh_of n old)),
        fresh-few n old,
      )

  -- one more node, which is not fresh
  labelling_skip : i < length nodes → eqb (get_or numbers (get_or nodes i 0) 0) fresh ≡ false → Labelling n edge nodes at old (i + 1) numbers begins count
  labelling_skip lt f = record { few = r.few; left = r.left; own = r.own; others = r.others; begin = r.begin; tried = each }
    where
      each : (v : ℕ) → is_in v (take (i + 1) nodes) ≡ true → eqb (get_or numbers v 0) fresh ≡ false
      each v m = elim (of_front nodes i v lt m) [
        | inl t ↦ r.tried v t
        | inr e ↦ ap (λ (w : ℕ). eqb (get_or numbers w 0) fresh) e ∙ f
      ]

  -- one more node, which is fresh
  labelling_take : (new begins₁ : List ℕ) (after : ℕ) → i < length nodes → n < length begins → Taken n edge (get_or nodes i 0) numbers new begins begins₁ count after
      → Labelling n edge nodes at old (i + 1) new begins₁ (count + 1)
  labelling_take new begins₁ after lt room t =
      record {
        few = omega (arith, next.0);
        left = rw add-one (next.2 ∙ ap (components edge) (sym (fresh-without n count taken numbers new small t.numbers)));
        own = own;
        others = others;
        begin = begin;
        tried = each;
      }
    where
      taken : List ℕ
      taken = component edge (fresh_of n numbers) (get_or nodes i 0)

      small : count < fresh
      small = omega (arith, h.small, labelling_few)

      next : (count < length (all n edge old)) × (get_or (all n edge old) count [] ≡ taken) × (drop (suc count) (all n edge old) ≡ components edge (without taken (fresh_of n numbers)))
      next = next-component lt t.unreached

      first : is_in (get_or nodes i 0) taken ≡ true
      first =
          walk_component edge (fresh_of n numbers) (get_or nodes i 0) (get_or nodes i 0)
          (in_fresh n numbers (get_or nodes i 0) (h.within.inside (get_or nodes i 0) (is_in-get_or nodes i 0 lt)) t.unreached) stay

      own : (c v : ℕ) → c < count + 1 → is_in v (get_or (all n edge old) c []) ≡ true → get_or new v 0 ≡ c
      own c v l m = elim (lt_or_le c count) [
        | inl k ↦
            let e : get_or numbers v 0 ≡ c = r.own c v k m in
            renumbered_out (λ _. count) taken numbers new t.numbers v
            (refuted (is_in v taken) (λ u. omega (arith, e, (of_fresh n numbers v (of_component edge (fresh_of n numbers) (get_or nodes i 0) v u).0).1, small)))
            ∙ e
        | inr k ↦
            let e : c ≡ count = omega arith in
            let u : is_in v taken ≡ true = ap (is_in v) (sym (ap (λ (j : ℕ). get_or (all n edge old) j []) e ∙ next.1)) ∙ m in
            renumbered_in (λ _. count) taken numbers new t.numbers v u ∙ sym e
      ]

      others : (v : ℕ) → is_in v (flatten (take (count + 1) (all n edge old))) ≡ false → get_or new v 0 ≡ get_or old v 0
      others v m =
          let e : (is_in v (flatten (take count (all n edge old))) || is_in v taken) ≡ false =
          sym (is_in-append v (flatten (take count (all n edge old))) taken)
          ∙ ap (is_in v) (sym (flatten_more (all n edge old) count next.0 ∙ ap (λ (l : List ℕ). flatten (take count (all n edge old)) ++ l) next.1))
          ∙ m in
          renumbered_out (λ _. count) taken numbers new t.numbers v (or_false_right (is_in v (flatten (take count (all n edge old)))) (is_in v taken) e)
          ∙ r.others v (or_false_left (is_in v (flatten (take count (all n edge old)))) (is_in v taken) e)

      begin : (c : ℕ) → c ≤ count + 1 → get_or begins₁ c 0 ≡ begin_of at (all n edge old) c
      begin c l = elim (lt_or_le count c) [
        | inl k ↦
            let e : c ≡ count + 1 = omega arith in
            rw (e, t.begins)
            (get_or-set_same begins (count + 1) (get_or begins count 0 + length taken) 0 (omega (arith, labelling_room lt t.unreached))
            ∙ omega (arith, r.begin count (omega arith), lengths_more (all n edge old) count, ap length next.1))
        | inr k ↦ rw t.begins (get_or-set_other begins (count + 1) c (get_or begins count 0 + length taken) 0 (λ e. omega arith) ∙ r.begin c k)
      ]

      each : (v : ℕ) → is_in v (take (i + 1) nodes) ≡ true → eqb (get_or new v 0) fresh ≡ false
      each v m = elim (tested (is_in v taken)) [
        | inl u ↦ ap (λ (x : ℕ). eqb x fresh) (renumbered_in (λ _. count) taken numbers new t.numbers v u) ∙ not_fresh count small
        | inr u ↦
            ap (λ (x : ℕ). eqb x fresh) (renumbered_out (λ _. count) taken numbers new t.numbers v u)
            ∙ elim (of_front nodes i v lt m) [
              | inl w ↦ r.tried v w
              | inr e ↦ clash (is_in v taken) (ap (λ (x : ℕ). is_in x taken) e ∙ first) u
            ]
      ]

  -- one more node
  pub labelling_more : (new begins₁ : List ℕ) (after : ℕ) → i < length nodes → n < length begins
      → Skipped (get_or nodes i 0) numbers new begins begins₁ count after ⊎ Taken n edge (get_or nodes i 0) numbers new begins begins₁ count after
      → Labelling n edge nodes at old (i + 1) new begins₁ after
  labelling_more new begins₁ after lt room (inl t) = rw (t.numbers, t.begins, t.total) (labelling_skip lt t.reached)
  labelling_more new begins₁ after lt room (inr t) = rw t.total (labelling_take new begins₁ after lt room t)

  -- all nodes have been tried: none is fresh, so all components are labelled
  all_found : length nodes ≤ i → count ≡ length (all n edge old)
  all_found le =
      let none : fresh_of n numbers ≡ [] = is_in-none (fresh_of n numbers) (λ v m.
      let k = not_tried v m in
      clash (is_in v nodes) k.0 (ap (is_in v) (sym (take_all i nodes le)) ∙ k.1)) in
      omega (arith, r.few, length-drop count (all n edge old), ap length (r.left ∙ ap (components edge) none ∙ components-none edge))

  -- a node that was fresh has the number of its component
  found : length nodes ≤ i → (v : ℕ) → is_in v (fresh_of n old) ≡ true → (get_or numbers v 0 < count) × (is_in v (get_or (all n edge old) (get_or numbers v 0) []) ≡ true)
  found le v m =
      let k = of_flatten (all n edge old) v (in_components edge (fresh_of n old) v ∙ m) in
      let lt : k.0 < count = omega (arith, k.1, all_found le) in
      let e : get_or numbers v 0 ≡ k.0 = r.own k.0 v lt k.2 in
      rw e (lt, k.2)

  -- a node that was not has the number that it had
  kept : length nodes ≤ i → (v : ℕ) → is_in v (fresh_of n old) ≡ false → get_or numbers v 0 ≡ get_or old v 0
  kept le v m =
      r.others v (ap (λ (ls : List (List ℕ)). is_in v (flatten ls)) (take_all count (all n edge old) (omega (arith, all_found le))) ∙ in_components edge (fresh_of n old) v ∙ m)

  -- the nodes with number c are component c
  labelled-component : length nodes ≤ i → (c : ℕ) → c < count → keep (has_number numbers c) nodes ≡ get_or (all n edge old) c []
  labelled-component le c lt =
      ascending_ext (keep (has_number numbers c) nodes) (get_or (all n edge old) c [])
      (ascending-keep (has_number numbers c) nodes h.within.ascends)
      (all_get_d (λ l. ascending l ≡ true) (all n edge old) (components-ascending edge (fresh_of n old) (ascending-kept (λ v. eqb (get_or old v 0) fresh) n)) c (omega (arith, all_found le)))
      (λ v. iff_eq _ _ (into v) (outof v))
    where
      into : (v : ℕ) → is_in v (keep (has_number numbers c) nodes) ≡ true → is_in v (get_or (all n edge old) c []) ≡ true
      into v m =
          let k = of_keep (has_number numbers c) nodes v m in
          let e : get_or numbers v 0 ≡ c = eqb-true (get_or numbers v 0) c k.1 in
          elim (tested (is_in v (fresh_of n old))) [
            | inl t ↦ rw e at (found le v t).1
            | inr t ↦ absurd (omega (arith, e, kept le v t, h.unlabelled v k.0, labelling_few))
          ]

      outof : (v : ℕ) → is_in v (get_or (all n edge old) c []) ≡ true → is_in v (keep (has_number numbers c) nodes) ≡ true
      outof v m =
          in_keep (has_number numbers c) nodes v (h.whole v (component-inside edge (fresh_of n old) c v (omega (arith, all_found le)) m))
          (eq-eqb (get_or numbers v 0) c (r.own c v lt m))

  -- all of them
  pub labelling_all : length nodes ≤ i → Labelled n edge nodes at old numbers begins count
  labelling_all le =
      record {
        groups =
            ext_get_or [] (grouped count numbers nodes) (all n edge old) (grouped-length count numbers nodes ∙ all_found le)
            (λ c lt.
            let k : c < count = omega (arith, grouped-length count numbers nodes) in
            group_at count numbers nodes c k ∙ labelled-component le c k);
        begin = λ c k. r.begin c (omega (arith, all_found le));
        others = kept le;
        done = λ v m. (found le v m).0;
        many = all_found le;
        few = labelling_few;
      }

-- where the fresh nodes all stand in the list, the nodes outside stay outside
pub labelled-only : {n : ℕ} {edge : Graph} {nodes : List ℕ} {at : ℕ} {old new begins : List ℕ} {count : ℕ} → Labelled n edge nodes at old new begins count
    → ((v : ℕ) → is_in v (fresh_of n old) ≡ true → is_in v nodes ≡ true) → Only n nodes old → Only n nodes new
labelled-only {nodes = nodes} l whole only v lt o = l.others v (refuted _ (λ t. clash (is_in v nodes) (whole v t) o)) ∙ only v lt o
