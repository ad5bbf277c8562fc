-- The clique rule: a region that George and Liu's choice leaves uncut is a clique, and so is every part of the dissection that has none below it.
use mathlib.Core.Path.{◌≡◌, sym, ap, subst, ◌∙◌}
use mathlib.Core.Logic.{◌⊎◌, inl, inr}
use mathlib.Core.Bool.{Bool, true, false, not, ◌||◌, false≢true, and_comm}
use mathlib.Core.List.{List, [], ◌∷◌, ◌++◌, map, get_last_d, flatten}
use Prim.Native.Nat.{ℕ, zero, suc, ◌+◌, ◌-◌, ◌≤◌, ◌<◌}
use native.Mathlib.Nat.{zero-add, add-zero}
use native.Mathlib.Omega.{arith}
use lib.Dec.{eqb}
use lib.ListN.{length, get_or, length-append, get_or-append}
use lib.Seq.{get_or-append-add}
use borrow.Author.Tests.{not-true, eqb-true, eq-eqb, leb-true}
use Rattle.plan.specs.Lists.{keep, is_in, below, ascending}
use Rattle.plan.specs.Mesh.{no_parent, Mesh, neighbours_of, adjacent}
use Rattle.plan.specs.Levels.{Graph, levels, eccentricity, components}
use Rattle.plan.specs.Choice.{degree_in, least_degree, candidates, root_of, stays_whole, separator, Settings, standard, choose_part, george_liu}
use Rattle.plan.specs.Dissection.{Forest, empty, tree, dissect, dissection, parts, parents_from, parents, order, sizes}
use Rattle.plan.specs.Parts.{part_of, nodes_of_part, uncut_parts}
use Rattle.plan.specs.Cliques.{next_to_all, clique, uncut_cliques, UncutRegions}
use Rattle.theory.specs.Counting.{count}
use Rattle.theory.specs.Regions.{All, Connected, Region, Takes}
use Rattle.theory.specs.Checked.{Checked}
use Rattle.theory.specs.Sensible.{Sensible}
use Rattle.theory.proofs.Bools.{or_left, or_right, or_false_left, or_false_right, tested, clash, cond_true, cond_false, lt_or_le}
use Rattle.theory.proofs.Lists.{is_in-head, is_in_tail, is_in_cons, is_in-append, is_in-append_right, every-is_in, is_in-every, exists-is_in, of_keep, is_in-keep, get_last_or-get_or}
use Rattle.theory.proofs.Ranges.{is_in-below}
use Rattle.theory.proofs.Flatten.{of_flatten}
use Rattle.theory.proofs.AllLists.{all_get_d}
use Rattle.theory.proofs.Ascending.{ascending-keep, ascending_ext}
use Rattle.theory.proofs.Counting.{unit_either, count-all, count_le, count_ext, count-every, count_sum, count-ascending, same_length}
use Rattle.theory.proofs.Checked.{checked}
use Rattle.theory.proofs.Components.{component-whole, in_components, components-regions}
use Rattle.theory.proofs.LevelNumbers.{level-first, level_near}
use Rattle.theory.proofs.LevelSets.{levels_cover}
use Rattle.theory.proofs.RootSearch.{eccentricity_le, candidate_near}
use Rattle.theory.proofs.RootInside.{least_degree_least, candidate_inside, root-inside}
use Rattle.theory.proofs.Choice.{separator-less, standard_sensible}
use Rattle.theory.proofs.PartOf.{node_of_part}
use Rattle.theory.proofs.Boundary.{of_where}
use Rattle.theory.proofs.Forest.{parents-length}
use Rattle.theory.proofs.Dissection.{regions_left, left-regions, first-regions, first-regions-length, left_fit, others_fit, part_alone}

-- ---- cliques by their members

-- whether w is in v's closed neighbourhood: v itself, or next to it
abbrev touches : Mesh → ℕ → ℕ → Bool
touches m v w = eqb v w || adjacent m v w

module _ (m : Mesh) where
  -- any two members are next to one another or the same
  of_clique : (l : List ℕ) → clique m l ≡ true → (v w : ℕ) → is_in v l ≡ true → is_in w l ≡ true → touches m v w ≡ true
  unfolding clique next_to_all
  of_clique l h v w hv hw = every-is_in (touches m v) l (every-is_in (next_to_all m l) l h v hv) w hw

  in_clique : (l : List ℕ) → ((v w : ℕ) → is_in v l ≡ true → is_in w l ≡ true → touches m v w ≡ true) → clique m l ≡ true
  unfolding clique next_to_all
  in_clique l f = is_in-every (next_to_all m l) l (λ v hv. is_in-every (touches m v) l (λ w hw. f v w hv hw))

  -- some members of a clique are a clique
  clique-some : (l part : List ℕ) → ((v : ℕ) → is_in v part ≡ true → is_in v l ≡ true) → clique m l ≡ true → clique m part ≡ true
  clique-some l part f h = in_clique part (λ v w hv hw. of_clique l h v w (f v hv) (f w hw))

-- ---- degree inside a region

-- of an ascending region: the neighbours counted in the region
degree_counted : (m : Mesh) → Checked m → (region : List ℕ) → ascending region ≡ true → (v : ℕ) → degree_in m region v ≡ count (adjacent m v) region
unfolding degree_in adjacent
degree_counted m good region ascends v =
    let list : List ℕ = neighbours_of m v in
    let inside : ℕ → Bool = λ w. is_in w region in
    let listed : ℕ → Bool = λ w. is_in w list in
    ap length (ascending_ext (keep inside list) (keep listed region) (ascending-keep inside list (good.ascends v)) (ascending-keep listed region ascends)
    (λ x. is_in-keep inside list x ∙ and_comm (is_in x list) (is_in x region) ∙ sym (is_in-keep listed region x)))

-- ---- the nodes of a region that has a root with ℓ of 0 or 1

module _ (edge : Graph) (mirror : (a b : ℕ) → edge a b ≡ true → edge b a ≡ true) (region : List ℕ) (connected : Connected edge region) (root : ℕ)
    (inside : is_in root region ≡ true) (near : eccentricity edge region root ≤ 1) where
  abbrev ls : List (List ℕ)
  ls = levels edge region root

  only-root : (v : ℕ) → is_in v (get_or ls 0 []) ≡ true → v ≡ root
  only-root v h = elim (is_in_cons v root [] (ap (is_in v) (sym (level-first edge region root)) ∙ h)) [ inl e ↦ e | inr t ↦ absurd (false≢true t) ]

  -- each is the root, or a node of the last level next to the root
  root_or_last : (v : ℕ) → is_in v region ≡ true → (v ≡ root) ⊎ ((is_in v (get_last_d ls []) ≡ true) × (edge root v ≡ true))
  unfolding eccentricity
  root_or_last v h =
      let r = of_flatten ls v (levels_cover edge region root inside v ∙ component-whole edge mirror region connected root v inside h) in
      at_level r.0 r.1 r.2
    where
      at_level : (i : ℕ) → i < length ls → is_in v (get_or ls i []) ≡ true → (v ≡ root) ⊎ ((is_in v (get_last_d ls []) ≡ true) × (edge root v ≡ true))
      at_level zero lt t = inl (only-root v t)
      at_level (suc zero) lt t =
          let last : length ls - 1 ≡ 1 = omega (arith, near) in
          let u = exists-is_in (λ u. edge u v) (get_or ls 0 []) (level_near edge region root 0 lt v t) in
          inr (
            ap (is_in v) (get_last_or-get_or ls [] ∙ ap (λ (k : ℕ). get_or ls k []) last) ∙ t,
            ap (λ (x : ℕ). edge x v) (sym (only-root u.0 u.1)) ∙ u.2,
          )
      at_level (suc (suc i)) lt t = absurd (omega (arith, near))

-- ---- the clique rule by regions

-- what f makes of one of several lists is among what it makes of them
is_in-map-get_or : (f : List ℕ → ℕ) (ls : List (List ℕ)) (i : ℕ) → i < length ls → is_in (f (get_or ls i [])) (map f ls) ≡ true
is_in-map-get_or f [] i h = absurd (omega arith)
is_in-map-get_or f (l ∷ ls) zero h = is_in-head (f l) (map f ls)
is_in-map-get_or f (l ∷ ls) (suc i) h = is_in_tail (f (get_or ls i [])) (f l) (map f ls) (is_in-map-get_or f ls i (omega arith))

module _ (m : Mesh) (good : Checked m) (r : List ℕ) (region : Region (adjacent m) r) where
  -- these are one more in the region than v's degree there
  touch_count : (v : ℕ) → is_in v r ≡ true → count (touches m v) r ≡ 1 + degree_in m r v
  touch_count v h =
      omega (
        arith,
        count_sum (touches m v) (eqb v) (adjacent m v) r
            (λ w. unit_either (eqb v w) (adjacent m v w) (λ e. ap (adjacent m v) (sym (eqb-true v w e)) ∙ good.loopless v)),
        count-ascending v r region.ascends h,
        degree_counted m good r region.ascends v,
      )

  -- where x is next to all other nodes of the region, so is every node of no less degree
  touches-all : (x y : ℕ) → is_in x r ≡ true → is_in y r ≡ true → ((w : ℕ) → is_in w r ≡ true → touches m x w ≡ true) → degree_in m r x ≤ degree_in m r y
      → (w : ℕ) → is_in w r ≡ true → touches m y w ≡ true
  touches-all x y hx hy all le =
      count-every (touches m y) r
      (omega (
        arith,
        touch_count x hx,
        touch_count y hy,
        count_ext (touches m x) (λ w. true) r all,
        count-all r,
        count_le (touches m y) r,
      ))

  -- a node whose ℓ is 0 or 1 is next to all others
  near_touches : (x : ℕ) → is_in x r ≡ true → eccentricity (adjacent m) r x ≤ 1 → (w : ℕ) → is_in w r ≡ true → touches m x w ≡ true
  near_touches x hx near w hw = elim (root_or_last (adjacent m) good.symmetric.mirror r region.connected x hx near w hw) [
    | inl e ↦ or_left (eqb x w) _ (eq-eqb x w (sym e))
    | inr p ↦ or_right (eqb x w) _ p.1
  ]

  -- where the root found has ℓ of 0 or 1, so is every node: in its component of the last level the candidate has the least degree, which is the
  -- greatest that can be
  each-touches : eccentricity (adjacent m) r (root_of m r) ≤ 1 → (v : ℕ) → is_in v r ≡ true → (w : ℕ) → is_in w r ≡ true → touches m v w ≡ true
  unfolding candidates
  each-touches near v hv =
      let root : ℕ = root_of m r in
      let inside : is_in root r ≡ true = root-inside m r region.some in
      let last : List ℕ = get_last_d (levels (adjacent m) r root) [] in
      let cs : List (List ℕ) = components (adjacent m) last in
      let degree : ℕ → ℕ = degree_in m r in
      elim (root_or_last (adjacent m) good.symmetric.mirror r region.connected root inside near v hv) [
        | inl e ↦ subst (λ (x : ℕ). (w : ℕ) → is_in w r ≡ true → touches m x w ≡ true) (sym e) (near_touches root inside near)
        | inr p ↦
            let c = of_flatten cs v (in_components (adjacent m) last v ∙ p.0) in
            let x : ℕ = least_degree degree (get_or cs c.0 []) in
            let candidate : is_in x (candidates m r root) ≡ true = is_in-map-get_or (least_degree degree) cs c.0 c.1 in
            let hx : is_in x r ≡ true = candidate_inside m r root inside x candidate in
            touches-all x v hx hv (near_touches x hx (omega (arith, near, candidate_near m r x candidate))) (least_degree_least degree (get_or cs c.0 []) v c.2)
      ]

  -- so the region is a clique
  near_clique : eccentricity (adjacent m) r (root_of m r) ≤ 1 → clique m r ≡ true
  near_clique near = in_clique m r (λ v w hv hw. each-touches near v hv w hw)

-- by any sensible settings that leave whole only where ℓ is 0 or 1, ℓ being at most the number of nodes
module _ (settings : Settings) (sensible : Sensible settings)
    (near : (r : List ℕ) (l : ℕ) → l ≤ length r → settings.whole r l ≡ true → l ≤ 1) (m : Mesh) (good : Checked m) where
  -- a region that the choice takes whole is a clique
  whole-clique : (r : List ℕ) → Region (adjacent m) r → length (choose_part settings m r) ≡ length r → clique m (choose_part settings m r) ≡ true
  unfolding choose_part
  whole-clique r region all =
      let root : ℕ = root_of m r in
      let l : ℕ = eccentricity (adjacent m) r root in
      let s : List ℕ = separator (adjacent m) (levels (adjacent m) r root) (settings.level l) in
      elim (tested (settings.whole r l)) [
        | inl t ↦ rw (cond_true (settings.whole r l) r (settings.numbered s) t)
            (near_clique m good r region (near r l (eccentricity_le (adjacent m) r root) t))
        | inr t ↦
            let b = sensible.between r l t in
            let deep : settings.level l < length (levels (adjacent m) r root) = unfold eccentricity in omega (arith, b) in
            absurd (omega (
              arith,
              all,
              ap length (cond_false (settings.whole r l) r (settings.numbered s) t),
              same_length (settings.numbered s) s (sensible.reorders s),
              separator-less (adjacent m) r root (settings.level l) b.0 deep (root-inside m r region.some),
            ))
      ]

-- document 01's settings do
standard_near : (r : List ℕ) (l : ℕ) → l ≤ length r → standard.whole r l ≡ true → l ≤ 1
unfolding standard stays_whole
standard_near r l few t = leb-true l 1 t

-- so a region that George and Liu's choice takes whole is a clique
pub george_liu-clique : (m : Mesh) → Checked m → (r : List ℕ) → Region (adjacent m) r → length (george_liu m r) ≡ length r → clique m (george_liu m r) ≡ true
unfolding george_liu
george_liu-clique m good = whole-clique standard standard_sensible standard_near m good

-- "the whole region is one part, uncut": such a region is a clique
pub uncut-regions : UncutRegions
uncut-regions m unchosen k passes ascends h whole =
    ap (clique m) (sym whole)
    ∙ george_liu-clique m (checked m passes) (get_or (components (adjacent m) unchosen) k [])
    (all_get_d (Region (adjacent m)) (components (adjacent m) unchosen) (components-regions (adjacent m) unchosen ascends) k h) (ap length whole)

-- ---- the clique rule by parts

-- P holds of each leaf of a forest, a part that has no part below it
abbrev Leaves : (List ℕ → Type 0) → Forest → Type 0
Leaves P empty = Unit {0}
Leaves P (tree s c r) = Leaves P c × Leaves P r × (length (parts c) ≡ 0 → P s)

-- the parent of a forest's roots is among its parents, where it has a part
parent_named : (t : Forest) (k f : ℕ) → 0 < length (parts t) → is_in f (parents_from k f t) ≡ true
unfolding parts parents_from
parent_named empty k f h = absurd (omega arith)
parent_named (tree s c r) k f h =
    let own : ℕ = k + length (parts c) in
    is_in-append_right f (parents_from k own c) (f ∷ parents_from (suc own) f r) (is_in-head f (parents_from (suc own) f r))

module _ (P : List ℕ → Type 0) where
  -- so it holds of each part that no part has as its parent
  leaf_at : (t : Forest) (k f : ℕ) → Leaves P t → (i : ℕ) → i < length (parts t) → is_in (k + i) (parents_from k f t) ≡ false → P (get_or (parts t) i [])
  unfolding parts parents_from
  leaf_at empty k f e i lt h = absurd (omega arith)
  leaf_at (tree s c r) k f e i lt h =
      let own : ℕ = k + length (parts c) in
      let below : List ℕ = parents_from k own c in
      let others : List ℕ = parents_from (suc own) f r in
      let split : (is_in (k + i) below || is_in (k + i) (f ∷ others)) ≡ false = sym (is_in-append (k + i) below (f ∷ others)) ∙ h in
      elim (lt_or_le i (length (parts c))) [
        | inl l ↦ rw (get_or-append (parts c) (s ∷ parts r) [] i l) (leaf_at c k own e.0 i l (or_false_left (is_in (k + i) below) _ split))
        | inr l ↦
            let d : ℕ = i - length (parts c) in
            let at : length (parts c) + d ≡ i = omega arith in
            let behind : get_or (parts c ++ (s ∷ parts r)) i [] ≡ get_or (s ∷ parts r) d [] =
            ap (λ (x : ℕ). get_or (parts c ++ (s ∷ parts r)) x []) (sym at) ∙ get_or-append-add (parts c) (s ∷ parts r) d [] in
            rw behind (go (λ j. leaf_at r (suc own) f e.1 j) d (omega (arith, at, length-append (parts c) (s ∷ parts r)))
            (ap (λ (x : ℕ). is_in x below) (omega (arith, at)) ∙ or_false_left (is_in (k + i) below) _ split)
            (ap (λ (x : ℕ). is_in x (f ∷ others)) (omega (arith, at)) ∙ or_false_right (is_in (k + i) below) _ split))
      ]
    where
      go : ((j : ℕ) → j < length (parts r) → is_in (suc (k + length (parts c)) + j) (parents_from (suc (k + length (parts c))) f r) ≡ false → P (get_or (parts r) j []))
          → (d : ℕ) → d < suc (length (parts r)) → is_in (k + length (parts c) + d) (parents_from k (k + length (parts c)) c) ≡ false
          → is_in (k + length (parts c) + d) (f ∷ parents_from (suc (k + length (parts c))) f r) ≡ false → P (get_or (s ∷ parts r) d [])
      go ih zero lt a b = elim (lt_or_le 0 (length (parts c))) [
        | inl some ↦ clash (is_in (k + length (parts c)) (parents_from k (k + length (parts c)) c)) (parent_named c k (k + length (parts c)) some) (rw add-zero at a)
        | inr none ↦ e.2 (omega (arith, none))
      ]
      go ih (suc j) lt a b =
          let next : k + length (parts c) + suc j ≡ suc (k + length (parts c)) + j = omega arith in
          ih j (omega arith) (ap (λ (x : ℕ). is_in x (parents_from (suc (k + length (parts c))) f r)) (sym next) ∙ or_false_right (eqb (k + length (parts c) + suc j) f) _ b)

-- the nodes of part q of lists one behind the other, by order and sizes, are members of list q
nodes_of_part_lem : (ls : List (List ℕ)) (q v : ℕ) → is_in v (nodes_of_part (flatten ls) (map length ls) q) ≡ true → is_in v (get_or ls q []) ≡ true
unfolding nodes_of_part
nodes_of_part_lem ls q v h =
    let i = of_where (λ i. eqb (part_of (map length ls) i) q) (flatten ls) v h in
    ap (λ (x : ℕ). is_in x (get_or ls q [])) i.2
    ∙ ap (λ (p : ℕ). is_in (get_or (flatten ls) i.0 0) (get_or ls p [])) (sym (eqb-true (part_of (map length ls) i.0) q i.3))
    ∙ node_of_part ls i.0 i.1

module _ (m : Mesh) (choose : List ℕ → List ℕ) (takes : Takes (adjacent m) choose)
    (whole : (r : List ℕ) → Region (adjacent m) r → length (choose r) ≡ length r → clique m (choose r) ≡ true) where
  abbrev edge : Graph
  edge = adjacent m

  -- where the choice takes whole only cliques, the leaves of a dissection are cliques
  dissect_leaves : (most : ℕ) (rs : List (List ℕ)) → All (Region edge) rs → length (flatten rs) ≤ most → Leaves (λ s. clique m s ≡ true) (dissect most edge choose rs)
  unfolding dissect
  dissect_leaves zero rs all l = tt
  dissect_leaves (suc most) [] all l = tt
  dissect_leaves (suc most) (r ∷ rs) all l = (
    dissect_leaves most (regions_left edge choose r) (left-regions edge choose r all.0) (left_fit edge choose takes r rs most all.0 l),
    dissect_leaves most rs all.1 (others_fit edge choose takes r rs most all.0 l),
    λ none. whole r all.0 (part_alone edge choose takes most r rs all.0 l none),
  )

  -- so is each part that no part has as its parent
  pub dissection-cliques : (n : ℕ) → let t : Forest = dissection edge choose n in uncut_cliques m (order t) (sizes t) (parents t) ≡ true
  unfolding dissection order sizes parents uncut_cliques uncut_parts
  dissection-cliques n =
      let t : Forest = dissect n edge choose (components edge (below n)) in
      let all : Leaves (λ s. clique m s ≡ true) t = dissect_leaves n (components edge (below n)) (first-regions edge n) (omega (arith, first-regions-length edge n)) in
      let up : List ℕ = parents_from 0 no_parent t in
      is_in-every (λ q. clique m (nodes_of_part (order t) (sizes t) q)) (keep (λ q. not (is_in q up)) (below (length up)))
      (λ q h.
      let k = of_keep (λ q. not (is_in q up)) (below (length up)) q h in
      clique-some m (get_or (parts t) q []) (nodes_of_part (order t) (sizes t) q) (nodes_of_part_lem (parts t) q)
      (leaf_at (λ s. clique m s ≡ true) t 0 no_parent all q (omega (arith, is_in-below (length up) q k.0, parents-length t 0 no_parent))
      (rw zero-add (not-true (is_in q up) k.1))))
