-- The dissection one part at a time: as many steps as nodes choose every part, with the parts and parents of the dissection.
use mathlib.Core.Path.{◌≡◌, refl, sym, ap, ap₂, ◌∙◌}
use mathlib.Core.Bool.{cond}
use mathlib.Core.List.{List, [], ◌∷◌, ◌++◌, map, flatten, append-nil, append_assoc, reverse-cons, map-append}
use Prim.Native.Nat.{ℕ, zero, suc, ◌+◌, ◌-◌, ◌≤◌}
use native.Mathlib.Nat.{zero-add, suc-add}
use native.Mathlib.Omega.{arith}
use lib.Dec.{eqb}
use lib.ListN.{length, length-append}
use borrow.Author.Tests.{ne_eqb}
use Rattle.plan.specs.Lists.{below}
use Rattle.plan.specs.Mesh.{no_parent, adjacent}
use Rattle.plan.specs.Levels.{Graph, components}
use Rattle.plan.specs.Choice.{george_liu}
use Rattle.plan.specs.Dissection.{Forest, empty, tree, dissect, dissection, parts, parents_from, parents}
use Rattle.plan.specs.Steps.{Pending, State, pending_below, begin, step_with, step, steps, by_number}
use Rattle.plan.specs.Enough.{StepsAgree, StepsEnough}
use Rattle.theory.specs.Regions.{All, Region, Takes}
use Rattle.theory.proofs.Bools.{cond_false}
use Rattle.theory.proofs.Flatten.{flatten_cons}
use Rattle.theory.proofs.Checked.{checked}
use Rattle.theory.proofs.Forest.{parts-length-tree}
use Rattle.theory.proofs.Dissection.{regions_left, left-regions, first-regions, first-regions-length, left_fit, others_fit, parts-few}
use Rattle.theory.proofs.Choice.{george_liu_takes}

-- a state by its fields
abbrev pub state : List Pending → List (List ℕ) → List ℕ → State
state pending chosen parents = record { pending = pending; chosen = chosen; parents = parents }

-- the first region of a list stands after the others
pending_cons : (parent : ℕ) (r : List ℕ) (rs : List (List ℕ)) (others : List Pending)
    → pending_below parent (r ∷ rs) ++ others ≡ pending_below parent rs ++ (record { region = r; parent = parent } ∷ others)
unfolding pending_below
pending_cons parent r rs others =
    let tail : List Pending = map (λ region. record { region = region; parent = parent }) rs in
    let first : Pending = record { region = r; parent = parent } in
    ap (λ (l : List Pending). l ++ others) (reverse-cons first tail) ∙ append_assoc (pending_below parent rs) (first ∷ []) others

-- ---- the parents as the steps count them

-- The parents of a forest's parts, counted in the order of choosing: `before` parts are chosen before those of the forest, and its outermost parts
-- have the parent `parent`. The others are chosen first, then the members, then the children.
abbrev chosen_parents : ℕ → ℕ → Forest → List ℕ
chosen_parents parent before empty = []
chosen_parents parent before (tree members children others) =
    let own : ℕ = length (parts others) + before in
    chosen_parents own (suc own) children ++ (parent ∷ chosen_parents parent before others)

-- the part number of the part chosen as number k, once p parts are chosen
abbrev number : ℕ → ℕ → ℕ
number p k = cond (eqb k no_parent) no_parent (p - 1 - k)

-- counted by part number they are the forest's parents
by_number_lem : (t : Forest) (p first parent before : ℕ) → p ≤ no_parent → first + length (parts t) + before ≡ p
    → by_number p (chosen_parents parent before t) ≡ parents_from first (number p parent) t
unfolding by_number parents_from
by_number_lem empty p first parent before small all = refl
by_number_lem (tree s c r) p first parent before small all =
    let own : ℕ = length (parts r) + before in
    let count : length (parts (tree s c r)) ≡ length (parts c) + suc (length (parts r)) = parts-length-tree s c r in
    let known : number p own ≡ first + length (parts c) =
    cond_false (eqb own no_parent) no_parent (p - 1 - own) (ne_eqb own no_parent (λ e. omega arith)) ∙ omega arith in
    map-append (number p) (chosen_parents own (suc own) c) (parent ∷ chosen_parents parent before r)
    ∙ ap₂ (λ (xs ys : List ℕ). xs ++ (number p parent ∷ ys))
    (by_number_lem c p first own (suc own) small (omega arith) ∙ ap (λ (k : ℕ). parents_from first k c) known)
    (by_number_lem r p (suc (first + length (parts c))) parent before small (omega arith))

module _ (edge : Graph) (choose : List ℕ → List ℕ) where
  -- ---- any steps

  -- from a state with nothing pending, given by its fields, steps change nothing
  done_stays : (k : ℕ) (chosen : List (List ℕ)) (parents : List ℕ) → steps k edge choose (state [] chosen parents) ≡ state [] chosen parents
  unfolding steps step step_with
  done_stays zero chosen parents = refl
  done_stays (suc k) chosen parents = done_stays k chosen parents

  -- the same of any such state
  pub steps-done : (k : ℕ) (s : State) → s.pending ≡ [] → steps k edge choose s ≡ s
  steps-done k s h = rw (ap (λ (p : List Pending). state p s.chosen s.parents) h) (done_stays k s.chosen s.parents)

  -- a steps, then b more
  pub steps_add : (a b : ℕ) (s : State) → steps (a + b) edge choose s ≡ steps b edge choose (steps a edge choose s)
  unfolding steps
  steps_add zero b s = rw zero-add
  steps_add (suc a) b s = rw suc-add (steps_add a b (step edge choose s))

  -- ---- the steps of a list of regions

  -- the state once the parts of a forest are chosen
  abbrev after : Forest → ℕ → List Pending → List (List ℕ) → List ℕ → State
  after t parent others chosen ps = state others (parts t ++ chosen) (chosen_parents parent (length chosen) t ++ ps)

  module _ (takes : Takes edge choose) where
    -- Regions below one parent: as many steps as their dissection has parts choose just these parts, whatever is pending after them.
    chooses : (most : ℕ) (rs : List (List ℕ)) → All (Region edge) rs → length (flatten rs) ≤ most
        → (parent : ℕ) (others : List Pending) (chosen : List (List ℕ)) (ps : List ℕ)
        → let t : Forest = dissect most edge choose rs in
        steps (length (parts t)) edge choose (state (pending_below parent rs ++ others) chosen ps) ≡ after t parent others chosen ps
    unfolding dissect parts steps step step_with pending_below
    chooses zero [] all l parent others chosen ps = refl
    chooses zero (r ∷ rs) all l parent others chosen ps =
        absurd (omega (arith, ap length (flatten_cons r rs), length-append r (flatten rs), all.0.some))
    chooses (suc most) [] all l parent others chosen ps = refl
    chooses (suc most) (r ∷ rs) all l parent others chosen ps =
        let first : Pending = record { region = r; parent = parent } in
        let c : Forest = dissect most edge choose (regions_left edge choose r) in
        let o : Forest = dissect most edge choose rs in
        let os : List ℕ = chosen_parents parent (length chosen) o in
        let own : ℕ = length (parts o ++ chosen) in
        let count : length (parts (tree (choose r) c o)) ≡ length (parts o) + suc (length (parts c)) = omega (arith, parts-length-tree (choose r) c o) in
        ap₂ (λ (k : ℕ) (l : List Pending). steps k edge choose (state l chosen ps)) count (pending_cons parent r rs others)
        ∙ steps_add (length (parts o)) (suc (length (parts c))) (state (pending_below parent rs ++ (first ∷ others)) chosen ps)
        ∙ ap (steps (suc (length (parts c))) edge choose) (chooses most rs all.1 (others_fit edge choose takes r rs most all.0 l) parent (first ∷ others) chosen ps)
        ∙ chooses most (regions_left edge choose r) (left-regions edge choose r all.0) (left_fit edge choose takes r rs most all.0 l) own others (choose r ∷ (parts o ++ chosen)) (parent ∷ (os ++ ps))
        ∙ ap₂ (state others)
        (sym (append_assoc (parts c) (choose r ∷ parts o) chosen))
        (ap (λ (k : ℕ). chosen_parents k (suc k) c ++ (parent ∷ (os ++ ps))) (length-append (parts o) chosen)
        ∙ sym (append_assoc (chosen_parents (length (parts o) + length chosen) (suc (length (parts o) + length chosen)) c) (parent ∷ os) ps))

    module _ (n : ℕ) where
      -- as many steps as the dissection has parts choose just its parts
      chooses_all : let t : Forest = dissection edge choose n in
          steps (length (parts t)) edge choose (begin edge n) ≡ state [] (parts t) (chosen_parents no_parent 0 t)
      unfolding dissection begin
      chooses_all =
          simp append-nil at (chooses n (components edge (below n)) (first-regions edge n) (omega (arith, first-regions-length edge n)) no_parent [] [] [])

      -- so as many steps as nodes do, for the steps after those change nothing
      chooses_enough : let t : Forest = dissection edge choose n in
          steps n edge choose (begin edge n) ≡ state [] (parts t) (chosen_parents no_parent 0 t)
      chooses_enough =
          let t : Forest = dissection edge choose n in
          let p : ℕ = length (parts t) in
          let all : n ≡ p + (n - p) = omega (arith, parts-few edge choose takes n) in
          ap (λ (k : ℕ). steps k edge choose (begin edge n)) all
          ∙ steps_add p (n - p) (begin edge n)
          ∙ ap (steps (n - p) edge choose) chooses_all
          ∙ steps-done (n - p) (state [] (parts t) (chosen_parents no_parent 0 t)) refl

-- a part of a first region has no parent in either count
by_number-whole : (t : Forest) → length (parts t) ≤ no_parent → by_number (length (parts t)) (chosen_parents no_parent 0 t) ≡ parents t
unfolding parents
by_number-whole t small = by_number_lem t (length (parts t)) 0 no_parent 0 small (omega arith)

-- as many steps as nodes choose every part of the dissection, by any choice that takes a non-empty part from each region
pub steps_agree : (edge : Graph) (choose : List ℕ → List ℕ) → Takes edge choose → (n : ℕ) → n ≤ no_parent
    → StepsAgree (dissection edge choose n) (steps n edge choose (begin edge n))
steps_agree edge choose takes n small =
    let t : Forest = dissection edge choose n in
    rw (chooses_enough edge choose takes n)
    (record { done = refl; chosen = refl; numbered = by_number-whole t (omega (arith, parts-few edge choose takes n)) })

-- ---- George and Liu's choice

-- as many steps as nodes choose every part of a mesh that passes its checks
pub steps_enough : StepsEnough
unfolding george_liu
steps_enough m h = steps_agree (adjacent m) (george_liu m) (george_liu_takes m) m.nodes (omega (arith, (checked m h).few))
