-- Meshes that tell readings of the choice and of the clique rule apart, in one table, and the one statement that every row of it holds.
use Rattle.std.specs.Prelude.{Bool, true, not, ◌&&◌, ◌≡◌, refl, ℕ, length}
use mathlib.Core.List.{List, [], ◌∷◌, map, flatten}
use Rattle.plan.specs.Lists.{every, same, below}
use Rattle.plan.specs.Mesh.{no_parent, Mesh, lent, adjacent}
use Rattle.plan.specs.Levels.{width}
use Rattle.plan.specs.Choice.{improves}
use Rattle.plan.specs.Parts.{uncut_parts}
use Rattle.plan.specs.Cliques.{uncut_cliques}
use Rattle.plan.specs.Planning.{plan_of}
use Rattle.plan.specs.Everything.{everything}

pub data ChoiceRow : Type 0 where
  -- the parts of a mesh's plan, their parents, and which parts are uncut: these are cliques
  parted : (m : Mesh) → (parts : List (List ℕ)) → (parents uncut : List ℕ) → ChoiceRow
  -- another plan, with an uncut part that is no clique
  unruly : (m : Mesh) → (parts : List (List ℕ)) → (parents : List ℕ) → ChoiceRow
  -- of any two nodes of a mesh, whether the second improves on the first
  replaces stays : (m : Mesh) → (r x : ℕ) → ChoiceRow
  -- the node count of the widest level from each node of a mesh
  wide : (m : Mesh) → (widths : List ℕ) → ChoiceRow

-- whether the uncut ones of these parts are cliques
unfoldable pub keeps_rule : Mesh → List (List ℕ) → List ℕ → Bool
keeps_rule m parts parents = uncut_cliques m (flatten parts) (map length parts) parents

unfoldable pub choice_holds : ChoiceRow → Bool
choice_holds (parted m parts parents uncut) =
    same (plan_of 1 m).order (flatten parts) && same (plan_of 1 m).sizes (map length parts) && same (plan_of 1 m).parents parents
    && same (uncut_parts parents) uncut && keeps_rule m parts parents
choice_holds (unruly m parts parents) = not (keeps_rule m parts parents)
choice_holds (replaces m r x) = improves m (below m.nodes) r x
choice_holds (stays m r x) = not (improves m (below m.nodes) r x)
choice_holds (wide m widths) = same (map (width (adjacent m) (below m.nodes)) (below m.nodes)) widths

-- edges 01 05 12 13 16 23 26 34 45 46
unfoldable pub heavy : Mesh
heavy = lent 7 (0 ∷ 2 ∷ 6 ∷ 9 ∷ 12 ∷ 15 ∷ 17 ∷ 20 ∷ []) (1 ∷ 5 ∷ 0 ∷ 2 ∷ 3 ∷ 6 ∷ 1 ∷ 3 ∷ 6 ∷ 1 ∷ 2 ∷ 4 ∷ 3 ∷ 5 ∷ 6 ∷ 0 ∷ 4 ∷ 1 ∷ 2 ∷ 4 ∷ [])

-- edges 01 02 13 14 23 25 34
unfoldable pub kite : Mesh
kite = lent 6 (0 ∷ 2 ∷ 5 ∷ 8 ∷ 11 ∷ 13 ∷ 14 ∷ []) (1 ∷ 2 ∷ 0 ∷ 3 ∷ 4 ∷ 0 ∷ 3 ∷ 5 ∷ 1 ∷ 2 ∷ 4 ∷ 1 ∷ 3 ∷ 2 ∷ [])

-- edges 02 03 05 13 34 35 45
unfoldable pub slim : Mesh
slim = lent 6 (0 ∷ 3 ∷ 4 ∷ 5 ∷ 9 ∷ 11 ∷ 14 ∷ []) (2 ∷ 3 ∷ 5 ∷ 3 ∷ 0 ∷ 0 ∷ 1 ∷ 4 ∷ 5 ∷ 3 ∷ 5 ∷ 0 ∷ 3 ∷ 4 ∷ [])

-- edge 01
unfoldable pub pair : Mesh
pair = lent 2 (0 ∷ 1 ∷ 2 ∷ []) (1 ∷ 0 ∷ [])

-- edges 04 12 15 23 24 46 56 67
unfoldable pub early : Mesh
early = lent 8 (0 ∷ 1 ∷ 3 ∷ 6 ∷ 7 ∷ 10 ∷ 12 ∷ 15 ∷ 16 ∷ []) (4 ∷ 2 ∷ 5 ∷ 1 ∷ 3 ∷ 4 ∷ 2 ∷ 0 ∷ 2 ∷ 6 ∷ 1 ∷ 6 ∷ 4 ∷ 5 ∷ 7 ∷ 6 ∷ [])

-- edges 01 02 13 23 24
unfoldable pub alike : Mesh
alike = lent 5 (0 ∷ 2 ∷ 4 ∷ 7 ∷ 9 ∷ 10 ∷ []) (1 ∷ 2 ∷ 0 ∷ 3 ∷ 0 ∷ 3 ∷ 4 ∷ 1 ∷ 2 ∷ 2 ∷ [])

-- edges 01 02 03 34 45 56
unfoldable pub broom : Mesh
broom = lent 7 (0 ∷ 3 ∷ 4 ∷ 5 ∷ 7 ∷ 9 ∷ 11 ∷ 12 ∷ []) (1 ∷ 2 ∷ 3 ∷ 0 ∷ 0 ∷ 0 ∷ 4 ∷ 3 ∷ 5 ∷ 4 ∷ 6 ∷ 5 ∷ [])

-- edges 04 05 14 15 16 24 25 26 34 46
unfoldable pub thrice : Mesh
thrice = lent 7 (0 ∷ 2 ∷ 5 ∷ 8 ∷ 9 ∷ 14 ∷ 17 ∷ 20 ∷ []) (4 ∷ 5 ∷ 4 ∷ 5 ∷ 6 ∷ 4 ∷ 5 ∷ 6 ∷ 4 ∷ 0 ∷ 1 ∷ 2 ∷ 3 ∷ 6 ∷ 0 ∷ 1 ∷ 2 ∷ 1 ∷ 2 ∷ 4 ∷ [])

-- edges 04 05 06 12 13 14 26 36 56
unfoldable pub inner : Mesh
inner = lent 7 (0 ∷ 3 ∷ 6 ∷ 8 ∷ 10 ∷ 12 ∷ 14 ∷ 18 ∷ []) (4 ∷ 5 ∷ 6 ∷ 2 ∷ 3 ∷ 4 ∷ 1 ∷ 6 ∷ 1 ∷ 6 ∷ 0 ∷ 1 ∷ 0 ∷ 6 ∷ 0 ∷ 2 ∷ 3 ∷ 5 ∷ [])

unfoldable pub choices : List ChoiceRow
choices =
    -- Cut at 0 4, which is no clique. With nodes already chosen counted too, the region 1 2 3 6 would stay uncut, where 3 is not next to 6.
    parted heavy ((3 ∷ []) ∷ (6 ∷ []) ∷ (1 ∷ 2 ∷ []) ∷ (5 ∷ []) ∷ (0 ∷ 4 ∷ []) ∷ []) (2 ∷ 2 ∷ 4 ∷ 4 ∷ no_parent ∷ []) (0 ∷ 1 ∷ 3 ∷ [])
    ∷ unruly heavy ((1 ∷ 2 ∷ 3 ∷ 6 ∷ []) ∷ (5 ∷ []) ∷ (0 ∷ 4 ∷ []) ∷ []) (2 ∷ 2 ∷ no_parent ∷ [])
    -- With neighbours in the last level alone counted, the parts would be 1 4, 2 5 and 0 3.
    ∷ parted kite ((0 ∷ []) ∷ (3 ∷ 4 ∷ []) ∷ (1 ∷ []) ∷ (5 ∷ []) ∷ (2 ∷ []) ∷ []) (2 ∷ 2 ∷ 4 ∷ 4 ∷ no_parent ∷ []) (0 ∷ 1 ∷ 3 ∷ [])
    -- Node 1 replaces node 0, from which ℓ is 2, and node 2 replaces node 1: ℓ is 3 from both, and the widest level has two nodes, not three. If
    -- node 1 stayed, or if the best of node 0's candidates, node 4, replaced it, the parts would be 1, 4 5, 3, 2 and 0.
    ∷ parted slim ((0 ∷ 2 ∷ []) ∷ (1 ∷ []) ∷ (4 ∷ []) ∷ (3 ∷ 5 ∷ []) ∷ []) (3 ∷ 3 ∷ 3 ∷ no_parent ∷ []) (0 ∷ 1 ∷ 2 ∷ [])
    ∷ wide slim (3 ∷ 3 ∷ 2 ∷ 4 ∷ 2 ∷ 3 ∷ []) ∷ wide pair (1 ∷ 1 ∷ []) ∷ replaces slim 0 1 ∷ replaces slim 1 2 ∷ stays slim 2 1
    -- If a farther candidate came before a slimmer one, though its component is a later one, the parts would be 0, 2 3, 5, 7, 6 and 1 4.
    ∷ parted early ((0 ∷ []) ∷ (1 ∷ []) ∷ (3 ∷ []) ∷ (2 ∷ []) ∷ (6 ∷ 7 ∷ []) ∷ (4 ∷ 5 ∷ []) ∷ []) (5 ∷ 3 ∷ 3 ∷ 5 ∷ 5 ∷ no_parent ∷ []) (0 ∷ 1 ∷ 2 ∷ 4 ∷ [])
    -- Node 3 does not replace node 0: ℓ and the widest level are equal. Node 4 does, its ℓ being greater.
    ∷ parted alike ((1 ∷ []) ∷ (2 ∷ 4 ∷ []) ∷ (0 ∷ 3 ∷ []) ∷ []) (2 ∷ 2 ∷ no_parent ∷ []) (0 ∷ 1 ∷ [])
    ∷ stays alike 0 3 ∷ stays alike 3 0 ∷ replaces alike 0 4
    -- From node 4 the widest level is smaller, and so is ℓ. No candidate is so: it stands in the root's last level, and its ℓ is not less than the
    -- root's.
    ∷ stays broom 0 4
    -- The root is replaced three times: nodes 0, 1, 3 and 5.
    ∷ parted thrice ((0 ∷ 5 ∷ []) ∷ (6 ∷ []) ∷ (1 ∷ 2 ∷ []) ∷ (3 ∷ []) ∷ (4 ∷ []) ∷ []) (2 ∷ 2 ∷ 4 ∷ 4 ∷ no_parent ∷ []) (0 ∷ 1 ∷ 3 ∷ [])
    -- Other parts would come out with ℓ counted in the whole mesh, with every node of the last level a candidate, or with the last level not counted
    -- among the widest.
    ∷ parted inner ((0 ∷ 5 ∷ []) ∷ (2 ∷ []) ∷ (3 ∷ []) ∷ (1 ∷ []) ∷ (4 ∷ 6 ∷ []) ∷ []) (4 ∷ 3 ∷ 3 ∷ 4 ∷ no_parent ∷ []) (0 ∷ 1 ∷ 2 ∷ [])
    ∷ []

-- every row of the table holds
pub chosen : every choice_holds choices ≡ true
unfolding everything keeps_rule choice_holds heavy kite slim pair early alike broom thrice inner choices
chosen = refl
