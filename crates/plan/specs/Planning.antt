-- Planning: the plan of a mesh, checks 28, 1 to 9 and 26, and what the lent buffers hold afterwards (document 01, "The layout" and "Refusals").
use Rattle.std.specs.Prelude.{Bool, true, ◌||◌, ◌≡◌, ℕ, zero, suc, ◌+◌, ◌-◌, ltb, eqb, length, get_or, take, Result, Ok, Err}
use mathlib.Core.List.{List, [], ◌∷◌, ◌++◌, map, flatten}
use Rattle.plan.specs.declared.Plan.{Plan}
use Rattle.plan.specs.declared.refusal.Refusal.{Refusal}
use Rattle.plan.specs.Lists.{below, written}
use Rattle.plan.specs.Refusals.{Checks, first_fault}
use Rattle.plan.specs.Answers.{Reply, accepted, refused, plan_reply}
use Rattle.plan.specs.Mesh.{max_unknowns, Mesh, adjacent, mesh_checks}
use Rattle.plan.specs.Choice.{george_liu}
use Rattle.plan.specs.Dissection.{Forest, dissection, parts, parents, order, sizes, positions}
use Rattle.plan.specs.Elimination.{columns, starts_of, multiplications}
use Rattle.plan.specs.Demand3.{Demand3}
use Rattle.plan.specs.Cliques.{uncut_cliques}

-- What a plan says, in a file, in the writer's input and in what is handed out. Positions, row counts and multiplications follow from it. Document
-- 02, E7: "Every plan now carries the number of unknowns for each node"; what else it says does not depend on that number.
pub record Contents : Type 0 where
  pub unknowns : ℕ
  pub nodes : ℕ
  pub parts : ℕ
  pub slots : ℕ
  pub order : List ℕ
  pub sizes : List ℕ
  pub parents : List ℕ
  pub column_starts : List ℕ
  pub rows : List ℕ

-- a plan put together from its numbers and lists
abbrev pub contents : ℕ → ℕ → ℕ → ℕ → List ℕ → List ℕ → List ℕ → List ℕ → List ℕ → Contents
contents unknowns n p s order sizes parents column_starts rows =
    record { unknowns = unknowns; nodes = n; parts = p; slots = s; order = order; sizes = sizes; parents = parents; column_starts = column_starts; rows = rows }

-- the row counts of the columns
unfoldable pub row_counts : Contents → List ℕ
row_counts c = map (λ j. get_or c.column_starts (j + 1) 0 - get_or c.column_starts j 0) (below c.nodes)

-- the plan of a mesh by its dissection, for so many unknowns for each node
unfoldable pub plan_by : ℕ → Mesh → Forest → Contents
plan_by unknowns m f =
    let cols : List (List ℕ) = columns m (order f) in
    record {
      unknowns = unknowns;
      nodes = m.nodes;
      parts = length (parts f);
      slots = length (flatten cols);
      order = order f;
      sizes = sizes f;
      parents = parents f;
      column_starts = starts_of cols;
      rows = flatten cols;
    }

-- the dissection of a mesh by George and Liu's choice, and the plan by it
abbrev pub dissection_of : Mesh → Forest
dissection_of m = dissection (adjacent m) (george_liu m) m.nodes

unfoldable pub plan_of : ℕ → Mesh → Contents
plan_of unknowns m = plan_by unknowns m (dissection_of m)

-- "Lent results: order (position to node), places (node to position), part sizes, fathers, 16 bits each ..; column starts, 32 bits ..; rows, 16 bits"
pub record Buffers : Type 0 where
  pub order : List ℕ
  pub positions : List ℕ
  pub sizes : List ℕ
  pub parents : List ℕ
  pub column_starts : List ℕ
  pub rows : List ℕ

-- how long each of them is
pub record Capacity : Type 0 where
  pub order : ℕ
  pub positions : ℕ
  pub sizes : ℕ
  pub parents : ℕ
  pub column_starts : ℕ
  pub rows : ℕ

-- a record of each kind from its six fields
abbrev pub buffers : List ℕ → List ℕ → List ℕ → List ℕ → List ℕ → List ℕ → Buffers
buffers order positions sizes parents column_starts rows =
    record { order = order; positions = positions; sizes = sizes; parents = parents; column_starts = column_starts; rows = rows }

abbrev pub lengths : ℕ → ℕ → ℕ → ℕ → ℕ → ℕ → Capacity
lengths order positions sizes parents column_starts rows =
    record { order = order; positions = positions; sizes = sizes; parents = parents; column_starts = column_starts; rows = rows }

unfoldable pub capacity : Buffers → Capacity
capacity b = record {
  order = length b.order;
  positions = length b.positions;
  sizes = length b.sizes;
  parents = length b.parents;
  column_starts = length b.column_starts;
  rows = length b.rows;
}

-- 8: a lent result other than the rows is too short: "length n at least; column starts, 32 bits, n + 1 at least"
unfoldable pub buffers_too_short : ℕ → Capacity → Bool
buffers_too_short n room =
    ltb room.order n || ltb room.positions n || ltb room.sizes n || ltb room.parents n || ltb room.column_starts (n + 1)

-- 9: the rows buffer is shorter than the slots
unfoldable pub rows_too_short : Contents → Capacity → Bool
rows_too_short c room = ltb room.rows c.slots

-- 28: "a number of unknowns outside 1 to 6"
unfoldable pub bad_unknowns : ℕ → Bool
bad_unknowns unknowns = eqb unknowns 0 || ltb max_unknowns unknowns

-- "Planning checks 1 to 9"; 26 is one of the mesh's, and 28 comes "in planning, which is given the number, before 1"
unfoldable pub plan_checks : ℕ → Mesh → Capacity → Checks
plan_checks unknowns m room =
    (28, bad_unknowns unknowns)
    ∷ (mesh_checks m ++ ((8, buffers_too_short m.nodes room) ∷ (9, rows_too_short (plan_of unknowns m) room) ∷ []))

-- The answer, and for each lent buffer the entries that are written at its front.
pub record Outcome : Type 0 where
  pub reply : Reply
  pub order : List ℕ
  pub positions : List ℕ
  pub sizes : List ℕ
  pub parents : List ℕ
  pub column_starts : List ℕ
  pub rows : List ℕ

-- by the number of the first fault, 0 for none: "Every refusal leaves all lent memory as found."
unfoldable pub hand_out : ℕ → Contents → Outcome
hand_out zero c = record {
  reply = accepted (c.nodes ∷ c.parts ∷ c.slots ∷ multiplications (row_counts c) ∷ c.unknowns ∷ []);
  order = c.order;
  positions = positions c.nodes c.order;
  sizes = c.sizes;
  parents = c.parents;
  column_starts = c.column_starts;
  rows = c.rows;
}
hand_out (suc k) c = record {
  reply = refused (suc k);
  order = [];
  positions = [];
  sizes = [];
  parents = [];
  column_starts = [];
  rows = [];
}

-- planning, whole
unfoldable pub planning : ℕ → Mesh → Capacity → Outcome
planning unknowns m room = hand_out (first_fault (plan_checks unknowns m room)) (plan_of unknowns m)

-- What the buffers hold afterwards: "Entries past those used (sizes and fathers past the part count) are untouched."
unfoldable pub fill : Outcome → Buffers → Buffers
fill o found = record {
  order = written o.order found.order;
  positions = written o.positions found.positions;
  sizes = written o.sizes found.sizes;
  parents = written o.parents found.parents;
  column_starts = written o.column_starts found.column_starts;
  rows = written o.rows found.rows;
}

-- an answer and buffers that agree with an outcome
pub record Filled (o : Outcome) (answer : Result Plan Refusal) (found left : Buffers) : Type 0 where
  pub reply : plan_reply answer ≡ o.reply
  pub order : left.order ≡ (fill o found).order
  pub positions : left.positions ≡ (fill o found).positions
  pub sizes : left.sizes ≡ (fill o found).sizes
  pub parents : left.parents ≡ (fill o found).parents
  pub column_starts : left.column_starts ≡ (fill o found).column_starts
  pub rows : left.rows ≡ (fill o found).rows

-- demand 3 of what is handed out, where a plan is
unfoldable pub Demand3Of : Mesh → Result Plan Refusal → Buffers → Type 0
Demand3Of m (Err k) left = Unit {0}
Demand3Of m (Ok p) left =
    Demand3 m (take p.nodes left.order) (take p.parts left.sizes) (take p.parts left.parents)
    left.column_starts left.rows

-- the clique rule of what is handed out, where a plan is
unfoldable pub CliquesOf : Mesh → Result Plan Refusal → Buffers → Type 0
CliquesOf m (Err k) left = Unit {0}
CliquesOf m (Ok p) left =
    uncut_cliques m (take p.nodes left.order) (take p.parts left.sizes) (take p.parts left.parents) ≡ true

-- The promise of planning: the answer and every buffer are those of `planning`, and demand 3 and the clique rule hold of them.
pub record Planned (unknowns : ℕ) (m : Mesh) (answer : Result Plan Refusal) (found left : Buffers) : Type 0 where
  pub filled : Filled (planning unknowns m (capacity found)) answer found left
  pub demand3 : Demand3Of m answer left
  pub cliques : CliquesOf m answer left
