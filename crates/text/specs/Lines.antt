-- The lines of the listing by what they say, and the plan that the lent slices hold.
use mathlib.Core.List.{List, [], ◌∷◌, ◌++◌, map, flatten}
use Rattle.std.specs.Prelude.{ℕ, ◌≤◌, ◌<◌, length, take}
use Rattle.std.specs.Prelude.{Result, Ok, Err}
use Rattle.plan.specs.declared.Plan.{Plan}
use Rattle.plan.specs.declared.refusal.Refusal.{Refusal}
use Rattle.plan.specs.Refusals.{number_of}
use Rattle.plan.specs.Lists.{below}
use Rattle.plan.specs.Refusals.{first_fault}
use Rattle.plan.specs.Mesh.{Mesh, mesh_checks}
use Rattle.plan.specs.Planning.{Contents}
use Rattle.plan.specs.Listing.{spaced, head_line, position_line, refusal_line, print, listed_plan}
use Rattle.mesh.specs.Lists.{ListWithin}

-- a word, and a number behind a space
abbrev pub labelled : List ℕ → ℕ → List ℕ
labelled word x = word ++ spaced (x ∷ [])

-- a plan by what the listing shows of it: all but the unknowns and the parents
abbrev pub shown : ℕ → ℕ → ℕ → List ℕ → List ℕ → List ℕ → List ℕ → Contents
shown nodes parts slots order sizes column_starts rows = record {
  unknowns = 1;
  nodes = nodes;
  parts = parts;
  slots = slots;
  order = order;
  sizes = sizes;
  parents = [];
  column_starts = column_starts;
  rows = rows;
}

-- the first line of a plan by its counts
abbrev pub head_of : ℕ → ℕ → ℕ → List ℕ
head_of nodes parts slots = head_line (shown nodes parts slots [] [] [] [])

-- the lines of all positions, which show no count
abbrev pub lines_of : List ℕ → List ℕ → List ℕ → List ℕ → List ℕ
lines_of order sizes column_starts rows = flatten (map (position_line (shown 0 0 0 order sizes column_starts rows)) (below (length order)))

-- a plan at the front of buffers: its order and its sizes stand before what else they hold
abbrev pub lent_plan : ℕ → ℕ → ℕ → List ℕ → List ℕ → List ℕ → List ℕ → Contents
lent_plan nodes parts slots order sizes column_starts rows = shown nodes parts slots (take nodes order) (take parts sizes) column_starts rows

-- the buffers hold as many entries as the counts say, and the column of each position
pub record PlanWithin (n p : ℕ) (order sizes column_starts rows : List ℕ) : Type 0 where
  pub nodes : n ≤ length order
  pub parts : p ≤ length sizes
  pub columns : (j : ℕ) → j < n → ListWithin column_starts rows j

-- what is listed for an answer of planning: the plan in the buffers, or the refusal
unfoldable pub answer_text : Result Plan Refusal → List ℕ → List ℕ → List ℕ → List ℕ → List ℕ
answer_text (Ok p) order sizes column_starts rows = print 0 (lent_plan p.nodes p.parts p.slots order sizes column_starts rows)
answer_text (Err r) order sizes column_starts rows = refusal_line (number_of r)

-- where a plan is, the buffers hold it
unfoldable pub AnswerWithin : Result Plan Refusal → List ℕ → List ℕ → List ℕ → List ℕ → Type 0
AnswerWithin (Ok p) order sizes column_starts rows = PlanWithin p.nodes p.parts order sizes column_starts rows
AnswerWithin (Err r) order sizes column_starts rows = Unit {0}

-- the listing of a mesh: its plan, or the number of its first fault
unfoldable pub mesh_text : Mesh → List ℕ
mesh_text m = print (first_fault (mesh_checks m)) (listed_plan m)
