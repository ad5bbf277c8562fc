-- A mesh that is made and not lent: its starts and neighbours, its checks 1, 3, 26 and 8, and what the two lent buffers hold afterwards.
use Rattle.std.specs.Prelude.{Bool, ◌||◌, ◌≡◌, ℕ, zero, suc, ◌+◌, ltb, length, Result}
use mathlib.Core.List.{List, [], ◌∷◌, flatten}
use Rattle.plan.specs.declared.MeshCounts.{MeshCounts}
use Rattle.plan.specs.declared.refusal.Refusal.{Refusal}
use Rattle.plan.specs.Lists.{written}
use Rattle.plan.specs.Refusals.{Checks}
use Rattle.plan.specs.Answers.{Reply, accepted, refused, mesh_reply}
use Rattle.plan.specs.Mesh.{Mesh, lent, bad_node_count, too_many_entries, list_too_long}
use Rattle.plan.specs.Elimination.{starts_of}

-- the mesh of n nodes with these lists, one for each
unfoldable pub mesh_of : ℕ → List (List ℕ) → Mesh
mesh_of n lists = lent n (starts_of lists) (flatten lists)

-- the two lent buffers, and how long each of them is
pub record MeshBuffers : Type 0 where
  pub starts : List ℕ
  pub neighbours : List ℕ

pub record MeshCapacity : Type 0 where
  pub starts : ℕ
  pub neighbours : ℕ

-- a record of each kind from its two fields
abbrev pub mesh_buffers : List ℕ → List ℕ → MeshBuffers
mesh_buffers starts neighbours = record { starts = starts; neighbours = neighbours }

abbrev pub mesh_lengths : ℕ → ℕ → MeshCapacity
mesh_lengths starts neighbours = record { starts = starts; neighbours = neighbours }

unfoldable pub mesh_capacity : MeshBuffers → MeshCapacity
mesh_capacity b = record { starts = length b.starts; neighbours = length b.neighbours }

-- 8: a lent result is too short: the starts for n + 1, or the neighbours for the entries. No rows are lent, so there is no 9.
unfoldable pub mesh_buffers_too_short : Mesh → MeshCapacity → Bool
mesh_buffers_too_short m room = ltb room.starts (m.nodes + 1) || ltb room.neighbours (length m.neighbours)

-- 1, 3, 26 and 8 of a mesh that is made and not lent: by its making it passes 2 and 4 to 7 (`AcceptedTexts.AcceptedPasses`, `JoinStatements.JoinedPasses`).
-- Document 02, E3: "in E1's reader after 3 and before 8".
unfoldable pub made_checks : Mesh → MeshCapacity → Checks
made_checks m room =
    (1, bad_node_count m.nodes)
    ∷ (3, too_many_entries m)
    ∷ (26, list_too_long m)
    ∷ (8, mesh_buffers_too_short m room)
    ∷ []

-- The answer, and for each lent buffer the entries that are written at its front.
pub record MeshOutcome : Type 0 where
  pub reply : Reply
  pub starts : List ℕ
  pub neighbours : List ℕ

-- by the number of the first fault, 0 for none: "Every refusal leaves all lent memory as found."
unfoldable pub hand_mesh : ℕ → Mesh → MeshOutcome
hand_mesh zero m = record {
  reply = accepted (m.nodes ∷ length m.neighbours ∷ []);
  starts = m.starts;
  neighbours = m.neighbours;
}
hand_mesh (suc k) m = record { reply = refused (suc k); starts = []; neighbours = [] }

-- what the buffers hold afterwards: entries past those used are untouched
unfoldable pub fill_mesh : MeshOutcome → MeshBuffers → MeshBuffers
fill_mesh o found = record { starts = written o.starts found.starts; neighbours = written o.neighbours found.neighbours }

-- an answer and buffers that agree with an outcome
pub record MeshFilled (o : MeshOutcome) (answer : Result MeshCounts Refusal) (found left : MeshBuffers) : Type 0 where
  pub reply : mesh_reply answer ≡ o.reply
  pub starts : left.starts ≡ (fill_mesh o found).starts
  pub neighbours : left.neighbours ≡ (fill_mesh o found).neighbours
