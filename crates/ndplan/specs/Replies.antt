-- What C is told: each reply of the C interface from the book's reply, and the answer that a reply stands for.
use Rattle.std.specs.Prelude.{cond, ℕ, eqb, get_or, Result, Ok, Err}
use Rattle.plan.specs.declared.Plan.{Plan}
use Rattle.plan.specs.declared.MeshCounts.{MeshCounts}
use Rattle.plan.specs.declared.refusal.Refusal.{Refusal}
use Rattle.plan.specs.declared.Span.{Span}
use Rattle.plan.specs.declared.RefusalFamily.{RefusalFamily}
use Rattle.plan.specs.declared.RefusalFamily.TheVariants.{Mesh, File, Program, Question, None}
use Rattle.plan.specs.Refusals.{refusal_of}
use Rattle.plan.specs.Answers.{Reply}
use Rattle.ndplan.specs.declared.replies.NdpPlan.{NdpPlan}
use Rattle.ndplan.specs.declared.replies.NdpWritten.{NdpWritten}
use Rattle.ndplan.specs.declared.replies.NdpSlot.{NdpSlot}
use Rattle.ndplan.specs.declared.replies.NdpRows.{NdpRows}
use Rattle.ndplan.specs.declared.replies.NdpPair.{NdpPair}
use Rattle.ndplan.specs.declared.replies.NdpMesh.{NdpMesh}

-- The number of the refusal, and the values by their place in the reply. A refusal has no values, so that every other field is 0, as is the slot of "diagonal"
-- and "no slot".
abbrev pub ndp_plan : Reply → NdpPlan
ndp_plan r = record {
  refusal = r.number;
  nodes = get_or r.values 0 0;
  parts = get_or r.values 1 0;
  slots = get_or r.values 2 0;
  unknowns = get_or r.values 4 0;
  multiplications = get_or r.values 3 0;
}

abbrev pub ndp_written : Reply → NdpWritten
ndp_written r = record { refusal = r.number; length = get_or r.values 0 0 }

abbrev pub ndp_slot : Reply → NdpSlot
ndp_slot r = record { refusal = r.number; kind = get_or r.values 0 0; slot = get_or r.values 1 0 }

abbrev pub ndp_pair : Reply → NdpPair
ndp_pair r = record { refusal = r.number; row = get_or r.values 0 0; column = get_or r.values 1 0 }

abbrev pub ndp_mesh : Reply → NdpMesh
ndp_mesh r = record { refusal = r.number; nodes = get_or r.values 0 0; entries = get_or r.values 1 0 }

-- the column question: its companion's number, and the stretch
abbrev pub ndp_rows : ℕ → Span → NdpRows
ndp_rows k s = record { refusal = k; start = s.start; count = s.count }

-- the families by number
abbrev pub family_number : RefusalFamily → ℕ
family_number None = 0
family_number Mesh = 1
family_number File = 2
family_number Program = 3
family_number Question = 4

-- the answer that a reply stands for: a refusal unless its number is 0
abbrev pub plan_answer_of : NdpPlan → Result Plan Refusal
plan_answer_of r =
    cond (eqb r.refusal 0)
    (Ok (record { nodes = r.nodes; parts = r.parts; slots = r.slots; unknowns = r.unknowns; multiplications = r.multiplications }))
    (Err (refusal_of r.refusal))

abbrev pub write_answer_of : NdpWritten → Result ℕ Refusal
write_answer_of r = cond (eqb r.refusal 0) (Ok r.length) (Err (refusal_of r.refusal))

abbrev pub mesh_answer_of : NdpMesh → Result MeshCounts Refusal
mesh_answer_of r = cond (eqb r.refusal 0) (Ok (record { nodes = r.nodes; entries = r.entries })) (Err (refusal_of r.refusal))
