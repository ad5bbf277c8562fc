-- `text::put_mesh` meets its contract: what planning leaves in the buffers is listed.
use mathlib.Core.Path.{ap}
use Prim.Native.Nat.{ℕ}
use native.Mathlib.Omega.{arith}
use lib.ListN.{length, replicate, length-replicate}
use Rattle.plan.specs.Planning.{Buffers, capacity}
use Rattle.mesh.specs.Lent.{lent_by}
use Rattle.text.specs.Lines.{mesh_text}
use Rattle.text.proofs.Answers.{Roomy, Listed, planned-listed, mesh-fits}
use Rattle.text.proofs.put_mesh.Goals.{After-plan-answer}
use Rattle.text.proofs.put_mesh.Goals as goal

-- the buffers that planning finds
abbrev found : Buffers
found = record {
  order = replicate 256 0;
  positions = replicate 256 0;
  sizes = replicate 256 0;
  parents = replicate 256 0;
  column_starts = replicate 257 0;
  rows = replicate 32640 0;
}

roomy : Roomy (capacity found)
unfolding capacity
roomy =
    record {
      order = omega (arith, length-replicate {A = ℕ} 256 0);
      positions = omega (arith, length-replicate {A = ℕ} 256 0);
      sizes = omega (arith, length-replicate {A = ℕ} 256 0);
      parents = omega (arith, length-replicate {A = ℕ} 256 0);
      column_starts = omega (arith, length-replicate {A = ℕ} 257 0);
      rows = omega (arith, length-replicate {A = ℕ} 32640 0);
    }

-- from which the mesh is listed
listed : (c : After-plan-answer) → Listed c.plan-answer.result (record { order = c.plan-answer.new.order; positions = c.plan-answer.new.positions; sizes = c.plan-answer.new.sizes; parents = c.plan-answer.new.parents; column_starts = c.plan-answer.new.column_starts; rows = c.plan-answer.new.rows }) (mesh_text (lent_by c.args.mesh.now))
listed c = planned-listed (lent_by c.args.mesh.now) c.requires.0 c.plan-answer.result found _ roomy c.plan-answer.ensures

pub put_answer-requires : goal.put_answer-requires
put_answer-requires c =
    record {
      answer_within = (listed (goal.at.put_answer-requires c).After-plan-answer).held;
      room = omega (arith, ap length (listed (goal.at.put_answer-requires c).After-plan-answer).same, mesh-fits (lent_by c.args.mesh.now) c.requires.0, ap length c.requires.1);
    }

pub returns : goal.returns
returns c = rw (c.put_answer.ensures, c.requires.1) (listed (goal.at.returns c).After-plan-answer).same
