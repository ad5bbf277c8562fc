-- `filechecks::header::read_head` meets its contract: the counts stand in the 12 bytes before the order.
use mathlib.Core.Path.{◌≡◌}
use Prim.Native.Nat.{◌-◌}
use native.Mathlib.Omega.{arith}
use Rattle.plan.specs.File.{version_of, nodes_at, parse_at, parse}
use Rattle.filechecks.proofs.header.read_head.Goals.{After-head_end-end}
use Rattle.filechecks.proofs.header.read_head.Goals as goal

-- n stands 12 bytes before the order
place : (c : After-head_end-end) → c.head_end-end.result - 12 ≡ nodes_at (version_of c.args.bytes.now)
place c = omega (arith, c.head_end-end.ensures)

pub returns : goal.returns
unfolding parse parse_at
returns c = record {
  end = c.head_end-end.ensures;
  unknowns = c.read_unknowns-unknowns.ensures;
  nodes = rw (← place (goal.at.returns c).After-head_end-end) c.read32-nodes.ensures;
  parts = rw (← place (goal.at.returns c).After-head_end-end) c.read32-parts.ensures;
  slots = rw (← place (goal.at.returns c).After-head_end-end) c.read32-slots.ensures;
}
