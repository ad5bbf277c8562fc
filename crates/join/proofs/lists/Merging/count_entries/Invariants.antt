-- `join::lists::Merging::count_entries` meets its contract: the loop writes the length of one list more in each turn.
use mathlib.Core.Path.{◌≡◌}
use mathlib.Core.List.{map}
use Prim.Native.Nat.{◌≤◌}
use lib.ListN.{length}
use Rattle.plan.specs.Lists.{written}
use Rattle.plan.specs.Mesh.{max_nodes}
use Rattle.join.specs.Merged.{lists_of}
use Rattle.join.proofs.lists.Merging.count_entries.Given as goal

abbrev pub invariant-loop-v : goal.invariant-loop-v
invariant-loop-v l = (l.v ≤ l.self.nodes) × (length l.initial.counts ≡ max_nodes) × (l.counts ≡ written (map length (lists_of l.self l.v)) l.initial.counts)
