-- `join::lists::Merging::write_entries` meets its contract: the loop writes one list more in each turn, behind those before it.
use mathlib.Core.List.{flatten}
use Prim.Native.Nat.{◌≤◌}
use Rattle.theory.proofs.Written.{Reached}
use Rattle.join.specs.Merged.{lists_of}
use Rattle.join.proofs.lists.Merging.write_entries.Given as goal

abbrev pub invariant-loop-v : goal.invariant-loop-v
invariant-loop-v l = (l.v ≤ l.self.nodes) × Reached l.initial.neighbours (flatten (lists_of l.self l.v)) l.neighbours l.at
