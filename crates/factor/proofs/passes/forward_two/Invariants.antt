-- `factor::passes::forward_two` meets its contract: the rows from slot s of the one column and slot t of the other on are left.
use Prim.Native.Nat.{◌+◌}
use Rattle.factor.proofs.TwoColumns.{Both}
use Rattle.factor.proofs.passes.forward_two.Given as goal

abbrev pub invariant-loop-s : goal.invariant-loop-s
invariant-loop-s l = Both l.filled.columns.starts.now l.filled.columns.rows.now l.filled.values.now l.j l.initial.vector l.s (l.s + l.ahead) l.x l.z l.vector
