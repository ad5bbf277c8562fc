-- `factor::rows::less_along` meets its contract: the rows agree all the way down.
use Prim.Native.Nat.{◌+◌, ◌-◌}
use Rattle.factor.proofs.Running.{Lessening, Running}
use Rattle.factor.proofs.rows.less_along.Given as goal

-- the slot in column k is as far behind its start as t behind `from`
abbrev pub invariant-loop-t : goal.invariant-loop-t
invariant-loop-t l =
    Lessening l.columns.starts.now l.columns.rows.now l.initial.values l.lower l.k l.first l.from l.to l.v l.values l.t × Running l.columns.starts.now l.columns.rows.now l.k l.to l.t (l.start + (l.t - l.from))
