-- `factor::rows::less_known` meets its contract: each slot is where `places` tells.
use Rattle.factor.proofs.Running.{Lessening}
use Rattle.factor.proofs.rows.less_known.Given as goal

abbrev pub invariant-loop-t : goal.invariant-loop-t
invariant-loop-t l = Lessening l.columns.starts.now l.columns.rows.now l.initial.values l.lower l.k l.first l.from l.to l.v l.values l.t
