-- `factor::column::divide` meets its contract: slot after slot, each value is kept, then divided, and what comes of it is kept too.
use Rattle.factor.proofs.ColumnSteps.{Dividing}
use Rattle.factor.proofs.column.divide.Given as goal

abbrev pub invariant-loop-s : goal.invariant-loop-s
invariant-loop-s l = Dividing l.initial.values l.initial.kept l.initial.lower l.from l.to l.d l.values l.kept l.lower l.s
