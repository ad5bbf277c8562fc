-- `filechecks::header::bad_header` meets its contract: the product of n and n - 1 is small.
use mathlib.Core.Path.{sym, ◌∙◌}
use native.Mathlib.Omega.{arith}
use Rattle.theory.proofs.Checked.{node_count}
use Rattle.theory.proofs.Fitting.{pairs-few}
use Rattle.filechecks.proofs.header.bad_header.Goals as goal

pub overflow_mul-result : goal.overflow_mul-result
overflow_mul-result c = omega (arith, pairs-few c.args.n (node_count c.args.n (sym c.bad_node_count.ensures ∙ c.if-bad_node_count.false)).1)
