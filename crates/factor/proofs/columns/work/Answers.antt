-- `factor::columns::work` meets its contract: the product fits.
use native.Mathlib.Omega.{arith}
use Rattle.factor.proofs.AllColumns.{product_few}
use Rattle.factor.proofs.columns.work.Goals as goal

pub overflow_mul-result : goal.overflow_mul-result
overflow_mul-result c = omega (arith, product_few c.args.c c.requires)
