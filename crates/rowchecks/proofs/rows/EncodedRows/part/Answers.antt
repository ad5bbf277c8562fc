-- `rowchecks::rows::EncodedRows::part` meets its contract: the bytes of rows a up to e are two for each.
use native.Mathlib.Omega.{arith}
use Rattle.rowchecks.proofs.RowBytes.{rows-many, part-rows}
use Rattle.rowchecks.proofs.rows.EncodedRows.part.Goals as goal

pub overflow_mul-start : goal.overflow_mul-start
overflow_mul-start c = omega (arith, c.requires.0, c.requires.1, rows-many c.args.self.now.0.now)

pub overflow_mul-end : goal.overflow_mul-end
overflow_mul-end c = omega (arith, c.requires.1, rows-many c.args.self.now.0.now)

pub slice_bounds-result-end : goal.slice_bounds-result-end
slice_bounds-result-end c = omega (arith, c.requires.1, rows-many c.args.self.now.0.now)

pub returns : goal.returns
returns c = part-rows c.args.self.now.0.now c.args.a c.args.e c.requires.0 c.requires.1
