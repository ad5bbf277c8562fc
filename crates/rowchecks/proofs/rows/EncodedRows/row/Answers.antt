-- `rowchecks::rows::EncodedRows::row` meets its contract: row k is the number at byte 2k, within the bytes.
use mathlib.Core.Path.{sym, ◌∙◌}
use native.Mathlib.Omega.{arith}
use Rattle.rowchecks.proofs.RowBytes.{row_within, row_at}
use Rattle.rowchecks.proofs.rows.EncodedRows.row.Goals as goal

pub overflow_mul-k : goal.overflow_mul-k
overflow_mul-k c = omega (arith, row_within c.args.self.now.0.now c.args.k c.requires)

pub read16-requires : goal.read16-requires
read16-requires c = row_within c.args.self.now.0.now c.args.k c.requires

pub returns : goal.returns
returns c = c.read16.ensures ∙ sym (row_at c.args.self.now.0.now c.args.k c.requires)
