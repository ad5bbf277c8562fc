-- `rowchecks::rows::EncodedRows::count` meets its contract: there are two bytes for each row.
use mathlib.Core.Path.{sym}
use Rattle.rowchecks.proofs.RowBytes.{rows-many}
use Rattle.rowchecks.proofs.rows.EncodedRows.count.Goals as goal

pub returns : goal.returns
returns c = sym (rows-many c.args.self.now.0.now)
