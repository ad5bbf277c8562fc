-- `planfile::reader::read_headed` meets its contract: checks 15 to 19, then what is left of reading.
use mathlib.Core.Path.{◌≡◌}
use Prim.Native.Nat.{◌≤◌}
use native.Mathlib.Omega.{arith}
use lib.ListN.{length, take}
use Rattle.std.proofs.lemmas.Result.{err_from_is_err_and}
use Rattle.plan.specs.Planning.{buffers}
use Rattle.theory.proofs.Written.{front-written}
use Rattle.planfile.specs.Filed.{row_counts_in}
use Rattle.planfile.proofs.Headed.{headed_sizes, counts-many}
use Rattle.planfile.proofs.Reading.{contents_refused}
use Rattle.planfile.proofs.reader.read_headed.Goals.{After-read_row_counts}
use Rattle.planfile.proofs.reader.read_headed.Goals as goal

pub read_row_counts-requires : goal.read_row_counts-requires
read_row_counts-requires c = omega (arith, (headed_sizes _ _ c.args.file.now.headed).few, c.requires)

-- the counts stand at the front of the working memory
counted : (c : After-read_row_counts) → (c.args.file.now.head.nodes ≤ length c.read_row_counts.new.counts) × (take c.args.file.now.head.nodes c.read_row_counts.new.counts ≡ row_counts_in c.args.file.now.bytes.now)
counted c = (omega (arith, (headed_sizes _ _ c.args.file.now.headed).few, c.read_row_counts.auto, c.requires), front-written _ _ _ _ c.read_row_counts.ensures (counts-many _ _ c.args.file.now.headed))

pub check-requires : goal.check-requires
check-requires c = counted (goal.at.check-requires c).After-read_row_counts

pub returns-in_err-check : goal.returns-in_err-check
returns-in_err-check c =
    let p = err_from_is_err_and c.from_residual.result c.from_residual.ensures.1 in
    rw (p.1, p.2) (contents_refused _ _ c.args.file.now.headed (buffers c.args.order.now c.args.positions.now c.args.sizes.now c.args.parents.now c.args.column_starts.now c.args.rows.now) c.in_err-check.field-0.0 c.in_err-check.ensures)

pub read_checked-requires-clause-counted : goal.read_checked-requires-clause-counted
read_checked-requires-clause-counted c = counted (goal.at.read_checked-requires-clause-counted c).After-read_row_counts
