-- `planfile::file::HeadedFile::rows` meets its contract: the bytes behind the counts say the rows.
use native.Mathlib.Omega.{arith}
use Rattle.planfile.proofs.Headed.{headed_sizes, rows_behind}
use Rattle.planfile.proofs.file.HeadedFile.rows.Goals as goal

pub returns : goal.returns
returns c = rw c.rows_at-at.ensures (rows_behind _ _ c.args.self.now.headed)

pub slice_bounds-result-count : goal.slice_bounds-result-count
slice_bounds-result-count c = omega (arith, c.rows_at-at.ensures, (headed_sizes _ _ c.args.self.now.headed).long)

pub slice_bounds-result-start : goal.slice_bounds-result-start
slice_bounds-result-start c = omega (arith, c.rows_at-at.ensures, (headed_sizes _ _ c.args.self.now.headed).long)
