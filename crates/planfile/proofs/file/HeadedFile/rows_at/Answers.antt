-- `planfile::file::HeadedFile::rows_at` meets its contract: the counts are small.
use native.Mathlib.Omega.{arith}
use Rattle.planfile.proofs.Headed.{Sizes, headed_sizes}
use Rattle.planfile.proofs.file.HeadedFile.rows_at.Goals.{Start}
use Rattle.planfile.proofs.file.HeadedFile.rows_at.Goals as goal

-- the counts and the length of the file
known : (c : Start) → Sizes c.args.self.now.bytes.now c.args.self.now.head
known c = headed_sizes _ _ c.args.self.now.headed

pub overflow_mul-result : goal.overflow_mul-result
overflow_mul-result c = omega (arith, known (goal.at.overflow_mul-result c).Start)

pub overflow_add-result : goal.overflow_add-result
overflow_add-result c = omega (arith, known (goal.at.overflow_add-result c).Start)

pub overflow_mul-result-2 : goal.overflow_mul-result-2
overflow_mul-result-2 c = omega (arith, known (goal.at.overflow_mul-result-2 c).Start)

pub overflow_add-result-2 : goal.overflow_add-result-2
overflow_add-result-2 c = omega (arith, known (goal.at.overflow_add-result-2 c).Start)
