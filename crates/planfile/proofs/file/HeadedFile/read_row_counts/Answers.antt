-- `planfile::file::HeadedFile::read_row_counts` meets its contract: the counts stand behind the parts, within the bytes.
use native.Mathlib.Omega.{arith}
use Rattle.planfile.proofs.Headed.{Sizes, headed_sizes, counts_field}
use Rattle.planfile.proofs.file.HeadedFile.read_row_counts.Goals.{Start}
use Rattle.planfile.proofs.file.HeadedFile.read_row_counts.Goals as goal

-- the counts and the length of the file
known : (c : Start) → Sizes c.args.self.now.bytes.now c.args.self.now.head
known c = headed_sizes _ _ c.args.self.now.headed

pub overflow_add-at : goal.overflow_add-at
overflow_add-at c = omega (arith, known (goal.at.overflow_add-at c).Start)

pub overflow_mul-at-2 : goal.overflow_mul-at-2
overflow_mul-at-2 c = omega (arith, known (goal.at.overflow_mul-at-2 c).Start)

pub overflow_add-at-2 : goal.overflow_add-at-2
overflow_add-at-2 c = omega (arith, known (goal.at.overflow_add-at-2 c).Start)

pub read16s-requires : goal.read16s-requires
read16s-requires c = (omega arith, omega (arith, (known (goal.at.read16s-requires c).Start).long), c.requires)

pub returns : goal.returns
returns c = rw (counts_field _ _ c.args.self.now.headed) c.read16s.ensures
