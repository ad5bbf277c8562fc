-- `planfile::file::HeadedFile::read_order_and_parts` meets its contract: the order stands behind the header and the parts behind it, each size two bytes before
-- its parent.
use native.Mathlib.Omega.{arith}
use Rattle.planfile.proofs.Headed.{Sizes, headed_sizes, order_field, sizes_field, parents_field}
use Rattle.planfile.proofs.file.HeadedFile.read_order_and_parts.Goals.{Start}
use Rattle.planfile.proofs.file.HeadedFile.read_order_and_parts.Goals as goal

-- the counts and the length of the file
known : (c : Start) → Sizes c.args.self.now.bytes.now c.args.self.now.head
known c = headed_sizes _ _ c.args.self.now.headed

pub read16s-requires : goal.read16s-requires
read16s-requires c = (omega arith, omega (arith, (known (goal.at.read16s-requires c).Start).long), c.requires.0)

pub overflow_add-parts_at : goal.overflow_add-parts_at
overflow_add-parts_at c = omega (arith, known (goal.at.overflow_add-parts_at c).Start)

pub read16s-requires-2 : goal.read16s-requires-2
read16s-requires-2 c = (omega arith, omega (arith, (known (goal.at.read16s-requires-2 c).Start).long), omega (arith, (known (goal.at.read16s-requires-2 c).Start).parts, c.requires.1))

pub overflow_add-parts_at-2 : goal.overflow_add-parts_at-2
overflow_add-parts_at-2 c = omega (arith, known (goal.at.overflow_add-parts_at-2 c).Start)

pub read16s-requires-3 : goal.read16s-requires-3
read16s-requires-3 c = (omega arith, omega (arith, (known (goal.at.read16s-requires-3 c).Start).long), omega (arith, (known (goal.at.read16s-requires-3 c).Start).parts, c.requires.2))

pub returns : goal.returns
returns c = (
  rw (order_field _ _ c.args.self.now.headed) c.read16s.ensures,
  rw (sizes_field _ _ c.args.self.now.headed) c.read16s-2.ensures,
  rw (parents_field _ _ c.args.self.now.headed) c.read16s-3.ensures,
)
