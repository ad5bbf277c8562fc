-- `planfile::file::HeadedFile::check` meets its contract: the fields stand at the fronts of the working arrays.
use mathlib.Core.Path.{◌≡◌, sym, ap, ◌∙◌}
use Prim.Native.Nat.{◌+◌}
use native.Mathlib.Omega.{arith}
use lib.ListN.{length, take}
use Rattle.plan.specs.File.{parse}
use Rattle.theory.proofs.Written.{front-written}
use Rattle.planfile.proofs.Headed.{Sizes, headed_sizes, order-many, sizes-many, parents-many, starts-many, starts-written}
use Rattle.planfile.proofs.file.HeadedFile.check.Goals.{Start, After-read_order_and_parts, After-write_starts}
use Rattle.planfile.proofs.file.HeadedFile.check.Goals as goal

-- the counts and the length of the file
known : (c : Start) → Sizes c.args.self.now.bytes.now c.args.self.now.head
known c = headed_sizes _ _ c.args.self.now.headed

pub read_order_and_parts-requires : goal.read_order_and_parts-requires
read_order_and_parts-requires c =
    let few = (known (goal.at.read_order_and_parts-requires c).Start).few in (
      omega (arith, few, c.filled-order.ensures.1),
      omega (arith, few, c.filled-sizes.ensures.1),
      omega (arith, few, c.filled-parents.ensures.1),
    )

pub write_starts-requires : goal.write_starts-requires
write_starts-requires c = ((known (goal.at.write_starts-requires c).Start).few, c.requires.0, omega (arith, (known (goal.at.write_starts-requires c).Start).few, c.zero_starts-column_starts.ensures))

order_front : (c : After-read_order_and_parts) → take c.args.self.now.head.nodes c.read_order_and_parts.new.order ≡ (parse c.args.self.now.bytes.now).order
order_front c = front-written _ _ _ _ c.read_order_and_parts.ensures.0 (order-many _ _ c.args.self.now.headed)

sizes_front : (c : After-read_order_and_parts) → take c.args.self.now.head.parts c.read_order_and_parts.new.sizes ≡ (parse c.args.self.now.bytes.now).sizes
sizes_front c = front-written _ _ _ _ c.read_order_and_parts.ensures.1 (sizes-many _ _ c.args.self.now.headed)

parents_front : (c : After-read_order_and_parts) → take c.args.self.now.head.parts c.read_order_and_parts.new.parents ≡ (parse c.args.self.now.bytes.now).parents
parents_front c = front-written _ _ _ _ c.read_order_and_parts.ensures.2 (parents-many _ _ c.args.self.now.headed)

starts_front : (c : After-write_starts) → take (c.args.self.now.head.nodes + 1) c.write_starts.new.column_starts ≡ (parse c.args.self.now.bytes.now).column_starts
starts_front c = front-written _ _ _ _ (starts-written _ _ c.args.self.now.headed _ _ _ c.requires.1 c.write_starts.ensures) (starts-many _ _ c.args.self.now.headed)

pub slice_bounds-check_fields-end : goal.slice_bounds-check_fields-end
slice_bounds-check_fields-end c = sym (ap length (order_front (goal.at.slice_bounds-check_fields-end c).After-read_order_and_parts) ∙ order-many _ _ c.args.self.now.headed)

pub slice_bounds-check_fields-end-2 : goal.slice_bounds-check_fields-end-2
slice_bounds-check_fields-end-2 c = sym (ap length (sizes_front (goal.at.slice_bounds-check_fields-end-2 c).After-read_order_and_parts) ∙ sizes-many _ _ c.args.self.now.headed)

pub slice_bounds-check_fields-end-3 : goal.slice_bounds-check_fields-end-3
slice_bounds-check_fields-end-3 c = sym (ap length (parents_front (goal.at.slice_bounds-check_fields-end-3 c).After-read_order_and_parts) ∙ parents-many _ _ c.args.self.now.headed)

pub slice_bounds-check_fields-end-4 : goal.slice_bounds-check_fields-end-4
slice_bounds-check_fields-end-4 c = sym (ap length (starts_front (goal.at.slice_bounds-check_fields-end-4 c).After-write_starts) ∙ starts-many _ _ c.args.self.now.headed)

pub check_fields-requires : goal.check_fields-requires
check_fields-requires c = (
  order_front (goal.at.check_fields-requires c).After-read_order_and_parts,
  sizes_front (goal.at.check_fields-requires c).After-read_order_and_parts,
  parents_front (goal.at.check_fields-requires c).After-read_order_and_parts,
  starts_front (goal.at.check_fields-requires c).After-write_starts,
)
