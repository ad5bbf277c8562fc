-- `text::input::read_neighbours` meets its contract.
use native.Mathlib.Omega.{arith}
use Rattle.plan.specs.Listing.{input_mesh}
use Rattle.text.proofs.Inputs.{starts-behind, entries-within}
use Rattle.text.proofs.input.read_neighbours.Goals as goal

pub neighbours_at-first-requires : goal.neighbours_at-first-requires
neighbours_at-first-requires c = omega (arith, starts-behind c.args.input.now)

pub read16s-requires : goal.read16s-requires
read16s-requires c = (
  omega arith,
  omega (arith, c.neighbours_at-first.ensures, c.entry_count-count.ensures, entries-within c.args.input.now c.requires.input_in_bounds),
  omega (arith, c.entry_count-count.ensures, c.requires.input_in_bounds_2),
)

pub returns : goal.returns
unfolding input_mesh
returns c = rw (← c.neighbours_at-first.ensures, ← c.entry_count-count.ensures) c.read16s.ensures
