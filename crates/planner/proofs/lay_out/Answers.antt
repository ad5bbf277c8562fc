-- `planner::lay_out` meets its contract: the counts give the column starts, and these the rows.
use mathlib.Core.Path.{◌≡◌}
use native.Mathlib.Omega.{arith}
use Rattle.plan.specs.Lists.{written}
use Rattle.plan.specs.Elimination.{columns, starts_of}
use Rattle.theory.proofs.Orders.{order-length}
use Rattle.mesh.specs.Lent.{as_lent}
use Rattle.planner.proofs.Planning.{order-own, inverted, starts-written, starts-front}
use Rattle.planner.proofs.lay_out.Goals.{After-write_starts}
use Rattle.planner.proofs.lay_out.Goals as goal

pub invert-requires : goal.invert-requires
invert-requires c = (order-own c.args.mesh.now.nodes c.args.nodes.now c.requires.ordered.0, omega (arith, order-length c.args.mesh.now.nodes c.args.nodes.now c.requires.ordered.0, c.args.mesh.now.checked.few), omega (arith, order-length c.args.mesh.now.nodes c.args.nodes.now c.requires.ordered.0, c.requires.n_in_bounds_2.0))

-- the column starts are those of the columns
columns_start : (c : After-write_starts) → c.write_starts.new.column_starts ≡ written (starts_of (columns (as_lent c.args.mesh.now) c.args.nodes.now)) c.args.column_starts.now
columns_start c = starts-written (as_lent c.args.mesh.now) c.args.nodes.now c.args.counts.now c.args.column_starts.now _ c.requires.n_in_bounds.1 c.write_starts.ensures

pub write_columns-requires : goal.write_columns-requires
write_columns-requires c =
    record {
      ordered = (inverted (as_lent c.args.mesh.now) c.args.nodes.now c.args.positions.now _ c.args.mesh.now.checked c.requires.ordered.0 c.invert.ensures, c.requires.ordered.1, c.requires.ordered.2);
      column_starts_value = (starts-front (as_lent c.args.mesh.now) c.args.nodes.now c.args.column_starts.now _ (columns_start (goal.at.write_columns-requires c).After-write_starts), c.requires.n_in_bounds_2.2);
    }

pub returns : goal.returns
returns c =
    record {
      positions_after = rw (order-length c.args.mesh.now.nodes c.args.nodes.now c.requires.ordered.0) at c.invert.ensures;
      column_starts_after = columns_start (goal.at.returns c).After-write_starts;
      rows_after = c.write_columns.ensures;
    }
