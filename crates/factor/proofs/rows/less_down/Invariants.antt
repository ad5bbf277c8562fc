-- `factor::rows::less_down` meets its contract: column k is run down beside the rows, which it holds.
use mathlib.Core.Path.{◌≡◌}
use Prim.Native.Nat.{◌+◌, ◌-◌}
use lib.ListN.{length, get_or}
use Rattle.factor.specs.Down.{Placed}
use Rattle.factor.proofs.Running.{Lessening, Running}
use Rattle.factor.proofs.rows.less_down.Given as goal

-- the slots up to t are noted
abbrev pub invariant-loop-t : goal.invariant-loop-t
invariant-loop-t l =
    Lessening l.columns.starts.now l.columns.rows.now l.initial.values l.lower l.k l.first l.from l.to l.v l.values l.t × Running l.columns.starts.now l.columns.rows.now l.k l.to l.t l.u
    × Placed l.places l.columns.starts.now l.columns.rows.now l.k l.first (get_or l.columns.starts.now l.k 0) l.from l.t × (length l.places ≡ length l.initial.places)

abbrev pub decreases-loop-t : goal.decreases-loop-t
decreases-loop-t l = get_or l.columns.starts.now (l.k + 1) 0 - l.u
