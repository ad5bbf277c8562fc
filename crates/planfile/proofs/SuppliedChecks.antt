-- A plan in lent slices: that checks 13 and 15 to 19 do not look at its unknowns, and that behind 13 its fronts, as long as the counts say, are a whole
-- plan.
use mathlib.Core.Path.{◌≡◌, refl, sym, subst}
use mathlib.Core.Bool.{false}
use mathlib.Core.List.{List}
use Prim.Native.Nat.{ℕ, ◌+◌}
use native.Mathlib.Omega.{arith}
use lib.ListN.{length, take}
use Rattle.plan.specs.Refusals.{first_fault}
use Rattle.plan.specs.Planning.{Contents, contents, bad_unknowns}
use Rattle.plan.specs.File.{Whole, bad_header, bad_order, bad_parts, bad_rows, not_nested, not_covered, contents_checks}
use Rattle.plan.specs.Writing.{bad_supply, used, supplied_checks}
use Rattle.theory.proofs.Refusals.{no_fault}
use Rattle.theory.proofs.RoundTrips.{supply_says}
use Rattle.planfile.specs.Supplied.{listed, Exact}

-- ---- what the checks look at

-- the plan of counts and lists alone
abbrev pub unnumbered : Contents → Contents
unnumbered c = listed c.nodes c.parts c.slots c.order c.sizes c.parents c.column_starts c.rows

-- 13 and 15 to 19 do not look at the unknowns
pub supply_listed : (c : Contents) → bad_supply (unnumbered c) ≡ bad_supply c
unfolding bad_supply bad_header
supply_listed c = refl

pub checks_listed : (c : Contents) → contents_checks (unnumbered c) ≡ contents_checks c
unfolding contents_checks bad_order bad_parts bad_rows not_nested not_covered
checks_listed c = refl

pub exact-listed : (c : Contents) → Exact c → Exact (unnumbered c)
unfolding bad_header
exact-listed c x = let w : Whole c = x.whole in record {
  header = x.header;
  whole = record { order = w.order; sizes = w.sizes; parents = w.parents; column_starts = w.column_starts; rows = w.rows };
}

-- ---- the slices' fronts

-- 13 of slices as lent: their used entries are a whole plan that passed it
pub exact-used : (c : Contents) → bad_supply c ≡ false → Exact (used c)
exact-used c h = let says = supply_says c h in record { header = says.0; whole = says.1 }

-- the slices' fronts by themselves, with their lengths as the counts
abbrev pub fronts : Contents → Contents
fronts c =
    let sizes : List ℕ = take c.parts c.sizes in
    let rows : List ℕ = take c.slots c.rows in
    contents c.unknowns c.nodes (length sizes) (length rows) (take c.nodes c.order) sizes (take c.parts c.parents) (take (c.nodes + 1) c.column_starts) rows

-- are the used entries
pub fronts_used : (c : Contents) → Whole (used c) → fronts c ≡ used c
unfolding used
fronts_used c w = rw (w.sizes, w.rows)

-- so they are such a plan
pub exact_fronts : (c : Contents) → bad_supply c ≡ false → Exact (fronts c)
exact_fronts c h = let x = exact-used c h in subst Exact (sym (fronts_used c x.whole)) x

-- where no check of a supplied plan found a fault, 13 found none
pub supply_passed : (c : Contents) → 0 ≡ first_fault (supplied_checks c) → bad_supply c ≡ false
unfolding supplied_checks
supply_passed c passed = (no_fault 13 (bad_supply c) _ (omega arith) (no_fault 28 (bad_unknowns c.unknowns) _ (omega arith) (sym passed)).1).0
