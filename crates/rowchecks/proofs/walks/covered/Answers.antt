-- `rowchecks::walks::covered` meets its contract: both columns' rows are compared, or the one's are looked up in marks of the other's.
use mathlib.Core.Path.{◌≡◌, sym, ap, ◌∙◌}
use mathlib.Core.List.{List}
use Prim.Native.Nat.{ℕ, ◌-◌, ◌≤◌}
use native.Mathlib.Omega.{arith}
use lib.ListN.{length, drop, get_or, length-drop}
use lib.Seq.{take_all, length-take-le}
use Rattle.plan.specs.Lists.{is_in, list_at}
use Rattle.rowchecks.proofs.Passed.{laid_within, laid_row, covered-few}
use Rattle.rowchecks.proofs.Covering.{unmarked-next, unmarked_after, FirstAndOthers, first-inside, others-inside, covered_same, covered_marked}
use Rattle.rowchecks.proofs.walks.covered.Given.{Over}
use Rattle.rowchecks.proofs.walks.covered.Goals.{Else-count-lt2, After-row, After-part-others}
use Rattle.rowchecks.proofs.walks.covered.Goals as goal

-- the column has two rows or more
many : (g : Over) (c : Else-count-lt2 g) → 2 ≤ length (list_at c.args.column_starts.now (g.R.Rows.numbers c.args.rows) c.args.j)
many g c = omega (arith, c.if-count-lt2.false, c.count-count.ensures, ap length c.column_of-column.ensures)

-- the first
first_row : (g : Over) (c : After-row g) → c.row.result ≡ get_or (list_at c.args.column_starts.now (g.R.Rows.numbers c.args.rows) c.args.j) 0 0
first_row g c = c.row.ensures ∙ ap (λ (l : List ℕ). get_or l 0 0) c.column_of-column.ensures

pub column_of-column-requires : goal.column_of-column-requires
column_of-column-requires g c = laid_within c.args.n c.args.column_starts.now (g.R.Rows.numbers c.args.rows) c.requires.0 c.args.j c.requires.1

pub returns-then-count-lt2 : goal.returns-then-count-lt2
returns-then-count-lt2 g c = (
  sym (covered-few c.args.column_starts.now (g.R.Rows.numbers c.args.rows) (list_at c.args.column_starts.now (g.R.Rows.numbers c.args.rows) c.args.j) (omega (arith, c.if-count-lt2.true, c.count-count.ensures, ap length c.column_of-column.ensures))),
  unmarked-next c.args.n c.args.j c.args.marks.now c.requires.3,
)

pub column_of-first-requires : goal.column_of-first-requires
column_of-first-requires g c =
    laid_within c.args.n c.args.column_starts.now (g.R.Rows.numbers c.args.rows) c.requires.0 c.row.result
    (omega (
      arith,
      first_row g (goal.at.column_of-first-requires g c).After-row,
      laid_row c.args.n c.args.column_starts.now (g.R.Rows.numbers c.args.rows) c.requires.0 c.args.j c.requires.1 0 (omega (arith, many g (goal.at.column_of-first-requires g c).Else-count-lt2)),
    ))

-- the others are one fewer than the rows
others_many : (g : Over) (c : After-part-others g) → length (g.R.Rows.numbers c.part-others.result) ≡ c.count-count.result - 1
others_many g c =
    let column = g.R.Rows.numbers c.column_of-column.result in
    ap length c.part-others.ensures ∙ length-take-le (c.count-count.result - 1) (drop 1 column) (omega (arith, c.count-count.ensures, length-drop 1 column))

-- the two lists
lists : (g : Over) (c : After-part-others g) → FirstAndOthers c.args.n c.args.column_starts.now (g.R.Rows.numbers c.args.rows) c.args.j
    (g.R.Rows.numbers c.column_of-first.result) (g.R.Rows.numbers c.part-others.result)
lists g c =
    let column = g.R.Rows.numbers c.column_of-column.result in
    record {
      laid = c.requires.0;
      inside = c.requires.1;
      some = omega (arith, c.if-count-lt2.false, c.count-count.ensures, ap length c.column_of-column.ensures);
      of_first = c.column_of-first.ensures ∙ ap (list_at c.args.column_starts.now (g.R.Rows.numbers c.args.rows)) (c.row.ensures ∙ ap (λ (l : List ℕ). get_or l 0 0) c.column_of-column.ensures);
      behind_first = c.part-others.ensures ∙ take_all (c.count-count.result - 1) (drop 1 column) (omega (arith, c.count-count.ensures, length-drop 1 column)) ∙ ap (drop 1) c.column_of-column.ensures;
    }

pub returns-then-count : goal.returns-then-count
returns-then-count g c =
    let both = lists g (goal.at.returns-then-count g c).After-part-others in
    (c.same.ensures ∙ sym (covered_same both (omega (arith, c.if-count.true, c.count.ensures, c.count-count.ensures, others_many g (goal.at.returns-then-count g c).After-part-others))), unmarked-next c.args.n c.args.j c.args.marks.now c.requires.3)

pub mark-requires : goal.mark-requires
mark-requires g c i m = omega (arith, c.requires.2, first-inside (lists g (goal.at.mark-requires g c).After-part-others) i m)

pub all_marked-requires : goal.all_marked-requires
all_marked-requires g c i m = omega (arith, c.requires.2, c.mark.auto.marks, others-inside (lists g (goal.at.all_marked-requires g c).After-part-others) i m)

pub returns : goal.returns
returns g c = (
  c.all_marked.ensures ∙ sym (covered_marked (lists g (goal.at.returns g c).After-part-others) c.args.marks.now c.mark.new.marks c.requires.3 c.mark.ensures),
  unmarked_after c.args.n c.args.j c.args.marks.now c.requires.3 (λ i. is_in i (g.R.Rows.numbers c.column_of-first.result)) c.mark.new.marks c.mark.ensures,
)
