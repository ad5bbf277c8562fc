-- `rowchecks::walks::after_column` meets its contract: a sound column changes nothing, and another's faults are added.
use Rattle.rowchecks.proofs.Passed.{started-within}
use Rattle.rowchecks.proofs.Walked.{column_added, column-sound}
use Rattle.rowchecks.proofs.walks.after_column.Goals as goal

pub column_of-column-requires : goal.column_of-column-requires
column_of-column-requires g c = started-within c.args.ranges.now.n c.args.column_starts.now (g.R.Rows.numbers c.args.rows) c.requires.0 c.args.j c.requires.1

pub returns-then-sound : goal.returns-then-sound
returns-then-sound g c sizes parents h before =
    column-sound c.args.ranges.now.n sizes parents c.args.ranges.now.lows.now c.args.ranges.now.ends.now c.args.column_starts.now (g.R.Rows.numbers c.args.rows) h c.args.j c.requires.1
    (g.R.Rows.numbers c.column_of-column.result) c.column_of-column.ensures c.args.faults.unordered c.args.faults.outside before c.sound.result c.sound.ensures c.if-sound.true

pub returns : goal.returns
returns g c sizes parents h before =
    column_added c.args.ranges.now.n sizes parents c.args.ranges.now.lows.now c.args.ranges.now.ends.now c.args.column_starts.now (g.R.Rows.numbers c.args.rows) h c.args.j c.requires.1
    (g.R.Rows.numbers c.column_of-column.result) c.column_of-column.ensures c.args.faults.unordered c.args.faults.outside before
    c.bad_column.result c.outside.result c.bad_column.ensures c.outside.ensures
