-- `text::listed::put_lines` meets its contract: the loop puts each position's line.
use mathlib.Core.Path.{◌≡◌, ap, sym, ◌∙◌}
use mathlib.Core.List.{List, ◌++◌, append-nil}
use Prim.Native.Nat.{ℕ}
use native.Mathlib.Omega.{arith}
use lib.ListN.{length, get_or}
use lib.Seq.{take_all}
use Rattle.plan.specs.Lists.{below}
use Rattle.plan.specs.Listing.{line_of, position_line}
use Rattle.theory.proofs.Ranges.{length-up_from, get_or-below}
use Rattle.text.specs.Lines.{shown}
use Rattle.text.proofs.Sequences.{texts, texts-none, texts_room, texts_put}
use Rattle.text.proofs.listed.put_lines.Goals.{After-list}
use Rattle.text.proofs.listed.put_lines.Goals as goal

-- the line of a position
abbrev line : List ℕ → List ℕ → List ℕ → List ℕ → ℕ → List ℕ
line order sizes column_starts rows = position_line (shown 0 0 0 order sizes column_starts rows)

-- the line that is put
put : (c : After-list) → line_of c.loop-j.j (get_or c.args.order.now c.loop-j.j 0) c.part_of.result c.list.result.now
    ≡ line c.args.order.now c.args.sizes.now c.args.column_starts.now c.args.rows.now (get_or (below (length c.args.order.now)) c.loop-j.j 0)
unfolding position_line
put c = rw (get_or-below (length c.args.order.now) c.loop-j.j (omega arith), c.list.ensures, c.part_of.ensures)

pub loop-j-init : goal.loop-j-init
loop-j-init c = sym (ap (λ (t : List ℕ). c.args.text.now ++ t) (texts-none (line c.args.order.now c.args.sizes.now c.args.column_starts.now c.args.rows.now)) ∙ append-nil c.args.text.now)

pub list-requires : goal.list-requires
list-requires c = c.requires.by_index c.loop-j.j (omega arith)

pub line-requires : goal.line-requires
line-requires c =
    omega (
      arith,
      ap length (put (goal.at.line-requires c).After-list),
      texts_room (line c.args.order.now c.args.sizes.now c.args.column_starts.now c.args.rows.now) (below (length c.args.order.now)) c.args.text.now c.loop-j.invariant (omega (arith, length-up_from (length c.args.order.now) 0)) c.requires.room,
    )

pub loop-j-preserved : goal.loop-j-preserved
loop-j-preserved c =
    rw (c.line.ensures, put (goal.at.loop-j-preserved c).After-list)
    (texts_put (line c.args.order.now c.args.sizes.now c.args.column_starts.now c.args.rows.now) (below (length c.args.order.now)) c.args.text.now c.loop-j.invariant (omega (arith, length-up_from (length c.args.order.now) 0)))

pub returns : goal.returns
returns c =
    c.loop-j.invariant
    ∙ ap (λ (js : List ℕ). c.args.text.now ++ texts (line c.args.order.now c.args.sizes.now c.args.column_starts.now c.args.rows.now) js)
    (take_all c.loop-j.j (below (length c.args.order.now)) (omega (arith, length-up_from (length c.args.order.now) 0)))
