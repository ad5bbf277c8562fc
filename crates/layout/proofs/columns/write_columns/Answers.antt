-- `layout::columns::write_columns` meets its contract: the loop writes one column more each turn.
use mathlib.Core.Path.{◌≡◌, refl, ap, ◌∙◌}
use mathlib.Core.List.{List}
use Prim.Native.Nat.{ℕ, ◌+◌, ◌<◌}
use native.Mathlib.Omega.{arith}
use borrow.Author.Rules.{rules}
use lib.ListN.{get_or}
use Rattle.plan.specs.Lists.{written}
use Rattle.mesh.specs.Lent.{as_lent}
use Rattle.plan.specs.Elimination.{column}
use Rattle.mesh.specs.Lists.{none}
use Rattle.mesh.proofs.Lists.{filled_at}
use Rattle.layout.specs.Arrays.{rows_before}
use Rattle.theory.proofs.Written.{written_over}
use Rattle.layout.proofs.Grown.{rows_none, rows_more, rows_all}
use Rattle.layout.proofs.Climbs.{tree-rising}
use Rattle.layout.proofs.columns.write_columns.Goals as goal

pub link_children-requires : goal.link_children-requires
link_children-requires c =
    record {
      n_le_max_nodes = (
        c.requires.ordered.0.checked.few,
        c.requires.ordered.1,
        tree-rising (as_lent c.args.mesh.now) c.args.order.now c.args.tree.now c.requires.ordered.2,
        omega (arith, c.requires.ordered.0.checked.few, c.filled-first.ensures.1),
        omega (arith, c.requires.ordered.0.checked.few, c.filled-next.ensures.1),
      );
      by_index = λ k lt. ap (λ (l : List ℕ). get_or l k 0) c.filled-first.ensures.0 ∙ filled_at none k (omega (arith, c.requires.ordered.0.checked.few));
    }

pub loop-j-init : goal.loop-j-init
loop-j-init c =
    let clear : (i : ℕ) → i < c.args.mesh.now.nodes → get_or c.filled-marks.result i 0 ≡ none = λ i l. ap (λ (m : List ℕ). get_or m i 0) c.filled-marks.ensures.0 ∙ filled_at none i (omega (arith, c.requires.ordered.0.checked.few)) in
    (omega arith, refl, c.filled-marks.ensures.1, λ i r li le lr e. omega (arith, c.requires.ordered.0.checked.few, clear i li), rw (rows_none (as_lent c.args.mesh.now) c.args.order.now))

pub loop-j-preserved : goal.loop-j-preserved
loop-j-preserved c =
    let m = (as_lent c.args.mesh.now) in
    let j : ℕ = c.loop-j.j in (
      search rules,
      c.add.auto.rows ∙ c.loop-j.invariant.1,
      c.add.auto.marks ∙ c.loop-j.invariant.2,
      c.add.ensures.0,
      c.add.ensures.1
          ∙ ap (written (rows_before m c.args.order.now (j + 1))) c.loop-j.invariant.4
          ∙ rw (rows_more m c.args.order.now j) (written_over (rows_before m c.args.order.now j) (column m c.args.order.now j) c.args.rows.now),
    )

pub returns : goal.returns
returns c =
    let e : c.loop-j.j ≡ c.args.mesh.now.nodes = omega arith in
    c.loop-j.invariant.4 ∙ ap (λ (x : List ℕ). written x c.args.rows.now) (ap (rows_before (as_lent c.args.mesh.now) c.args.order.now) e ∙ rows_all (as_lent c.args.mesh.now) c.args.order.now)
