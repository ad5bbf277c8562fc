-- `pairs::survey` meets its contract.
use mathlib.Core.Path.{◌≡◌, ap, ◌∙◌}
use mathlib.Core.List.{[], ◌∷◌, ◌++◌}
use Prim.Native.Nat.{◌<◌}
use native.Mathlib.Omega.{arith}
use lib.ListN.{length, length-set}
use borrow.Author.Rules.{rules}
use Rattle.matrix_market.specs.declared.pairs.Tally.{Tally}
use Rattle.lexer.specs.Suffixes.{words_at, lines_at}
use Rattle.lexer.proofs.Suffixes.{line_passed}
use Rattle.matrix_market.proofs.Runs.{passed-all, passed-blank, passed-pair, passed_bad, told-next, stored_next, links_few, read_none, read_blank, read_some}
use Rattle.matrix_market.proofs.pairs.survey.Goals as goal

pub returns-in_err-line : goal.returns-in_err-line
returns-in_err-line c =
    rw c.from_residual.ensures (record {
      all = passed_bad _ _ _ _ c.loop-i.invariant.passed (read_none _ _ _ c.read_pair.ensures c.in_err-line.was);
      long = c.loop-i.invariant.long;
    })

pub loop-i-smaller-in_default : goal.loop-i-smaller-in_default
loop-i-smaller-in_default c =
    let lt : c.loop-i.i < length c.args.text.now = search rules in
    omega (arith, lt, line_passed c.args.text.now c.loop-i.i c.in_ok-line.line.next lt (read_blank _ _ _ c.read_pair.ensures c.in_ok-line.line c.in_ok-line.was c.in_default.is).1)

pub loop-i-preserved-in_default : goal.loop-i-preserved-in_default
loop-i-preserved-in_default c =
    let blank = read_blank _ _ _ c.read_pair.ensures c.in_ok-line.line c.in_ok-line.was c.in_default.is in
    record {
      front = c.loop-i.invariant.front;
      passed = passed-blank _ _ _ _ c.loop-i.invariant.passed c.in_ok-line.line.next (search rules) blank.0 blank.1;
      told = c.loop-i.invariant.told;
      stored = c.loop-i.invariant.stored;
      long = c.loop-i.invariant.long;
    }

pub with-s-requires : goal.with-s-requires
with-s-requires c =
    let lt : c.loop-i.i < length c.args.text.now = search rules in
    rw c.loop-i.invariant.told (omega (arith, c.loop-i.invariant.passed.few, lt), links_few c.loop-i.invariant.front)

pub loop-i-smaller : goal.loop-i-smaller
loop-i-smaller c =
    let lt : c.loop-i.i < length c.args.text.now = search rules in
    omega (arith, lt, line_passed c.args.text.now c.loop-i.i c.in_ok-line.line.next lt (read_some _ _ _ c.read_pair.ensures c.in_ok-line.line c.in_ok-line.was c.in-Some.pair c.in-Some.is).1)

pub loop-i-preserved : goal.loop-i-preserved
loop-i-preserved c =
    let held = read_some _ _ _ c.read_pair.ensures c.in_ok-line.line c.in_ok-line.was c.in-Some.pair c.in-Some.is in
    let line = words_at c.args.text.now c.loop-i.i in
    let row = held.0.row.0 in
    let column = held.0.column.0 in
    record {
      front = c.loop-i.invariant.front ++ (line ∷ []);
      passed = passed-pair _ _ _ _ c.loop-i.invariant.passed c.in_ok-line.line.next (search rules) held.0.good held.1;
      told = told-next c.loop-i.invariant.front line _ _ row column c.args.n c.loop-i.s c.with-s.result c.loop-i.invariant.told c.with-s.ensures;
      stored = stored_next c.loop-i.invariant.front line _ _ row column c.args.keys.now c.loop-i.keys c.store.new.keys c.loop-i.s.pairs c.key.result c.loop-i.invariant.stored (ap (λ (t : Tally). t.pairs) c.loop-i.invariant.told) c.key.ensures c.store.ensures;
      long = ap length c.store.ensures ∙ length-set c.loop-i.keys c.loop-i.s.pairs c.key.result ∙ c.loop-i.invariant.long;
    }

pub returns : goal.returns
returns c =
    let all : lines_at c.args.text.now c.args.at ≡ c.loop-i.invariant.front = passed-all _ _ _ _ c.loop-i.invariant.passed (search rules) in
    rw all (record {
      all = record { good = c.loop-i.invariant.passed.good; told = c.loop-i.invariant.told; keys = c.loop-i.invariant.stored };
      long = c.loop-i.invariant.long;
    })
