-- `repeats::gather` meets its contract.
use mathlib.Core.Path.{refl, sym, ◌∙◌}
use mathlib.Core.Bool.{false≢true}
use mathlib.Core.List.{[], ◌∷◌, ◌++◌}
use Prim.Native.Nat.{◌<◌}
use native.Mathlib.Omega.{arith}
use lib.ListN.{length, length-append, length-set}
use borrow.Author.Rules.{rules}
use Rattle.lexer.specs.Suffixes.{words_at}
use Rattle.lexer.proofs.Suffixes.{line_passed}
use Rattle.matrix_market.proofs.Runs.{passed-blank, passed-pair, passed_bad, gathered_next, read_none, read_blank, read_some}
use Rattle.matrix_market.proofs.repeats.gather.Goals as goal

-- a line that has words has a pair
-- each line holds a pair or nothing
pub unreachable-requires : goal.unreachable-requires
unreachable-requires c = false≢true (sym (passed_bad _ _ _ _ c.loop-i.invariant.passed (read_none _ _ _ c.read_pair.ensures c.in_default.is)) ∙ c.requires.1)

pub loop-i-smaller-in_default-pair : goal.loop-i-smaller-in_default-pair
loop-i-smaller-in_default-pair c =
    let lt : c.loop-i.i < length c.args.text.now = search rules in
    omega (arith, lt, line_passed c.args.text.now c.loop-i.i c.in-Some.line.next lt (read_blank _ _ _ c.read_pair.ensures c.in-Some.line c.in-Some.is c.in_default-pair.is).1)

pub loop-i-preserved-in_default-pair : goal.loop-i-preserved-in_default-pair
loop-i-preserved-in_default-pair c =
    let blank = read_blank _ _ _ c.read_pair.ensures c.in-Some.line c.in-Some.is c.in_default-pair.is in
    record {
      front = c.loop-i.invariant.front;
      passed = passed-blank _ _ _ _ c.loop-i.invariant.passed c.in-Some.line.next (search rules) blank.0 blank.1;
      many = c.loop-i.invariant.many;
      fits = c.loop-i.invariant.fits;
      stored = c.loop-i.invariant.stored;
      long = c.loop-i.invariant.long;
    }

pub loop-i-smaller : goal.loop-i-smaller
loop-i-smaller c =
    let lt : c.loop-i.i < length c.args.text.now = search rules in
    omega (arith, lt, line_passed c.args.text.now c.loop-i.i c.in-Some.line.next lt (read_some _ _ _ c.read_pair.ensures c.in-Some.line c.in-Some.is c.in-Some-pair.pair c.in-Some-pair.is).1)

pub loop-i-preserved : goal.loop-i-preserved
loop-i-preserved c =
    let held = read_some _ _ _ c.read_pair.ensures c.in-Some.line c.in-Some.is c.in-Some-pair.pair c.in-Some-pair.is in
    let line = words_at c.args.text.now c.loop-i.i in
    let room : c.loop-i.k < length c.loop-i.keys = search rules in
    let lt : c.loop-i.k < length c.args.keys.now = omega (arith, c.loop-i.invariant.long, room) in
    record {
      front = c.loop-i.invariant.front ++ (line ∷ []);
      passed = passed-pair _ _ _ _ c.loop-i.invariant.passed c.in-Some.line.next (search rules) held.0.good held.1;
      many = omega (arith, c.loop-i.invariant.many, length-append c.loop-i.invariant.front (line ∷ []));
      fits = omega (arith, lt);
      stored = gathered_next c.loop-i.invariant.front line _ _ held.0.row.0 held.0.column.0 c.args.keys.now c.loop-i.keys _ c.loop-i.k c.key.result c.loop-i.invariant.stored c.loop-i.invariant.many lt c.key.ensures refl;
      long = length-set c.loop-i.keys c.loop-i.k c.key.result ∙ c.loop-i.invariant.long;
    }
