-- `repeats::meets` meets its contract.
use mathlib.Core.Path.{◌≡◌, sym, ap, ap₂, ◌∙◌}
use mathlib.Core.Bool.{false≢true}
use mathlib.Core.List.{[], ◌∷◌, ◌++◌}
use Prim.Native.Nat.{ℕ, ◌<◌}
use native.Mathlib.Omega.{arith}
use lib.ListN.{length}
use borrow.Author.Rules.{rules}
use Rattle.plan.specs.Lists.{exists, is_in}
use Rattle.theory.specs.Keys.{key_of}
use Rattle.lexer.specs.Suffixes.{words_at}
use Rattle.lexer.proofs.Suffixes.{line_passed}
use Rattle.matrix_market.proofs.Runs.{passed-all, passed-blank, passed-pair, passed_bad, read_none, read_blank, read_some}
use Rattle.matrix_market.proofs.Blocks.{key_among, among_found, among_more}
use Rattle.matrix_market.proofs.repeats.meets.Goals.{After-contains}
use Rattle.matrix_market.proofs.repeats.meets.Goals as goal

-- a line that has words has a pair
-- each line holds a pair or nothing
pub unreachable-requires : goal.unreachable-requires
unreachable-requires c = false≢true (sym (passed_bad _ _ _ _ c.loop-i.invariant.passed (read_none _ _ _ c.read_pair.ensures c.in_default.is)) ∙ c.requires.1)

pub loop-i-smaller-in_default-pair : goal.loop-i-smaller-in_default-pair
loop-i-smaller-in_default-pair c =
    let lt : c.loop-i.i < length c.args.text.now = search rules in
    omega (arith, lt, line_passed c.args.text.now c.loop-i.i c.in-Some.line.next lt (read_blank _ _ _ c.read_pair.ensures c.in-Some.line c.in-Some.is c.in_default-pair.is).1)

pub loop-i-preserved-in_default-pair : goal.loop-i-preserved-in_default-pair
loop-i-preserved-in_default-pair c =
    let blank = read_blank _ _ _ c.read_pair.ensures c.in-Some.line c.in-Some.is c.in_default-pair.is in
    record {
      front = c.loop-i.invariant.front;
      passed = passed-blank _ _ _ _ c.loop-i.invariant.passed c.in-Some.line.next (search rules) blank.0 blank.1;
      none = c.loop-i.invariant.none;
    }

-- this is whether the pair's key is among these
found : (c : After-contains) → c.contains.result ≡ key_among c.args.keys.now (words_at c.args.text.now c.loop-i.i)
found c =
    let held = read_some _ _ _ c.read_pair.ensures c.in-Some.line c.in-Some.is c.in-Some-pair.pair c.in-Some-pair.is in
    c.contains.ensures
    ∙ ap (λ (x : ℕ). is_in x c.args.keys.now) (c.key.ensures ∙ ap₂ (λ (a b : ℕ). key_of (a, b)) held.0.row.0 held.0.column.0)

pub returns-then-contains : goal.returns-then-contains
returns-then-contains c =
    let held = read_some _ _ _ c.read_pair.ensures c.in-Some.line c.in-Some.is c.in-Some-pair.pair c.in-Some-pair.is in
    let p = passed-pair _ _ _ _ c.loop-i.invariant.passed c.in-Some.line.next (search rules) held.0.good held.1 in
    sym (ap (exists (key_among c.args.keys.now)) p.lines ∙ among_found c.args.keys.now c.loop-i.invariant.front _ _ (sym (found (goal.at.returns-then-contains c).After-contains) ∙ c.if-contains.true))

pub loop-i-smaller : goal.loop-i-smaller
loop-i-smaller c =
    let lt : c.loop-i.i < length c.args.text.now = search rules in
    omega (arith, lt, line_passed c.args.text.now c.loop-i.i c.in-Some.line.next lt (read_some _ _ _ c.read_pair.ensures c.in-Some.line c.in-Some.is c.in-Some-pair.pair c.in-Some-pair.is).1)

pub loop-i-preserved : goal.loop-i-preserved
loop-i-preserved c =
    let held = read_some _ _ _ c.read_pair.ensures c.in-Some.line c.in-Some.is c.in-Some-pair.pair c.in-Some-pair.is in
    record {
      front = c.loop-i.invariant.front ++ (words_at c.args.text.now c.loop-i.i ∷ []);
      passed = passed-pair _ _ _ _ c.loop-i.invariant.passed c.in-Some.line.next (search rules) held.0.good held.1;
      none = among_more c.args.keys.now c.loop-i.invariant.front _ c.loop-i.invariant.none (sym (found (goal.at.loop-i-preserved c).After-contains) ∙ c.if-contains.false);
    }

pub returns : goal.returns
returns c = sym (ap (exists (key_among c.args.keys.now)) (passed-all _ _ _ _ c.loop-i.invariant.passed (search rules)) ∙ c.loop-i.invariant.none)
