-- `plan::family` meets its contract: at each way out the ranges that were tried decide the tests of `family_of`.
use Prim.Native.Nat.{ℕ}
use native.Mathlib.Omega.{arith}
use borrow.Author.Tests.{le-leb, lt-leb}
use Rattle.plan.specs.Refusals.{family_of}
use Rattle.plan.proofs.family.Goals as goal

pub returns-in-20 : goal.returns-in-20
unfolding family_of
returns-in-20 c = rw c.in-20.is

pub returns-in-1-to-9 : goal.returns-in-1-to-9
unfolding family_of
returns-in-1-to-9 c =
    let k : ℕ = c.args.number in
    simp (le-leb 1 k (omega arith), le-leb k 9 (omega arith))

pub returns-in-10-to-19 : goal.returns-in-10-to-19
unfolding family_of
returns-in-10-to-19 c =
    let k : ℕ = c.args.number in
    simp (lt-leb k 9 (omega arith), le-leb 1 k (omega arith), le-leb 10 k (omega arith), le-leb k 19 (omega arith))

pub returns-in-21-to-22 : goal.returns-in-21-to-22
unfolding family_of
returns-in-21-to-22 c =
    let k : ℕ = c.args.number in
    simp (lt-leb k 9 (omega arith), lt-leb k 19 (omega arith), lt-leb k 20 (omega arith), le-leb 1 k (omega arith), le-leb 10 k (omega arith), le-leb 20 k (omega arith), le-leb 21 k (omega arith), le-leb k 22 (omega arith))

pub returns-in_default : goal.returns-in_default
unfolding family_of
returns-in_default c =
    let k : ℕ = c.args.number in
    simp (lt-leb 1 k (omega arith), lt-leb 10 k (omega arith), lt-leb 20 k (omega arith), lt-leb 21 k (omega arith))

pub returns-in_default-2 : goal.returns-in_default-2
unfolding family_of
returns-in_default-2 c =
    let k : ℕ = c.args.number in
    simp (lt-leb k 9 (omega arith), lt-leb k 19 (omega arith), lt-leb k 20 (omega arith), lt-leb k 22 (omega arith), le-leb 1 k (omega arith), le-leb 10 k (omega arith), le-leb 20 k (omega arith), le-leb 21 k (omega arith))
