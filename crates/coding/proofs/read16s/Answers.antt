-- `coding::read16s` meets its contract: the loop writes the numbers one after the other.
use mathlib.Core.Path.{◌≡◌, refl, ap, ◌∙◌}
use mathlib.Core.List.{List, ◌++◌, append-nil}
use Prim.Native.Nat.{ℕ, ◌<◌}
use native.Mathlib.Numerals.{add-one}
use native.Mathlib.Omega.{arith}
use lib.ListN.{length, take, drop, length-set}
use lib.Seq.{length-take-le}
use Rattle.std.proofs.lemmas.List.{drop_all}
use Rattle.plan.specs.Lists.{written}
use Rattle.plan.specs.File.{decode16s}
use Rattle.theory.proofs.Written.{written_push}
use Rattle.theory.proofs.Coding.{decode16s-length, decode16s_push}
use Rattle.coding.proofs.read16s.Goals.{Start}
use Rattle.coding.proofs.read16s.Goals as goal

-- as many places are written
many : (c : Start) → length (take c.args.count c.args.numbers.now) ≡ c.args.count
many c = length-take-le c.args.count c.args.numbers.now (omega (arith, c.requires.2))

pub loop-k-init : goal.loop-k-init
unfolding decode16s
loop-k-init c = record { few = omega arith; long = refl; front = refl }

pub loop-k-preserved : goal.loop-k-preserved
loop-k-preserved c =
    let k : ℕ = c.loop-k.k in
    let found : List ℕ = take c.args.count c.args.numbers.now in
    let inside : k < c.args.count = omega (arith, c.loop-k-test.true, c.loop-k.invariant.long, many (goal.at.loop-k-preserved c).Start) in
    record {
      few = omega (arith, inside);
      long = length-set c.loop-k.number-items k c.read16.result ∙ c.loop-k.invariant.long;
      front = rw (c.loop-k.invariant.front, c.read16.ensures, add-one, decode16s_push c.args.bytes.now c.args.at c.args.apart k)
          (written_push (decode16s c.args.bytes.now c.args.at c.args.apart k) found k _ (decode16s-length c.args.bytes.now c.args.at c.args.apart k) (omega (arith, inside, many (goal.at.loop-k-preserved c).Start)));
    }

pub returns : goal.returns
returns c =
    let count : ℕ = c.args.count in
    let rest : List ℕ = drop count c.args.numbers.now in
    let all : List ℕ = decode16s c.args.bytes.now c.args.at c.args.apart count in
    let found : List ℕ = take count c.args.numbers.now in
    let long : length all ≡ count = decode16s-length c.args.bytes.now c.args.at c.args.apart count in
    let last : c.loop-k.k ≡ count = omega (arith, c.loop-k.invariant.few, c.loop-k-test.false, c.loop-k.invariant.long, many (goal.at.returns c).Start) in
    let front : c.loop-k.number-items ≡ written all found = rw last at c.loop-k.invariant.front in
    ap (λ (l : List ℕ). l ++ rest) (front ∙ ap (λ (l : List ℕ). all ++ l) (drop_all (length all) found (omega (arith, long, many (goal.at.returns c).Start))) ∙ append-nil all)
    ∙ ap (λ (n : ℕ). all ++ drop n c.args.numbers.now) (omega (arith, long))
