-- `text::input::read_starts` meets its contract: the loop writes each start.
use mathlib.Core.Path.{refl, sym, ap, ◌∙◌}
use mathlib.Core.List.{List}
use Prim.Native.Nat.{ℕ, ◌+◌, ◌<◌}
use native.Mathlib.Omega.{arith}
use lib.ListN.{set, length-set}
use lib.Seq.{take_all}
use Rattle.plan.specs.Lists.{written}
use Rattle.plan.specs.File.{decode16}
use Rattle.plan.specs.Listing.{input_mesh}
use Rattle.theory.proofs.Written.{written_next}
use Rattle.text.proofs.Inputs.{starts-behind, start-within, starts-many, start_at}
use Rattle.text.proofs.input.read_starts.Goals.{In-loop-k}
use Rattle.text.proofs.input.read_starts.Goals as goal

-- start k is one of them
counted : (c : In-loop-k) → c.loop-k.k < decode16 c.args.input.now 0 + 1
counted c = omega (arith, c.loop-k-test.true, c.node_count-count.ensures.0)

pub node_count-count-requires : goal.node_count-count-requires
node_count-count-requires c = omega (arith, starts-behind c.args.input.now)

pub loop-k-init : goal.loop-k-init
loop-k-init c = record { long = refl; front = refl }

pub read32-requires : goal.read32-requires
read32-requires c = omega (arith, start-within c.args.input.now c.loop-k.k (counted (goal.at.read32-requires c).In-loop-k))

pub bounds-starts-k : goal.bounds-starts-k
bounds-starts-k c = omega (arith, counted (goal.at.bounds-starts-k c).In-loop-k, c.loop-k.invariant.long, c.requires.input_in_bounds_2)

pub loop-k-preserved : goal.loop-k-preserved
loop-k-preserved c =
    let k : ℕ = c.loop-k.k in
    record {
      long = length-set c.loop-k.starts k c.read32.result ∙ c.loop-k.invariant.long;
      front = ap (set c.loop-k.starts k) (c.read32.ensures ∙ sym (start_at c.args.input.now k (counted (goal.at.loop-k-preserved c).In-loop-k)))
          ∙ written_next ((input_mesh c.args.input.now).starts) c.args.starts.now c.loop-k.starts k 0 (omega (arith, counted (goal.at.loop-k-preserved c).In-loop-k, starts-many c.args.input.now)) (omega (arith, starts-many c.args.input.now, c.requires.input_in_bounds_2)) c.loop-k.invariant.front;
    }

pub returns : goal.returns
returns c =
    c.loop-k.invariant.front
    ∙ ap (λ (t : List ℕ). written t c.args.starts.now) (take_all c.loop-k.k ((input_mesh c.args.input.now).starts) (omega (arith, starts-many c.args.input.now, c.node_count-count.ensures.0, c.loop-k-test.false)))
