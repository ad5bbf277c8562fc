-- `text::output::Text::all` meets its contract: the loop puts each number.
use mathlib.Core.Path.{ap, sym, ◌∙◌}
use mathlib.Core.List.{List, ◌++◌, append-nil}
use Prim.Native.Nat.{ℕ, ◌+◌, ◌≤◌}
use native.Mathlib.Omega.{arith}
use lib.ListN.{length, get_or}
use lib.Seq.{take_all}
use Rattle.text.specs.Room.{longest}
use Rattle.text.proofs.Sequences.{texts, texts-none, texts_room, texts_put}
use Rattle.text.proofs.Decimals.{spaced_one, spaced_one_lem, spaced-texts}
use Rattle.text.proofs.output.Text.all.Goals as goal

pub loop-x-init : goal.loop-x-init
loop-x-init c = sym (ap (λ (t : List ℕ). c.args.self.now ++ t) (texts-none spaced_one) ∙ append-nil c.args.self.now)

pub spaced-requires : goal.spaced-requires
spaced-requires c =
    let room : length c.args.self.now + length (texts spaced_one c.args.numbers.now) ≤ longest = rw (spaced-texts c.args.numbers.now) c.requires in
    omega (arith, ap length (spaced_one_lem (get_or c.args.numbers.now c.loop-x.x-index 0)), texts_room spaced_one c.args.numbers.now c.args.self.now c.loop-x.invariant (omega arith) room)

pub loop-x-preserved : goal.loop-x-preserved
loop-x-preserved c = rw (c.spaced.ensures, spaced_one_lem (get_or c.args.numbers.now c.loop-x.x-index 0)) (texts_put spaced_one c.args.numbers.now c.args.self.now c.loop-x.invariant (omega arith))

pub returns : goal.returns
returns c = c.loop-x.invariant ∙ ap (λ (t : List ℕ). c.args.self.now ++ t) (ap (texts spaced_one) (take_all c.loop-x.x-index c.args.numbers.now (omega arith)) ∙ spaced-texts c.args.numbers.now)
