-- `rowchecks::ranges::ranges` meets its contract: widths, numbers, and the ranges of the positions.
use Prim.Native.Nat.{◌≤◌}
use native.Mathlib.Omega.{arith}
use lib.ListN.{length}
use Rattle.plan.specs.Mesh.{max_nodes}
use Rattle.rowchecks.specs.Numbering.{SoundParents}
use Rattle.rowchecks.proofs.Passed.{parts-total, parts-few, parts-parents}
use Rattle.rowchecks.proofs.PartRanges.{ranges_tell}
use Rattle.rowchecks.proofs.ranges.ranges.Goals.{Start}
use Rattle.rowchecks.proofs.ranges.ranges.Goals as goal

-- the parts are few enough for the arrays
few : (c : Start) → (length c.args.parents.now ≤ max_nodes) × (length c.args.sizes.now ≤ max_nodes)
few c =
    let n = parts-few c.args.n c.args.sizes.now c.args.parents.now c.requires.0 in
    (omega (arith, c.requires.0.few, c.requires.0.as_many, n), omega (arith, c.requires.0.few, n))

sound : (c : Start) → SoundParents c.args.parents.now
sound c = parts-parents c.args.n c.args.sizes.now c.args.parents.now c.requires.0

pub add_widths-requires : goal.add_widths-requires
add_widths-requires c = (sound (goal.at.add_widths-requires c).Start, omega (arith, (few (goal.at.add_widths-requires c).Start).0, c.filled_with_root-widths.ensures.0), λ b le. c.filled_with_root-widths.ensures.1 b (omega (arith, (few (goal.at.add_widths-requires c).Start).0)))

pub number-requires : goal.number-requires
number-requires c =
    record {
      sound_parents = (sound (goal.at.number-requires c).Start, omega (arith, (few (goal.at.number-requires c).Start).0, c.add_widths.auto.widths, c.filled_with_root-widths.ensures.0), omega (arith, (few (goal.at.number-requires c).Start).0, c.filled_with_root-firsts.ensures.0), omega (arith, (few (goal.at.number-requires c).Start).0, c.filled_with_root-lasts.ensures.0));
      by_index = (c.add_widths.ensures, c.filled_with_root-firsts.ensures.1 _ (few (goal.at.number-requires c).Start).0);
    }

pub spread-requires : goal.spread-requires
spread-requires c =
    let total = parts-total c.args.n c.args.sizes.now c.args.parents.now c.requires.0 in (
      omega (arith, (few (goal.at.spread-requires c).Start).1, c.number.auto.firsts, c.filled_with_root-firsts.ensures.0),
      omega (arith, (few (goal.at.spread-requires c).Start).1, c.number.auto.lasts, c.filled_with_root-lasts.ensures.0),
      omega (arith, total, c.requires.1),
      omega (arith, total, c.requires.2),
    )

pub returns : goal.returns
returns c =
    ranges_tell c.args.n c.args.sizes.now c.args.parents.now c.requires.0 c.number.new.firsts c.number.new.lasts
    c.spread.new.lows c.spread.new.ends c.number.ensures.0 c.number.ensures.1 c.spread.ensures
    (omega (arith, c.spread.auto.lows, c.requires.1)) (omega (arith, c.spread.auto.ends, c.requires.2))
