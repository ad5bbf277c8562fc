-- `filechecks::header::bad_length` meets its contract: the length is compared with that of the head's counts.
use mathlib.Core.Path.{ap, ◌∙◌}
use mathlib.Core.Bool.{not}
use lib.ListN.{length}
use lib.Dec.{eqb}
use Prim.Native.Nat.{ℕ}
use Rattle.plan.specs.Reading.{bad_length}
use Rattle.filechecks.proofs.Fields.{head_counts, head_length, head_early}
use Rattle.filechecks.proofs.header.bad_length.Goals as goal

pub file_length-requires : goal.file_length-requires
file_length-requires c = (head_early c.args.bytes.now c.args.head.now c.requires.head_of, head_counts c.args.bytes.now c.args.head.now c.requires.head_of ∙ c.requires.counted)

pub returns : goal.returns
unfolding bad_length
returns c = ap (λ (k : ℕ). not (eqb (length c.args.bytes.now) k)) (c.file_length.ensures ∙ head_length c.args.bytes.now c.args.head.now c.requires.head_of)
