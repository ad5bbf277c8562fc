-- `coding::write32` meets its contract: the lower half, and the upper half behind it.
use mathlib.Core.Path.{sym}
use Prim.Native.Nat.{◌%◌, ◌/◌}
use Rattle.plan.specs.File.{encode16, encode32}
use Rattle.theory.proofs.Written.{written_grow}
use Rattle.theory.proofs.Coding.{encode16-length}
use Rattle.coding.proofs.write32.Goals as goal

pub returns : goal.returns
unfolding encode32
returns c = written_grow c.args.bytes.now c.write16.new.bytes (encode16 (c.args.x % 65536)) (encode16 (c.args.x / 65536)) c.write16-2.new.bytes 2 c.write16.ensures (sym (encode16-length (c.args.x % 65536))) c.write16-2.ensures
