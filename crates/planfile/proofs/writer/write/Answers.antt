-- `planfile::writer::write` meets its promise: the checks of the plan, 8, then the bytes of the entries that its counts name.
use mathlib.Core.Path.{◌≡◌, sym, ap, subst, ◌∙◌}
use mathlib.Core.Bool.{false}
use Prim.Native.Nat.{◌≤◌}
use native.Mathlib.Omega.{arith}
use lib.ListN.{length}
use Rattle.plan.specs.Planning.{Contents, bad_unknowns}
use Rattle.plan.specs.Lists.{written}
use Rattle.plan.specs.File.{nodes_at, length_at, length_in, file_length, encode, bad_header}
use Rattle.plan.specs.Writing.{used}
use Rattle.plan.specs.RoundTrips.{Sound}
use Rattle.theory.proofs.RoundTrips.{used-long, supplied_sound}
use Rattle.planfile.specs.Supplied.{NarrowColumns}
use Rattle.planfile.specs.LentPlans.{contents_of}
use Rattle.planfile.proofs.SuppliedChecks.{supply_passed}
use Rattle.planfile.proofs.WriteAnswers.{sound-narrow, refused-room, accepted-writing}
use Rattle.planfile.proofs.writer.write.Goals.{After-file_length-length}
use Rattle.planfile.proofs.writer.write.Goals as goal

pub file_length-length-requires : goal.file_length-length-requires
unfolding bad_header used
file_length-length-requires c = (omega arith, (supplied_sound (contents_of c.args.plan.now) (sym c.in_ok-check.ensures)).header)

-- the file's length
long : (c : After-file_length-length) → c.file_length-length.result ≡ file_length (contents_of c.args.plan.now)
unfolding file_length length_in nodes_at length_at
long c = c.file_length-length.ensures

pub returns-then-bytes-length : goal.returns-then-bytes-length
returns-then-bytes-length c = refused-room (contents_of c.args.plan.now) c.args.bytes.now c.in_ok-check.ensures (omega (arith, c.if-bytes-length.true, long (goal.at.returns-then-bytes-length c).After-file_length-length))

pub used-requires : goal.used-requires
used-requires c = supply_passed (contents_of c.args.plan.now) c.in_ok-check.ensures

pub write_plan-requires-clause-passed : goal.write_plan-requires-clause-passed
write_plan-requires-clause-passed c =
    let sound : Sound (used (contents_of c.args.plan.now)) = supplied_sound (contents_of c.args.plan.now) (sym c.in_ok-check.ensures) in
    subst (λ (d : Contents). (bad_unknowns d.unknowns ≡ false) × NarrowColumns d.nodes d.column_starts) (sym c.used.ensures) (sound.unknowns, sound-narrow (used (contents_of c.args.plan.now)) sound)

pub write_plan-requires-clause-room : goal.write_plan-requires-clause-room
write_plan-requires-clause-room c = omega (arith, c.if-bytes-length.false, long (goal.at.write_plan-requires-clause-room c).After-file_length-length, ap file_length c.used.ensures, used-long (contents_of c.args.plan.now))

pub returns : goal.returns
returns c =
    let fits : file_length (contents_of c.args.plan.now) ≤ length c.args.bytes.now = omega (arith, c.if-bytes-length.false, long (goal.at.returns c).After-file_length-length) in
    rw (long (goal.at.returns c).After-file_length-length)
    (accepted-writing (contents_of c.args.plan.now) c.args.bytes.now c.write_plan.new.bytes (supplied_sound (contents_of c.args.plan.now) (sym c.in_ok-check.ensures)) fits
    (c.write_plan.ensures ∙ ap (λ (d : Contents). written (encode d) c.args.bytes.now) c.used.ensures))
