-- `planfile::writer::write_header` meets its contract: the mark, then the version, the unknowns and the counts, each behind what is written.
use mathlib.Core.Path.{sym, ap, ◌∙◌}
use mathlib.Core.List.{List, ◌++◌}
use Prim.Native.Nat.{ℕ, ◌≤◌}
use native.Mathlib.Omega.{arith}
use lib.ListN.{length, drop}
use Rattle.plan.specs.Lists.{written}
use Rattle.plan.specs.Mesh.{max_nodes}
use Rattle.plan.specs.File.{encode16, encode32, magic, version}
use Rattle.theory.proofs.Written.{Reached, reached_more}
use Rattle.theory.proofs.Coding.{encode16-length}
use Rattle.theory.proofs.FileFields.{word_length}
use Rattle.theory.proofs.Fitting.{unknowns_limits, counts-few}
use Rattle.planfile.specs.LentPlans.{used_by}
use Rattle.planfile.proofs.WrittenFile.{header_fields}
use Rattle.planfile.proofs.writer.write_header.Goals.{Start}
use Rattle.planfile.proofs.writer.write_header.Goals as goal

-- the counts are numbers of 32 bits
small : (c : Start) → (c.args.plan.now.nodes ≤ max_nodes) × ((length c.args.plan.now.sizes.now) ≤ max_nodes) × ((length c.args.plan.now.rows.now) ≤ 8386560)
small c = counts-few (used_by c.args.plan.now) c.args.plan.now.exact.header

pub returns : goal.returns
returns c =
    let u : ℕ = c.args.plan.now.unknowns in
    let n : ℕ = c.args.plan.now.nodes in
    let p : ℕ = (length c.args.plan.now.sizes.now) in
    let s : ℕ = (length c.args.plan.now.rows.now) in
    let found : List ℕ = c.args.bytes.now in
    let mark : Reached found magic (c.copy_from_slice.new.self ++ drop 3 found) 3 =
    record { front = ap (λ (l : List ℕ). l ++ drop 3 found) c.copy_from_slice.ensures.after; many = omega arith } in
    let first = reached_more found magic _ 3 mark (encode16 version) c.write16.new.bytes 5 c.write16.ensures (omega (arith, encode16-length version)) in
    let second = reached_more found (magic ++ encode16 version) _ 5 first (encode16 u) c.write16-2.new.bytes 7 c.write16-2.ensures (omega (arith, encode16-length u)) in
    let third = reached_more found ((magic ++ encode16 version) ++ encode16 u) _ 7 second (encode32 n) c.write32.new.bytes 11 c.write32.ensures (omega (arith, word_length n)) in
    let fourth = reached_more found (((magic ++ encode16 version) ++ encode16 u) ++ encode32 n) _ 11 third (encode32 p) c.write32-2.new.bytes 15 c.write32-2.ensures (omega (arith, word_length p)) in
    let fifth = reached_more found ((((magic ++ encode16 version) ++ encode16 u) ++ encode32 n) ++ encode32 p) _ 15 fourth (encode32 s) c.write32-3.new.bytes 19 c.write32-3.ensures (omega (arith, word_length s)) in
    fifth.front ∙ ap (λ (l : List ℕ). written l found) (sym (header_fields u n p s))

pub overflow_cast-plan : goal.overflow_cast-plan
overflow_cast-plan c = omega (arith, (unknowns_limits c.args.plan.now.unknowns c.requires.0).1)

pub overflow_cast-plan-2 : goal.overflow_cast-plan-2
overflow_cast-plan-2 c = omega (arith, (small (goal.at.overflow_cast-plan-2 c).Start).0)

pub overflow_cast-plan-3 : goal.overflow_cast-plan-3
overflow_cast-plan-3 c = omega (arith, (small (goal.at.overflow_cast-plan-3 c).Start).1)

pub overflow_cast-plan-4 : goal.overflow_cast-plan-4
overflow_cast-plan-4 c = omega (arith, (small (goal.at.overflow_cast-plan-4 c).Start).2)
