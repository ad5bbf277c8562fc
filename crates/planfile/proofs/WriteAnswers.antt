-- What the writer's checks say of a plan that passes those of its slices, and the answers that agree with them.
use mathlib.Core.Path.{◌≡◌, refl, sym, ap, ◌∙◌}
use mathlib.Core.List.{List, [], ◌∷◌}
use Prim.Native.Nat.{ℕ, ◌+◌, ◌-◌, ◌≤◌, ◌<◌}
use native.Mathlib.Omega.{arith}
use lib.ListN.{length, get_or}
use borrow.Author.Tests.{lt-ltb}
use Rattle.std.specs.Prelude.{Ok, Err}
use Rattle.plan.specs.declared.refusal.Refusal.{Refusal}
use Rattle.plan.specs.declared.refusal.Refusal.TheVariants.{BuffersTooShort}
use Rattle.plan.specs.Lists.{written}
use Rattle.plan.specs.Refusals.{number_of, Checks, first_fault}
use Rattle.plan.specs.Answers.{accepted, refused}
use Rattle.plan.specs.Planning.{Contents, row_counts}
use Rattle.plan.specs.File.{file_length, encode, contents_checks}
use Rattle.plan.specs.Writing.{used, supplied_checks, output_too_short, write_checks, WriteOutcome, write_out, writing, Wrote}
use Rattle.plan.specs.RoundTrips.{Sound}
use Rattle.theory.proofs.Lists.{is_in-get_or}
use Rattle.theory.proofs.Ranges.{get_or-map-below}
use Rattle.theory.proofs.Checked.{good-starts}
use Rattle.theory.proofs.Refusals.{number-suc, fault_here, first_some, first-none}
use Rattle.theory.proofs.Compressed.{start-next}
use Rattle.theory.proofs.FileFields.{counts-length, encode-length}
use Rattle.theory.proofs.Fitting.{good-rows, sound-fits}
use Rattle.theory.proofs.RoundTrips.{used-long, write_accepts}
use Rattle.planfile.specs.Supplied.{NarrowColumns}

-- where no check finds a fault, each column has a number of rows that fits 16 bits
pub sound-narrow : (c : Contents) → Sound c → NarrowColumns c.nodes c.column_starts
unfolding row_counts
sound-narrow c sound =
    let starts : List ℕ = c.column_starts in
    let count : ℕ → ℕ = λ j. get_or starts (j + 1) 0 - get_or starts j 0 in
    let fits = sound-fits c sound in
    record {
      rising = start-next c.nodes starts (good-starts c.nodes starts (good-rows c sound.rows).starts);
      narrow = λ j lt. omega (
        arith,
        get_or-map-below count 0 c.nodes j lt,
        fits.counts (get_or (row_counts c) j 0) (is_in-get_or (row_counts c) j 0 (omega (arith, counts-length c))),
      );
    }

-- ---- the answers

module _ (c : Contents) (found : List ℕ) where
  -- a refusal: its number, and nothing written
  refused_out : (r : Refusal) → number_of r ≡ first_fault (write_checks c (length found)) → Wrote c (Err r) found found
  unfolding writing write_out
  refused_out r first = let some = number-suc r in record {
    reply = ap refused some.1 ∙ ap (λ (i : ℕ). (write_out i c).reply) (sym some.1 ∙ first);
    output = ap (λ (i : ℕ). written (write_out i c).bytes found) (sym some.1 ∙ first);
  }

  -- a fault of the slices
  pub refused_supplied : (r : Refusal) → number_of r ≡ first_fault (supplied_checks c) → Wrote c (Err r) found found
  unfolding write_checks
  refused_supplied r e = refused_out r (e ∙ sym (first_some (supplied_checks c) _ (λ z. omega (arith, e ∙ z, (number-suc r).1))))

  -- too little room
  pub refused-room : 0 ≡ first_fault (supplied_checks c) → length found < file_length c → Wrote c (Err BuffersTooShort) found found
  unfolding write_checks output_too_short supplied_checks contents_checks
  refused-room passed short =
      let eight : Checks = (8, output_too_short c (length found)) ∷ [] in
      refused_out BuffersTooShort
      (sym (first-none (supplied_checks c) eight refl (sym passed) ∙ fault_here 8 (output_too_short c (length found)) [] (lt-ltb (length found) (file_length c) short)))

  -- no fault
  pub accepted-writing : (left : List ℕ) → Sound (used c) → file_length c ≤ length found → left ≡ written (encode (used c)) found → Wrote c (Ok (file_length c)) found left
  accepted-writing left sound room bytes =
      let w = write_accepts c (length found) sound room in
      record {
        reply = sym (ap (λ (o : WriteOutcome). o.reply) w ∙ ap (λ (k : ℕ). accepted (k ∷ [])) (encode-length (used c) sound.whole ∙ used-long c));
        output = bytes ∙ sym (ap (λ (o : WriteOutcome). written o.bytes found) w);
      }
