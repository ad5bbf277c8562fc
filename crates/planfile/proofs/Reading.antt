-- Reading step by step: the first fault of its checks, and what is handed out.
use mathlib.Core.Path.{◌≡◌, refl, sym, ◌∙◌}
use mathlib.Core.Bool.{true, false}
use mathlib.Core.List.{List, [], ◌∷◌, ◌++◌}
use Prim.Native.Nat.{ℕ, ◌≤◌, ◌<◌}
use native.Mathlib.Omega.{arith}
use lib.ListN.{length, take}
use borrow.Author.Tests.{lt-ltb, le-ltb}
use Rattle.std.specs.Prelude.{Result, Ok, Err}
use Rattle.plan.specs.declared.refusal.Refusal.{Refusal}
use Rattle.plan.specs.declared.refusal.Refusal.TheVariants as refusal
use Rattle.plan.specs.declared.Plan.{Plan}
use Rattle.plan.specs.Answers.{plan_reply}
use Rattle.plan.specs.Refusals.{number_of, Checks, first_fault}
use Rattle.plan.specs.Elimination.{multiplications}
use Rattle.plan.specs.Planning.{Buffers, Capacity, capacity, buffers_too_short, rows_too_short, hand_out, Filled}
use Rattle.plan.specs.File.{parse, contents_checks}
use Rattle.plan.specs.Reading.{header_checks, read_checks, reading}
use Rattle.theory.proofs.Refusals.{number-suc, fault_here, fault_later, first_nil, first_some, first-none}
use Rattle.theory.proofs.FileFields.{counts_read}
use Rattle.theory.proofs.Handed.{lengths_of, filled-refused}
use Rattle.filechecks.specs.declared.header.Head.{Head}
use Rattle.planfile.specs.Filed.{row_counts_in, Headed}

-- checks 8 and 9, behind those of the file
abbrev late : List ℕ → Capacity → Checks
late bytes room = (8, buffers_too_short (parse bytes).nodes room) ∷ (9, rows_too_short (parse bytes) room) ∷ []

module _ (bytes : List ℕ) (found : Buffers) where
  -- what is handed out by the number of the first fault
  outcome : (k : ℕ) (answer : Result Plan Refusal) (left : Buffers) → k ≡ first_fault (read_checks bytes (capacity found)) → Filled (hand_out k (parse bytes)) answer found left
      → Filled (reading bytes (capacity found)) answer found left
  unfolding reading
  outcome k answer left e h = rw (sym e) h

  -- a fault is refused, and nothing is written
  refused : (r : Refusal) → number_of r ≡ first_fault (read_checks bytes (capacity found)) → Filled (reading bytes (capacity found)) (Err r) found found
  refused r e = outcome (number_of r) (Err r) found e (filled-refused r (parse bytes) found)

  -- what checks 10 to 14 and 28 refuse is refused
  pub header_refused : (r : Refusal) → number_of r ≡ first_fault (header_checks bytes) → Filled (reading bytes (capacity found)) (Err r) found found
  unfolding read_checks
  header_refused r e = refused r (e ∙ sym (first_some (header_checks bytes) _ (λ z. omega (arith, e ∙ z, (number-suc r).1))))

module _ (bytes : List ℕ) (head : Head) (headed : Headed bytes head) (found : Buffers) where
  -- behind them the first fault is that of the checks to come
  header-passed : first_fault (read_checks bytes (capacity found)) ≡ first_fault (contents_checks (parse bytes) ++ late bytes (capacity found))
  unfolding read_checks header_checks
  header-passed = first-none (header_checks bytes) _ refl (sym headed.good)

  -- what 15 to 19 refuse is refused
  pub contents_refused : (r : Refusal) → number_of r ≡ first_fault (contents_checks (parse bytes)) → Filled (reading bytes (capacity found)) (Err r) found found
  contents_refused r e =
      refused bytes found r (e ∙ sym (header-passed ∙ first_some (contents_checks (parse bytes)) _ (λ z. omega (arith, e ∙ z, (number-suc r).1))))

  module _ (good : 0 ≡ first_fault (contents_checks (parse bytes))) where
    -- 8 and 9 are left
    contents-passed : first_fault (read_checks bytes (capacity found)) ≡ first_fault (late bytes (capacity found))
    contents-passed = header-passed ∙ (unfold contents_checks in first-none (contents_checks (parse bytes)) _ refl (sym good))

    -- 8 does not look at the (capacity found) for the rows
    eighth : buffers_too_short (parse bytes).nodes (capacity found) ≡ buffers_too_short head.nodes (lengths_of found)
    unfolding buffers_too_short capacity
    eighth = rw headed.says.nodes

    -- 8 refuses
    pub buffers-refused : buffers_too_short head.nodes (lengths_of found) ≡ true → Filled (reading bytes (capacity found)) (Err refusal.BuffersTooShort) found found
    buffers-refused short = refused bytes found refusal.BuffersTooShort (sym (contents-passed ∙ fault_here 8 _ _ (eighth ∙ short)))

    module _ (fits : buffers_too_short head.nodes (lengths_of found) ≡ false) where
      -- 9 is left
      buffers-passed : first_fault (read_checks bytes (capacity found)) ≡ first_fault ((9, rows_too_short (parse bytes) (capacity found)) ∷ [])
      buffers-passed = contents-passed ∙ fault_later 8 _ _ (eighth ∙ fits)

      -- 9 refuses
      pub rows-refused : length found.rows < head.slots → Filled (reading bytes (capacity found)) (Err refusal.RowsTooShort) found found
      unfolding rows_too_short capacity
      rows-refused short =
          refused bytes found refusal.RowsTooShort
          (sym (buffers-passed ∙ fault_here 9 _ [] (lt-ltb (length found.rows) (parse bytes).slots (omega (arith, headed.says.slots)))))

      -- and else the plan is handed out
      pub read_accepted : (answer : Result Plan Refusal) (left : Buffers) → head.slots ≤ length found.rows → Filled (hand_out 0 (parse bytes)) answer found left
          → Filled (reading bytes (capacity found)) answer found left
      unfolding rows_too_short capacity
      read_accepted answer left many filled =
          outcome bytes found 0 answer left
          (sym (buffers-passed ∙ fault_later 9 _ [] (le-ltb (length found.rows) (parse bytes).slots (omega (arith, headed.says.slots))) ∙ first_nil)) filled

-- the answer is the plan's
pub read_reply : (bytes : List ℕ) (head : Head) → Headed bytes head → (counts : List ℕ) (products : ℕ) (plan : Plan) → take head.nodes counts ≡ row_counts_in bytes
    → products ≡ multiplications (take head.nodes counts)
    → plan ≡ record { nodes = head.nodes; parts = head.parts; slots = head.slots; unknowns = head.unknowns; multiplications = products }
    → plan_reply (Ok plan) ≡ (hand_out 0 (parse bytes)).reply
unfolding hand_out
read_reply bytes head headed counts products plan same k e =
    let says = headed.says in
    rw (e, k, same, counts_read bytes, ← says.nodes, ← says.parts, ← says.slots, says.unknowns)
