-- The round trips of the promises: of every writer that keeps Wrote, and every reader and planner that keep Filled.
use mathlib.Core.Path.{◌≡◌, sym, ap, subst, ◌∙◌}
use mathlib.Core.List.{List, [], ◌∷◌}
use Prim.Native.Nat.{ℕ, zero, suc, ◌+◌}
use native.Mathlib.Omega.{arith}
use lib.ListN.{length, get_or, take}
use Rattle.std.specs.Prelude.{Result, Ok, Err}
use Rattle.plan.specs.declared.Plan.{Plan}
use Rattle.plan.specs.declared.refusal.Refusal.{Refusal}
use Rattle.plan.specs.Lists.{written}
use Rattle.plan.specs.Refusals.{first_fault}
use Rattle.plan.specs.Answers.{Reply, accepted, plan_reply, write_reply}
use Rattle.plan.specs.Planning.{Contents, plan_of, Buffers, Capacity, capacity, plan_checks, Outcome, hand_out, planning, fill, Filled}
use Rattle.plan.specs.File.{length_in, file_length, encode, parse, Whole}
use Rattle.plan.specs.Reading.{read_checks, reading}
use Rattle.plan.specs.Writing.{used, write_checks, WriteOutcome, write_out, writing, Wrote}
use Rattle.plan.specs.RoundTrips.{accepted_writing, lent_back, WroteThenFilled, FilledThenWrote, FilledWroteFilled, PlannedThenWrote, Sound}
use Rattle.theory.proofs.Written.{front-written}
use Rattle.theory.proofs.FileFields.{encode-length}
use Rattle.theory.proofs.Planned.{hand_number, handed-planned}
use Rattle.theory.proofs.RoundTrips.{used-long, write_says, write_accepts, read_says, handed_read, written_then_read, read_then_written, planned_is_sound, planned_is_writable}

-- ---- what was written, then read

-- the size that an accepted writing shows is the file's length
shown_size : (k : ℕ) (c : Contents) (size : ℕ) → write_reply (Ok size) ≡ (write_out k c).reply → size ≡ file_length c
unfolding write_out
shown_size zero c size e = ap (λ (r : Reply). get_or r.values 0 0) e
shown_size (suc k) c size e = absurd (omega (arith, ap (λ (r : Reply). r.number) e))

-- and it writes so many bytes
pub written_size : (c : Contents) (output size : ℕ) → write_reply (Ok size) ≡ (writing c output).reply → length (writing c output).bytes ≡ size
written_size c output size e =
    let w = write_says c output (sym (ap (λ (r : Reply). r.number) e)) in
    let shown : size ≡ file_length (used c) = unfold writing used file_length length_in in shown_size (first_fault (write_checks c output)) c size e in
    ap length w.1 ∙ encode-length (used c) w.0.whole ∙ sym shown

-- What was written, then read: the used entries are handed out.
pub wrote_then_filled : WroteThenFilled
wrote_then_filled c size found bytes answer lent left wrote eight nine filled =
    let output : ℕ = length found in
    let front : take size bytes ≡ (writing c output).bytes =
    front-written size (writing c output).bytes found bytes wrote.output (written_size c output size wrote.reply) in
    let back : reading (writing c output).bytes (capacity lent) ≡ hand_out 0 (used c) =
    written_then_read c output (capacity lent) (sym (ap (λ (r : Reply). r.number) wrote.reply)) eight nine in
    subst (λ (o : Outcome). Filled o answer lent left) (ap (λ (l : List ℕ). reading l (capacity lent)) front ∙ back) filled

-- ---- what was read, then written

-- the used entries of buffers that a plan was handed out to, with the counts that were answered, are the plan
filled-used : (c : Contents) (p : Plan) (lent left : Buffers) → Sound c → Filled (hand_out 0 c) (Ok p) lent left → used (lent_back p left) ≡ c
unfolding used hand_out fill
filled-used c p lent left sound h =
    let whole : Whole c = sound.whole in
    let value : (k : ℕ) → get_or (plan_reply (Ok p)).values k 0 ≡ get_or (hand_out 0 c).reply.values k 0 = λ k. ap (λ (r : Reply). get_or r.values k 0) h.reply in
    let nodes : p.nodes ≡ c.nodes = value 0 in
    let parts : p.parts ≡ c.parts = value 1 in
    let slots : p.slots ≡ c.slots = value 2 in
    let unknowns : p.unknowns ≡ c.unknowns = value 4 in
    rw (
      unknowns,
      nodes,
      parts,
      slots,
      front-written c.nodes c.order lent.order left.order h.order whole.order,
      front-written c.parts c.sizes lent.sizes left.sizes h.sizes whole.sizes,
      front-written c.parts c.parents lent.parents left.parents h.parents whole.parents,
      front-written (c.nodes + 1) c.column_starts lent.column_starts left.column_starts h.column_starts whole.column_starts,
      front-written c.slots c.rows lent.rows left.rows h.rows whole.rows,
    )

-- where a plan is the answer, it was handed out
handed_out : (k : ℕ) (c : Contents) (p : Plan) (lent left : Buffers) → Filled (hand_out k c) (Ok p) lent left → Filled (hand_out 0 c) (Ok p) lent left
handed_out k c p lent left h =
    subst (λ (i : ℕ). Filled (hand_out i c) (Ok p) lent left) (sym (hand_number k c) ∙ sym (ap (λ (r : Reply). r.number) h.reply)) h

-- the answer of a writing that shows a size
size_answer : (answer : Result ℕ Refusal) (size : ℕ) → write_reply answer ≡ accepted (size ∷ []) → answer ≡ Ok size
size_answer (Ok n) size e = ap (λ (r : Reply). Ok (get_or r.values 0 0)) e
size_answer (Err k) size e = absurd (omega (arith, ap (λ (r : Reply). length r.values) e))

-- what was written, by the writing's bytes
wrote_bytes : (c : Contents) (bytes found after : List ℕ) (answer : Result ℕ Refusal) → writing c (length found) ≡ accepted_writing bytes → Wrote c answer found after
    → (answer ≡ Ok (length bytes)) × (after ≡ written bytes found)
wrote_bytes c bytes found after answer w wrote = (
  size_answer answer (length bytes) (wrote.reply ∙ ap (λ (o : WriteOutcome). o.reply) w),
  wrote.output ∙ ap (λ (o : WriteOutcome). written o.bytes found) w,
)

-- the used entries of buffers that were read into are the plan that the bytes say
read_used : (bytes : List ℕ) (p : Plan) (lent left : Buffers) → Filled (reading bytes (capacity lent)) (Ok p) lent left → used (lent_back p left) ≡ parse bytes
unfolding reading
read_used bytes p lent left filled =
    let room : Capacity = capacity lent in
    let h : (reading bytes room).reply.number ≡ 0 = sym (ap (λ (r : Reply). r.number) filled.reply) in
    filled-used (parse bytes) p lent left (read_says bytes room h).1 (handed_out (first_fault (read_checks bytes room)) (parse bytes) p lent left filled)

-- What was read, then written: the bytes.
pub filled_then_wrote : FilledThenWrote
filled_then_wrote bytes found after p lent left answer small known filled fits wrote =
    let room : Capacity = capacity lent in
    let c : Contents = lent_back p left in
    let h : (reading bytes room).reply.number ≡ 0 = sym (ap (λ (r : Reply). r.number) filled.reply) in
    let e : used c ≡ parse bytes = read_used bytes p lent left filled in
    wrote_bytes c bytes found after answer (read_then_written bytes room c (length found) small known h (e ∙ sym (handed_read bytes room h)) fits) wrote

-- What was read, written, then read: it is written, and what is handed out is that of the plan that the first bytes say.
pub filled_wrote_filled : FilledWroteFilled
filled_wrote_filled bytes found after p lent left again end answer last filled fits wrote eight nine read =
    let room : Capacity = capacity lent in
    let c : Contents = lent_back p left in
    let h : (reading bytes room).reply.number ≡ 0 = sym (ap (λ (r : Reply). r.number) filled.reply) in
    let e : used c ≡ parse bytes = read_used bytes p lent left filled in
    let sound : Sound (used c) = subst Sound (sym e) (read_says bytes room h).1 in
    let w = wrote_bytes c (encode (used c)) found after answer (write_accepts c (length found) sound fits) wrote in
    let shown : answer ≡ Ok (file_length c) = w.0 ∙ ap Ok (encode-length (used c) sound.whole ∙ used-long c) in (
      shown,
      subst (λ (d : Contents). Filled (hand_out 0 d) last again end) e
          (wrote_then_filled c (file_length c) found after last again end (subst (λ (a : Result ℕ Refusal). Wrote c a found after) shown wrote) eight nine read),
    )

-- ---- what was planned, then written

-- What was planned, then written: the file of the mesh's plan.
pub planned_then_wrote : PlannedThenWrote
unfolding planning
planned_then_wrote u m found after p lent left answer filled fits wrote =
    let room : Capacity = capacity lent in
    let c : Contents = lent_back p left in
    let h : (planning u m room).reply.number ≡ 0 = sym (ap (λ (r : Reply). r.number) filled.reply) in
    let sound : Sound (plan_of u m) = planned_is_sound u m room h in
    let e : used c ≡ plan_of u m = filled-used (plan_of u m) p lent left sound (handed_out (first_fault (plan_checks u m room)) (plan_of u m) p lent left filled) in
    let long : file_length c ≡ file_length (plan_of u m) = sym (used-long c) ∙ ap file_length e in
    let w : writing c (length found) ≡ accepted_writing (encode (plan_of u m)) =
    planned_is_writable u m room c (length found) h (e ∙ sym (handed-planned u m room h)) (omega (arith, long, fits)) ∙ ap (λ (d : Contents). accepted_writing (encode d)) e in
    let r : (answer ≡ Ok (length (encode (plan_of u m)))) × (after ≡ written (encode (plan_of u m)) found) = wrote_bytes c (encode (plan_of u m)) found after answer w wrote in
    (r.0 ∙ ap Ok (encode-length (plan_of u m) sound.whole), r.1)
