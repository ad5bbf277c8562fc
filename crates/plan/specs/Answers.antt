-- Document 01, "Forms we want to see": "Where an answer is an enum, a definition states this paper's number and values for each of its cases".
use Rattle.std.specs.Prelude.{List, [], ◌∷◌, ℕ, Float, Result, Ok, Err}
use Rattle.plan.specs.declared.Plan.{Plan}
use Rattle.plan.specs.declared.Pair.{Pair}
use Rattle.plan.specs.declared.MeshCounts.{MeshCounts}
use Rattle.plan.specs.declared.refusal.Refusal.{Refusal}
use Rattle.plan.specs.declared.PairAnswer.{PairAnswer}
use Rattle.plan.specs.declared.PairAnswer.TheVariants as pair
use Rattle.plan.specs.declared.HeldAnswer.{HeldAnswer}
use Rattle.plan.specs.declared.HeldAnswer.TheVariants as held
use Rattle.plan.specs.Refusals.{number_of}

-- An answer in document 01's terms: the number of the refusal, 0 for none, and the values where nothing is refused.
pub record Reply : Type 0 where
  pub number : ℕ
  pub values : List ℕ

abbrev pub refused : ℕ → Reply
refused k = record { number = k; values = [] }

abbrev pub accepted : List ℕ → Reply
accepted values = record { number = 0; values = values }

-- planning and reading: nodes, parts, slots, multiplications and, by document 02, E7, the unknowns for each node
abbrev pub plan_reply : Result Plan Refusal → Reply
plan_reply (Ok p) = accepted (p.nodes ∷ p.parts ∷ p.slots ∷ p.multiplications ∷ p.unknowns ∷ [])
plan_reply (Err r) = refused (number_of r)

-- writing: "The writer returns that length"
abbrev pub write_reply : Result ℕ Refusal → Reply
write_reply (Ok bytes) = accepted (bytes ∷ [])
write_reply (Err r) = refused (number_of r)

-- The pair question gives "its slot, "diagonal" or "no slot"": which of the three, by a number of the book's own, and behind the first the slot's
-- number.
abbrev pub slot_case : ℕ
slot_case = 1

abbrev pub diagonal_case : ℕ
diagonal_case = 2

abbrev pub no_slot_case : ℕ
no_slot_case = 3

abbrev pub pair_reply : Result PairAnswer Refusal → Reply
pair_reply (Ok (pair.Slot s)) = accepted (slot_case ∷ s ∷ [])
pair_reply (Ok pair.Diagonal) = accepted (diagonal_case ∷ [])
pair_reply (Ok pair.NoSlot) = accepted (no_slot_case ∷ [])
pair_reply (Err r) = refused (number_of r)

-- the question about a slot: its row, then its column
abbrev pub slot_reply : Result Pair Refusal → Reply
slot_reply (Ok p) = accepted (p.row ∷ p.column ∷ [])
slot_reply (Err r) = refused (number_of r)

-- reading a text, and joining: nodes and entries
abbrev pub mesh_reply : Result MeshCounts Refusal → Reply
mesh_reply (Ok m) = accepted (m.nodes ∷ m.entries ∷ [])
mesh_reply (Err r) = refused (number_of r)

-- Reading the factor at a pair "answers with the number held there, or that there is no slot": which of the two, by a number of the book's own, and with
-- the first the number. A refusal has kind 0, which keeps one of number 0 apart from "no slot": no question has that answer, so it keeps no promise.
pub record HeldReply : Type 0 where
  pub number : ℕ
  pub kind : ℕ
  pub held : List Float

abbrev pub held_case : ℕ
held_case = 1

abbrev pub slotless_case : ℕ
slotless_case = 2

abbrev pub held_reply : HeldAnswer → HeldReply
held_reply (held.Value x) = record { number = 0; kind = held_case; held = x ∷ [] }
held_reply held.NoSlot = record { number = 0; kind = slotless_case; held = [] }
held_reply (held.Refused k) = record { number = k; kind = 0; held = [] }
