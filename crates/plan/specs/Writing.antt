-- Document 01 and document 02, E7, writing a plan file: checks 28, 13, 15 to 19, then 8, and what the output holds afterwards.
use Rattle.std.specs.Prelude.{Bool, ◌||◌, ◌≡◌, List, [], ◌∷◌, ◌++◌, ℕ, zero, suc, ◌+◌, ltb, length, take, Result}
use Rattle.plan.specs.declared.refusal.Refusal.{Refusal}
use Rattle.plan.specs.Lists.{written}
use Rattle.plan.specs.Refusals.{Checks, first_fault}
use Rattle.plan.specs.Answers.{Reply, accepted, refused, write_reply}
use Rattle.plan.specs.Planning.{Contents, bad_unknowns}
use Rattle.plan.specs.File.{file_length, encode, bad_header, contents_checks}

-- 13, "also when a lent slice is shorter than its count"
unfoldable pub bad_supply : Contents → Bool
bad_supply c =
    bad_header c || ltb (length c.order) c.nodes || ltb (length c.sizes) c.parts || ltb (length c.parents) c.parts
    || ltb (length c.column_starts) (c.nodes + 1) || ltb (length c.rows) c.slots

-- as many entries of each slice as its count says; the slices may be longer
unfoldable pub used : Contents → Contents
used c = record {
  unknowns = c.unknowns;
  nodes = c.nodes;
  parts = c.parts;
  slots = c.slots;
  order = take c.nodes c.order;
  sizes = take c.parts c.sizes;
  parents = take c.parts c.parents;
  column_starts = take (c.nodes + 1) c.column_starts;
  rows = take c.slots c.rows;
}

-- the checks of a plan that is supplied in slices: "13 (also ..), 15 to 19", and 28 "before 13"
unfoldable pub supplied_checks : Contents → Checks
supplied_checks c = (28, bad_unknowns c.unknowns) ∷ (13, bad_supply c) ∷ contents_checks (used c)

-- 8 "for its output", which has room for so many bytes
unfoldable pub output_too_short : Contents → ℕ → Bool
output_too_short c room = ltb room (file_length c)

-- "It checks 13 .., 15 to 19 .., then 8 for its output."
unfoldable pub write_checks : Contents → ℕ → Checks
write_checks c room = supplied_checks c ++ ((8, output_too_short c room) ∷ [])

-- the answer, and the bytes that are written at the output's front
pub record WriteOutcome : Type 0 where
  pub reply : Reply
  pub bytes : List ℕ

-- by the number of the first fault, 0 for none: "The writer returns that length"; "Every refusal leaves all lent memory as found."
unfoldable pub write_out : ℕ → Contents → WriteOutcome
write_out zero c = record { reply = accepted (file_length c ∷ []); bytes = encode (used c) }
write_out (suc k) c = record { reply = refused (suc k); bytes = [] }

-- writing, whole
unfoldable pub writing : Contents → ℕ → WriteOutcome
writing c room = write_out (first_fault (write_checks c room)) c

-- The promise of writing: the answer and the output are those of `writing`; it "leaves all bytes beyond it".
pub record Wrote (c : Contents) (answer : Result ℕ Refusal) (found left : List ℕ) : Type 0 where
  pub reply : write_reply answer ≡ (writing c (length found)).reply
  pub output : left ≡ written (writing c (length found)).bytes found
