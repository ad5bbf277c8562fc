-- The reader of the workshop that never updates beside the reader of versions 1 and 2: it answers 12 to version 2, and both answer alike to any other file.
use mathlib.Core.Path.{◌≡◌, refl, sym, ap, ◌∙◌}
use mathlib.Core.Logic.{◌≢◌, inl, inr}
use mathlib.Core.Bool.{Bool, true, false, not}
use mathlib.Core.List.{List, ◌∷◌}
use Prim.Native.Nat.{ℕ, ◌≤◌}
use native.Mathlib.Omega.{arith}
use lib.Dec.{eqb}
use lib.ListN.{length, take}
use borrow.Author.Tests.{ne_eqb, le-ltb, ltb-false, not-false}
use Rattle.plan.specs.Lists.{same}
use Rattle.plan.specs.Refusals.{Checks, first_fault}
use Rattle.plan.specs.Answers.{Reply}
use Rattle.plan.specs.Planning.{Contents, Capacity, bad_unknowns, hand_out}
use Rattle.plan.specs.File.{magic, version_of, encode, parse, parse_at}
use Rattle.plan.specs.Reading.{too_few_bytes, bad_magic, bad_version, too_few_in_version2, bad_length, header_checks, read_checks, reading}
use Rattle.plan.specs.Writing.{used, writing}
use Rattle.plan.specs.Version1.{parse1, not_version1, bad_length1, read_checks1, untold, reading1, RefusesVersion2, RefusesWritten, RefusesWrote, SameButVersion2, Version1IsOne}
use Rattle.theory.proofs.Bools.{eq_or_ne, tested}
use Rattle.theory.proofs.Lists.{same_equal}
use Rattle.theory.proofs.Written.{front-written}
use Rattle.theory.proofs.Refusals.{fault_here, fault_later}
use Rattle.theory.proofs.FileFields.{encode-length, encoded_version, parse_1}
use Rattle.theory.proofs.RoundTrips.{write_says, file-some, encoded_mark, handed_read}
use Rattle.theory.proofs.Promises.{written_size}

-- ---- version 2

-- a refusal tells no values
untold-refused : (c : Contents) → untold (hand_out 12 c) ≡ hand_out 12 c
unfolding untold hand_out
untold-refused c = refl

-- It answers 12 to every version 2 file of 17 bytes or more.
pub refuses-version_2 : RefusesVersion2
unfolding reading1 read_checks1 too_few_bytes bad_magic not_version1
refuses-version_2 bytes room long mark known =
    ap (λ (k : ℕ). untold (hand_out k (parse1 bytes)))
    (fault_later 10 (too_few_bytes bytes) _ (le-ltb (length bytes) 17 long)
    ∙ fault_later 11 (bad_magic bytes) _ (ap (λ (l : List ℕ). not (same l magic)) mark)
    ∙ fault_here 12 (not_version1 bytes) _ (ap (λ (v : ℕ). not (eqb v 1)) known))
    ∙ untold-refused (parse1 bytes)

-- So it does to everything that is written.
pub refuses-written : RefusesWritten
refuses-written c output room h =
    let w = write_says c output h in
    rw w.1
    (refuses-version_2 (encode (used c)) room (omega (arith, encode-length (used c) w.0.whole, file-some (used c))) (encoded_mark (used c)) (encoded_version (used c)))

-- And to what any writer wrote.
pub refuses_wrote : RefusesWrote
refuses_wrote c size found bytes room wrote =
    let output : ℕ = length found in
    let front : take size bytes ≡ (writing c output).bytes =
    front-written size (writing c output).bytes found bytes wrote.output (written_size c output size wrote.reply) in
    rw front (refuses-written c output room (sym (ap (λ (r : Reply). r.number) wrote.reply)))

-- ---- any other version

-- version 1: what is parsed, the formula and the checks are the same
same_checks : (bytes : List ℕ) (room : Capacity) → version_of bytes ≡ 1 → first_fault (read_checks bytes room) ≡ first_fault (read_checks1 bytes room)
unfolding read_checks header_checks read_checks1 first_fault bad_version not_version1 too_few_in_version2 bad_length bad_length1 bad_unknowns parse1 parse_at
same_checks bytes room known = rw (parse_1 bytes known, known)

same-version_1 : (bytes : List ℕ) (room : Capacity) → version_of bytes ≡ 1 → untold (reading bytes room) ≡ reading1 bytes room
unfolding reading reading1 parse1
same-version_1 bytes room known = rw (same_checks bytes room known, parse_1 bytes known)

-- the first fault of checks of which the third finds one, and what is handed out then
third : (a b : Bool) (c d : Contents) (more rest : Checks)
    → hand_out (first_fault ((10, a) ∷ (11, b) ∷ (12, true) ∷ more)) c ≡ hand_out (first_fault ((10, a) ∷ (11, b) ∷ (12, true) ∷ rest)) d
unfolding first_fault hand_out
third true b c d more rest = refl
third false true c d more rest = refl
third false false c d more rest = refl

-- neither 1 nor 2: 12, where not 10 or 11
same_unknown : (bytes : List ℕ) (room : Capacity) → version_of bytes ≢ 1 → version_of bytes ≢ 2 → untold (reading bytes room) ≡ reading1 bytes room
unfolding reading read_checks header_checks reading1 read_checks1
same_unknown bytes room not1 not2 =
    let new : bad_version bytes ≡ true = unfold bad_version in rw (ne_eqb (version_of bytes) 1 not1, ne_eqb (version_of bytes) 2 not2) in
    let old : not_version1 bytes ≡ true = unfold not_version1 in rw (ne_eqb (version_of bytes) 1 not1) in
    ap untold (rw (new, old) (third (too_few_bytes bytes) (bad_magic bytes) (parse bytes) (parse1 bytes) _ _))

-- fewer than 17 bytes: 10; another mark: 11, where not 10
first : (b : Bool) (c d : Contents) (more rest : Checks) → b ≡ true → hand_out (first_fault ((10, b) ∷ more)) c ≡ hand_out (first_fault ((10, b) ∷ rest)) d
unfolding first_fault hand_out
first b c d more rest e = rw e

second : (a b : Bool) (c d : Contents) (more rest : Checks) → b ≡ true
    → hand_out (first_fault ((10, a) ∷ (11, b) ∷ more)) c ≡ hand_out (first_fault ((10, a) ∷ (11, b) ∷ rest)) d
unfolding first_fault hand_out
second true b c d more rest e = refl
second false b c d more rest e = rw e

-- by the version, where it is not 2
same_version : (bytes : List ℕ) (room : Capacity) → version_of bytes ≢ 2 → untold (reading bytes room) ≡ reading1 bytes room
same_version bytes room not2 = elim (eq_or_ne (version_of bytes) 1) [
  | inl known ↦ same-version_1 bytes room known
  | inr not1 ↦ same_unknown bytes room not1 not2
]

-- the mark and 17 bytes, as facts
has_17 : (bytes : List ℕ) → too_few_bytes bytes ≡ false → 17 ≤ length bytes
unfolding too_few_bytes
has_17 bytes h = ltb-false (length bytes) 17 h

has_mark : (bytes : List ℕ) → bad_magic bytes ≡ false → take 3 bytes ≡ magic
unfolding bad_magic
has_mark bytes h = same_equal (take 3 bytes) magic (not-false (same (take 3 bytes) magic) h)

-- Every file but those of version 2 gets the same answer of both readers.
pub same_but_version_2 : SameButVersion2
unfolding reading read_checks header_checks reading1 read_checks1
same_but_version_2 bytes room other = elim (tested (too_few_bytes bytes)) [
  | inl few ↦ ap untold (first (too_few_bytes bytes) (parse bytes) (parse1 bytes) _ _ few)
  | inr enough ↦ elim (tested (bad_magic bytes)) [
    | inl bad ↦ ap untold (second (too_few_bytes bytes) (bad_magic bytes) (parse bytes) (parse1 bytes) _ _ bad)
    | inr marked ↦ same_version bytes room (other (has_17 bytes enough) (has_mark bytes marked))
  ]
]

-- Version 1 is read as one unknown.
pub version_1_is_one : Version1IsOne
unfolding parse_at
version_1_is_one bytes room known h = ap (λ (c : Contents). c.unknowns) (handed_read bytes room h ∙ parse_1 bytes known)
