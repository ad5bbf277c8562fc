-- Rows that stand in bytes, two for each: how many they are, each by its place, and the bytes of some of them.
use mathlib.Core.Path.{◌≡◌, sym, ap, ◌∙◌}
use mathlib.Core.List.{List}
use Prim.Native.Nat.{ℕ, ◌+◌, ◌-◌, ◌*◌, ◌/◌, ◌≤◌, ◌<◌}
use native.Mathlib.Nat.{zero-add}
use native.Mathlib.Omega.{arith}
use lib.ListN.{length, get_or, take, drop, length-drop}
use lib.Seq.{length-take-le, get_or-take, get_or-drop, ext_get_or}
use Rattle.plan.specs.Lists.{segment}
use Rattle.plan.specs.File.{decode16}
use Rattle.theory.proofs.Coding.{decode16s-length, decode16s-get_or, decode16-drop}
use Rattle.rowchecks.specs.Rows.{rows_in}

module _ (bytes : List ℕ) where
  -- two bytes for each
  pub rows-many : length (rows_in bytes) ≡ length bytes / 2
  rows-many = decode16s-length bytes 0 2 (length bytes / 2)

  -- so row k ends within them
  pub row_within : (k : ℕ) → k < length (rows_in bytes) → 2 * k + 2 ≤ length bytes
  row_within k lt = omega (arith, rows-many)

  -- and is the number that stands there
  pub row_at : (k : ℕ) → k < length (rows_in bytes) → get_or (rows_in bytes) k 0 ≡ decode16 bytes (2 * k)
  row_at k lt = decode16s-get_or bytes 0 2 (length bytes / 2) k (omega (arith, rows-many)) ∙ ap (decode16 bytes) (zero-add (2 * k))

-- ---- parts of the bytes

-- a number of a list's front is the list's own
decode16-take : (bytes : List ℕ) (k at : ℕ) → at + 2 ≤ k → decode16 (take k bytes) at ≡ decode16 bytes at
unfolding decode16
decode16-take bytes k at le = rw (get_or-take k bytes at 0 (omega arith), get_or-take k bytes (at + 1) 0 (omega arith))

module _ (bytes : List ℕ) (a e : ℕ) (le : a ≤ e) (within : e ≤ length (rows_in bytes)) where
  -- the bytes of rows a up to e are two for each
  part-long : length (segment bytes (2 * a) (2 * e)) ≡ 2 * (e - a)
  part-long = length-take-le (2 * e - 2 * a) (drop (2 * a) bytes) (omega (arith, rows-many bytes, length-drop (2 * a) bytes)) ∙ omega arith

  -- and say these rows
  pub part-rows : rows_in (segment bytes (2 * a) (2 * e)) ≡ segment (rows_in bytes) a e
  part-rows =
      let part : List ℕ = segment bytes (2 * a) (2 * e) in
      let many : length (rows_in part) ≡ e - a = omega (arith, rows-many part, part-long) in
      ext_get_or 0 (rows_in part) (segment (rows_in bytes) a e)
      (many ∙ sym (length-take-le (e - a) (drop a (rows_in bytes)) (omega (arith, length-drop a (rows_in bytes)))))
      (λ k lt.
      row_at part k lt ∙ decode16-take (drop (2 * a) bytes) (2 * e - 2 * a) (2 * k) (omega (arith, many)) ∙ sym (decode16-drop bytes (2 * a) (2 * k))
      ∙ ap (decode16 bytes) (omega arith)
      ∙ sym (get_or-take (e - a) (drop a (rows_in bytes)) k 0 (omega (arith, many)) ∙ get_or-drop a (rows_in bytes) k 0 ∙ row_at bytes (a + k) (omega (arith, many))))
