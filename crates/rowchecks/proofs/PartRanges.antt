-- The ranges of the parts, spread over the positions, tell the parts and their ancestors; a row of n or more lies in no part.
use mathlib.Core.Path.{◌≡◌, refl, sym, ap, ◌∙◌}
use mathlib.Core.Logic.{◌≢◌, inl, inr}
use mathlib.Core.Bool.{false}
use mathlib.Core.List.{List, [], ◌∷◌}
use Prim.Native.Nat.{ℕ, suc, ◌+◌, ◌-◌, ◌≤◌, ◌<◌}
use native.Mathlib.Omega.{arith}
use lib.ListN.{length, get_or}
use borrow.Author.Tests.{lt-ltb, le-ltb}
use Rattle.plan.specs.Lists.{total}
use Rattle.plan.specs.Mesh.{no_parent}
use Rattle.plan.specs.Parts.{part_of, parent_of, at_or_above}
use Rattle.theory.specs.PartTree.{PartTree}
use Rattle.theory.proofs.Bools.{refuted, lt_or_le}
use Rattle.theory.proofs.PartOf.{part-next, part_lt}
use Rattle.theory.proofs.PartAncestors.{Under, here, up, under_of_test}
use Rattle.rowchecks.specs.Rows.{SoundParts, reaches, Ranges}
use Rattle.rowchecks.specs.Numbering.{width, Numbered}
use Rattle.rowchecks.proofs.Passed.{parts-tree, parts-total, parts-parents}
use Rattle.rowchecks.proofs.Numbering.{range_exact}

-- a position behind all parts counts them all
part-behind : (sizes : List ℕ) (i : ℕ) → total sizes ≤ i → part_of sizes i ≡ length sizes
unfolding part_of
part-behind [] i l = refl
part-behind (s ∷ ss) i l = part-next s ss i (omega arith) ∙ ap suc (part-behind ss (i - s) (omega arith))

-- what is at or above a part is a part
under_inside : (parents : List ℕ) → ((q : ℕ) → parent_of parents q ≢ no_parent → parent_of parents q < length parents)
    → {a b : ℕ} → Under parents a b → a < length parents → b < length parents
under_inside parents known here l = l
under_inside parents known (up {p = a} has u) l = under_inside parents known u (known a has)

module _ (n : ℕ) (sizes parents : List ℕ) (h : SoundParts n sizes parents) where
  -- a position's part is one of the parts
  part-inside : (i : ℕ) → i < n → part_of sizes i < length parents
  part-inside i lt = omega (arith, h.as_many, part_lt sizes i (omega (arith, parts-total n sizes parents h)))

  -- a row of n or more lies in no part at or above another
  row-behind : (j i : ℕ) → j < n → n ≤ i → at_or_above parents (part_of sizes j) (part_of sizes i) ≡ false
  row-behind j i lt le =
      let t : PartTree n sizes parents = parts-tree n sizes parents h in
      refuted (at_or_above parents (part_of sizes j) (part_of sizes i)) (λ a. omega (
        arith,
        h.as_many,
        part-behind sizes i (omega (arith, t.whole)),
        under_inside parents t.known (under_of_test parents (part_of sizes j) (part_of sizes i) a) (part-inside j lt),
      ))

  module _ (firsts lasts lows ends : List ℕ) (numbered : Numbered parents firsts)
      (ended : (q : ℕ) → q < length parents → get_or lasts q 0 ≡ get_or firsts q 0 + width parents q)
      (spread : (i : ℕ) → i < total sizes → (get_or lows i 0 ≡ get_or firsts (part_of sizes i) 0) × (get_or ends i 0 ≡ get_or lasts (part_of sizes i) 0)) where
    -- the test by ranges is the one by the tree
    tells : (j i : ℕ) → j < n → reaches n lows ends j i ≡ at_or_above parents (part_of sizes j) (part_of sizes i)
    tells j i lt = elim (lt_or_le i n) [
      | inl l ↦
          let own = spread j (omega (arith, parts-total n sizes parents h)) in
          let row = spread i (omega (arith, parts-total n sizes parents h)) in
          rw (lt-ltb i n l, own.0, row.0, row.1, ended (part_of sizes i) (part-inside i l))
          (range_exact parents (parts-parents n sizes parents h) firsts numbered (part_of sizes j) (part_of sizes i) (part-inside j lt) (part-inside i l))
      | inr l ↦ rw (le-ltb i n l) (sym (row-behind j i lt l))
    ]

    pub ranges_tell : n ≤ length lows → n ≤ length ends → Ranges n sizes parents lows ends
    ranges_tell low end = record { low_room = low; end_room = end; exact = tells }
