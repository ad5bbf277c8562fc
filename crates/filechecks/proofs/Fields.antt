-- What checks 13, 15 and 16 look at in a plan, and what checks 10 and 12 tell of a file's length.
use mathlib.Core.Path.{◌≡◌, refl, sym}
use mathlib.Core.Bool.{Bool, true, false, cond, not, ◌&&◌, ◌||◌, false≢true}
use mathlib.Core.List.{List, [], ◌∷◌}
use Prim.Native.Nat.{ℕ, ◌+◌, ◌*◌, ◌≤◌}
use native.Mathlib.Omega.{arith}
use lib.Dec.{ltb, eqb}
use lib.ListN.{length}
use borrow.Author.Tests.{ltb-false}
use Rattle.std.specs.Prelude.{sum}
use Rattle.std.specs.List.{fold}
use Rattle.plan.specs.Lists.{total}
use Rattle.plan.specs.Refusals.{first_fault}
use Rattle.plan.specs.Planning.{Contents}
use Rattle.plan.specs.File.{version_of, nodes_at, length_at, length_in, parse, Whole, bad_header, bad_order, bad_parts}
use Rattle.plan.specs.Reading.{bad_version, too_few_in_version2}
use Rattle.theory.proofs.FileFields.{nodes_at_within}
use Rattle.filechecks.specs.declared.header.Head.{Head}
use Rattle.filechecks.specs.Heads.{HeadOf}
use Rattle.filechecks.specs.Fields.{counts_only, order_and_parts, order_and_parts_checks}

-- 13 at the counts
pub header-counts : (c : Contents) → bad_header (counts_only c.nodes c.parts c.slots) ≡ bad_header c
unfolding bad_header
header-counts c = refl

-- 13 and 14 at a file's head
module _ (bytes : List ℕ) (head : Head) (h : HeadOf bytes head) where
  pub head_counts : bad_header (counts_only head.nodes head.parts head.slots) ≡ bad_header (parse bytes)
  head_counts = rw (h.nodes, h.parts, h.slots) (header-counts (parse bytes))

  pub head_length : head.end + 4 * head.nodes + 4 * head.parts + 2 * head.slots ≡ length_in (version_of bytes) (parse bytes)
  unfolding length_in length_at
  head_length = rw (h.end, h.nodes, h.parts, h.slots)

  pub head_early : head.end ≤ 19
  head_early = omega (arith, h.end, nodes_at_within (version_of bytes))

-- 15 and 16 at the order and the parts
pub order_checks : (c : Contents) → Whole c → first_fault (order_and_parts_checks (order_and_parts (length c.order) c.order c.sizes c.parents)) ≡ first_fault (order_and_parts_checks c)
unfolding bad_order bad_parts
order_checks c w = rw (w.order, w.sizes)

-- where 10, 12 and 10 again find no fault, the bytes before the order are all there
pub head_inside : (bytes : List ℕ) → 17 ≤ length bytes → bad_version bytes ≡ false → too_few_in_version2 bytes ≡ false → nodes_at (version_of bytes) + 12 ≤ length bytes
unfolding bad_version too_few_in_version2 nodes_at
head_inside bytes long known many = go (eqb (version_of bytes) 1) (eqb (version_of bytes) 2) known many
  where
    go : (one two : Bool) → not (one || two) ≡ false → (two && ltb (length bytes) 19) ≡ false → cond one 5 7 + 12 ≤ length bytes
    go true two h k = long
    go false true h k = ltb-false (length bytes) 19 k
    go false false h k = absurd (false≢true (sym h))

-- the book's total is the library's sum, which adds from the front
added : (a : ℕ) (l : List ℕ) → a + total l ≡ fold ◌+◌ a l
added a [] = omega arith
added a (x ∷ xs) = omega (arith, added (a + x) xs)

pub total_sum : (l : List ℕ) → total l ≡ sum l
total_sum l = omega (arith, added 0 l)
