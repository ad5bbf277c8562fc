-- Numbers for the parts by which a part and all parts below it are consecutive: how wide each part's range is, and where it begins.
use Rattle.std.specs.Prelude.{◌≡◌, true, cond, List, ℕ, zero, suc, ◌+◌, ◌≤◌, ◌<◌, eqb, length, get_or}
use Rattle.plan.specs.Mesh.{max_nodes, no_parent}
use Rattle.plan.specs.File.{may_be_parent}

-- parents that passed check 16
pub record SoundParents (parents : List ℕ) : Type 0 where
  pub few : length parents ≤ max_nodes
  pub good : (q : ℕ) → q < length parents → may_be_parent (length parents) q (get_or parents q 0) ≡ true

-- the parent r of one of p parts, p itself for none: all parts hang below a root behind the last of them
abbrev pub rooted : ℕ → ℕ → ℕ
rooted p r = cond (eqb r no_parent) p r

abbrev pub rooted_parent : List ℕ → ℕ → ℕ
rooted_parent parents q = rooted (length parents) (get_or parents q 0)

-- how many parts are part b or below it, as far as the first k parts tell: part after part is added, with all below it, to its parent
unfoldable pub width_after : List ℕ → ℕ → ℕ → ℕ
width_after parents zero b = 1
width_after parents (suc q) b = width_after parents q b + cond (eqb (rooted_parent parents q) b) (width_after parents q q) 0

-- how many are in all: the parts below b come before it
abbrev pub width : List ℕ → ℕ → ℕ
width parents b = width_after parents b b

-- the first number of each part's range, its own: the root's is 0, and a part's range stands in its parent's behind those of the earlier parts
-- with the same parent
pub record Numbered (parents firsts : List ℕ) : Type 0 where
  pub root : get_or firsts (length parents) 0 ≡ 0
  pub next : (q : ℕ) → q < length parents → get_or firsts q 0 ≡ get_or firsts (rooted_parent parents q) 0 + width_after parents q (rooted_parent parents q)
