-- The levels from a root as they stand in the numbers: a walk leaves them there, and a node's number tells its level.
use mathlib.Core.Path.{◌≡◌, sym, ap, ◌∙◌}
use mathlib.Core.Logic.{◌≢◌, inl, inr}
use mathlib.Core.Bool.{true}
use mathlib.Core.List.{List, [], flatten}
use Prim.Native.Nat.{ℕ, ◌+◌, ◌≤◌, ◌<◌}
use native.Mathlib.Omega.{arith}
use lib.Dec.{eqb}
use lib.ListN.{length, get_or}
use borrow.Author.Tests.{eqb-true, eq-eqb}
use Rattle.plan.specs.Lists.{is_in}
use Rattle.plan.specs.Mesh.{Mesh, adjacent}
use Rattle.plan.specs.Levels.{levels, eccentricity}
use Rattle.theory.specs.Checked.{Checked}
use Rattle.theory.proofs.Bools.{tested, clash, refuted, iff_eq}
use Rattle.theory.proofs.Flatten.{of_flatten}
use Rattle.theory.proofs.Components.{of_component}
use Rattle.theory.proofs.LevelSets.{levels_cover}
use Rattle.theory.proofs.RootSearch.{eccentricity_le}
use Rattle.dissection.specs.Numbers.{fresh, outside, fresh_of, Within, Renumbered, Walked}
use Rattle.dissection.specs.Standing.{Regional, Standing}
use Rattle.dissection.specs.Rooted.{Measured}
use Rattle.dissection.proofs.Fresh.{within-few, fresh-same}
use Rattle.dissection.proofs.Renumbering.{renumbered_in, renumbered_out}

-- ---- what a walk leaves

-- once each node of a region has the fresh number, the region is what is fresh
filled-fresh : (m : Mesh) (nodes numbers filled queue : List ℕ) → Within m.nodes nodes → Regional m nodes numbers queue → Renumbered (λ _. fresh) nodes numbers filled → fresh_of m.nodes filled ≡ nodes
filled-fresh m nodes numbers filled queue within h f =
    fresh-same m.nodes filled nodes within
    (renumbered_in (λ _. fresh) nodes numbers filled f)
    (λ v lt t e. omega (arith, h.only v lt t, renumbered_out (λ _. fresh) nodes numbers filled f v t))

module _ (m : Mesh) (nodes : List ℕ) where
  -- a node of a level is a node of the region
  pub level-inside : (r v : ℕ) → is_in r nodes ≡ true → is_in v (flatten (levels (adjacent m) nodes r)) ≡ true → is_in v nodes ≡ true
  level-inside r v h t = (of_component (adjacent m) nodes r v (sym (levels_cover (adjacent m) nodes r h v) ∙ t)).0

  module _ (within : Within m.nodes nodes) {numbers filled queue new after : List ℕ} {r last widest reached : ℕ} (h : Regional m nodes numbers queue) (inside : is_in r nodes ≡ true)
      (walked : Walked m.nodes (adjacent m) (fresh_of m.nodes filled) r filled new after last widest reached) (f : Renumbered (λ _. fresh) nodes numbers filled) where
    -- so a walk in what is fresh is one in the region
    over : Walked m.nodes (adjacent m) nodes r filled new after last widest reached
    over = rw (filled-fresh m nodes numbers filled queue within h f) at walked

    -- it tells the number of the last level and the node count of the widest
    pub walk_measured : Measured m nodes r last widest
    unfolding eccentricity
    walk_measured = record { rooted = record { inside = inside; far = omega (arith, over.count) }; wide = over.wide }

    -- and the levels stand in the numbers
    pub walk_standing : Standing m nodes r new
    walk_standing = record {
      own = over.numbered.own;
      unreached = λ v i o. over.numbered.others v o ∙ renumbered_in (λ _. fresh) nodes numbers filled f v i;
      only = λ v lt o. over.numbered.others v (refuted _ (λ t. clash (is_in v nodes) (level-inside r v inside t) o))
          ∙ renumbered_out (λ _. fresh) nodes numbers filled f v o ∙ h.only v lt o;
    }

-- ---- what the numbers tell

module _ (m : Mesh) (nodes : List ℕ) (within : Within m.nodes nodes) (root : ℕ) where
  -- the levels
  abbrev ls : List (List ℕ)
  ls = levels (adjacent m) nodes root

  -- there are at most as many levels as nodes, and one
  pub levels-few : length ls ≤ m.nodes + 1
  unfolding eccentricity
  levels-few = omega (arith, eccentricity_le (adjacent m) nodes root, within-few m.nodes nodes within)

  module _ (checked : Checked m) (numbers : List ℕ) (standing : Standing m nodes root numbers) where
    -- no node of the region is outside
    pub number-inside : (v : ℕ) → is_in v nodes ≡ true → get_or numbers v 0 ≢ outside
    number-inside v i e = elim (tested (is_in v (flatten ls))) [
      | inl t ↦ (let r = of_flatten ls v t in omega (arith, standing.own r.0 v r.2, r.1, levels-few, checked.few))
      | inr t ↦ omega (arith, standing.unreached v i t)
    ]

    -- a node has the number of a level exactly where it is in the level
    pub number-level : (k v : ℕ) → k < length ls → v < m.nodes → eqb (get_or numbers v 0) k ≡ is_in v (get_or ls k [])
    number-level k v few lt = iff_eq _ _ to (λ h. eq-eqb (get_or numbers v 0) k (standing.own k v h))
      where
        to : eqb (get_or numbers v 0) k ≡ true → is_in v (get_or ls k []) ≡ true
        to t =
            let e : get_or numbers v 0 ≡ k = eqb-true (get_or numbers v 0) k t in
            elim (tested (is_in v nodes)) [
              | inl i ↦ elim (tested (is_in v (flatten ls))) [
                | inl f ↦ (let r = of_flatten ls v f in ap (λ (j : ℕ). is_in v (get_or ls j [])) (sym e ∙ standing.own r.0 v r.2) ∙ r.2)
                | inr f ↦ absurd (omega (arith, standing.unreached v i f, levels-few, checked.few))
              ]
              | inr o ↦ absurd (omega (arith, standing.only v lt o, levels-few, checked.few))
            ]
