-- The division of a region as it stands in the numbers: the separator is left out in place, what stays becomes fresh, and in the end the part's nodes
-- get the last number.
use mathlib.Core.Path.{◌≡◌, refl, sym, ap, ap₂, ◌∙◌}
use mathlib.Core.Logic.{inl, inr, ◌≢◌}
use mathlib.Core.Bool.{Bool, true, false, not, cond, ◌&&◌}
use mathlib.Core.List.{List, [], ◌∷◌, ◌++◌, map, map-append}
use Prim.Native.Nat.{ℕ, ◌+◌, ◌/◌, ◌≤◌, ◌<◌}
use native.Mathlib.Numerals.{add-one}
use native.Mathlib.Nat.{zero-add}
use native.Mathlib.Omega.{arith}
use lib.Dec.{eqb, leb}
use lib.ListN.{length, take, get_or}
use borrow.Author.Tests.{eqb-true, eq-eqb, ne_eqb, not-true, le-leb, lt-leb}
use Rattle.plan.specs.Lists.{exists, keep, below, is_in, without, ascending}
use Rattle.plan.specs.Mesh.{Mesh, neighbours_of, adjacent}
use Rattle.plan.specs.Levels.{levels, eccentricity, components}
use Rattle.plan.specs.Choice.{root_of, stays_whole, cut_level, separator, numbering, standard, choose_part, george_liu}
use Rattle.theory.specs.Checked.{Checked}
use Rattle.theory.proofs.Bools.{and_left, tested, clash, refuted, iff_eq, cond_true, cond_false, lt_or_le}
use Rattle.theory.proofs.Lists.{exists_ext, exists-is_in, is_in-exists, in_keep, of_keep, is_in-keep, keep_ext, Kept, kept-own, keep_all}
use Rattle.theory.proofs.Ranges.{up_from_snoc, map_ext_up_from}
use Rattle.theory.proofs.Ascending.{ascending-keep}
use Rattle.theory.proofs.Choice.{separator-kept}
use Rattle.dissection.specs.Numbers.{fresh, outside, fresh_of, Within, Only, NumberedBy, Renumbered, grouped, Labelled}
use Rattle.dissection.specs.Changes.{rest_fresh, part_numbered}
use Rattle.dissection.specs.Standing.{Standing, separates_at, Parted, Divided}
use Rattle.dissection.specs.Rooted.{Rooted}
use Rattle.dissection.proofs.Fresh.{of_fresh, fresh-same}
use Rattle.dissection.proofs.Renumbering.{Renumbering, renumbered_in, renumbered_only, renumbering_next}
use Rattle.dissection.proofs.Grouped.{has_number}
use Rattle.dissection.proofs.Labels.{labelled-only}
use Rattle.dissection.proofs.Standing.{levels-few, number-inside, number-level}

-- ---- the separator left out, in place

-- the number of node v once the separator at level j is left out
abbrev pub left_out : Mesh → ℕ → List ℕ → ℕ → ℕ
left_out m j numbers v = cond (separates_at m j numbers v) outside (get_or numbers v 0)

-- the first i nodes have been tried
module _ (m : Mesh) (j : ℕ) (small : j + 1 < outside) {nodes old : List ℕ} {i : ℕ} {new : List ℕ} (r : Renumbering (left_out m j old) nodes old i new) where
  -- a node has number j + 1 where it had it
  same_next : (w : ℕ) → eqb (get_or new w 0) (j + 1) ≡ eqb (get_or old w 0) (j + 1)
  same_next w =
      ap (λ (x : ℕ). eqb x (j + 1)) (r.front w)
      ∙ cases (is_in w (take i nodes)) (exists (has_number old (j + 1)) (neighbours_of m w)) (get_or old w 0)
    where
      cases : (tried next : Bool) (x : ℕ) → eqb (cond tried (cond (eqb x j && next) outside x) x) (j + 1) ≡ eqb x (j + 1)
      cases false next x = refl
      cases true next x = elim (tested (eqb x j && next)) [
        | inl t ↦
            let was : x ≡ j = eqb-true x j (and_left (eqb x j) next t) in
            ap (λ (y : ℕ). eqb y (j + 1)) (cond_true (eqb x j && next) outside x t)
            ∙ ne_eqb outside (j + 1) (λ e. omega (arith, small)) ∙ sym (ne_eqb x (j + 1) (λ e. omega arith))
        | inr t ↦ ap (λ (y : ℕ). eqb y (j + 1)) (cond_false (eqb x j && next) outside x t)
      ]

  -- so, in an ascending list, what the numbers at hand tell of the next node is what the old ones told
  pub left_out_next : i < length nodes → ascending nodes ≡ true → left_out m j new (get_or nodes i 0) ≡ left_out m j old (get_or nodes i 0)
  left_out_next lt h =
      let u : ℕ = get_or nodes i 0 in
      let e : get_or new u 0 ≡ get_or old u 0 = renumbering_next r lt h in
      ap₂ (λ (b : Bool) (x : ℕ). cond b outside x)
      (ap₂ ◌&&◌ (ap (λ (x : ℕ). eqb x j) e)
      (exists_ext (has_number new (j + 1)) (has_number old (j + 1)) (neighbours_of m u) (λ w t. same_next w)))
      e

-- ---- the separator, where the levels stand in the numbers

module _ (m : Mesh) (nodes : List ℕ) (within : Within m.nodes nodes) (root : ℕ) (checked : Checked m) (numbers : List ℕ) (standing : Standing m nodes root numbers) where
  -- the levels
  abbrev ls : List (List ℕ)
  ls = levels (adjacent m) nodes root

  -- the test of the separator, by the numbers and by the levels
  separates_level : (j v : ℕ) → j + 1 < length ls → v < m.nodes → separates_at m j numbers v ≡ is_in v (separator (adjacent m) ls j)
  unfolding separator adjacent
  separates_level j v few lt =
      ap₂ ◌&&◌ (number-level m nodes within root checked numbers standing j v (omega arith) lt) (iff_eq _ _ to from)
      ∙ sym (is_in-keep (λ v. exists (adjacent m v) (get_or ls (j + 1) [])) (get_or ls j []) v)
    where
      to : exists (has_number numbers (j + 1)) (neighbours_of m v) ≡ true → exists (adjacent m v) (get_or ls (j + 1) []) ≡ true
      to h =
          let r = exists-is_in (has_number numbers (j + 1)) (neighbours_of m v) h in
          is_in-exists (adjacent m v) (get_or ls (j + 1) []) r.0 (sym (number-level m nodes within root checked numbers standing (j + 1) r.0 few (checked.inside v r.0 r.1).1) ∙ r.2) r.1

      from : exists (adjacent m v) (get_or ls (j + 1) []) ≡ true → exists (has_number numbers (j + 1)) (neighbours_of m v) ≡ true
      from h =
          let r = exists-is_in (adjacent m v) (get_or ls (j + 1) []) h in
          is_in-exists (has_number numbers (j + 1)) (neighbours_of m v) r.0 r.2 (eq-eqb (get_or numbers r.0 0) (j + 1) (standing.own (j + 1) r.0 r.1))

-- ---- the part of a region

module _ (m : Mesh) (nodes : List ℕ) where
  -- the region's ℓ
  abbrev far : ℕ
  far = eccentricity (adjacent m) nodes (root_of m nodes)

  -- "If ℓ is 0 or 1 the whole region is one part"
  part-whole : far ≤ 1 → george_liu m nodes ≡ nodes
  unfolding george_liu choose_part standard stays_whole
  part-whole le = cond_true (leb far 1) nodes _ (le-leb far 1 le)

  -- otherwise it is the separator at level (ℓ + 1) / 2
  part_cut : 1 < far → george_liu m nodes ≡ separator (adjacent m) (levels (adjacent m) nodes (root_of m nodes)) ((far + 1) / 2)
  unfolding george_liu choose_part standard stays_whole cut_level numbering
  part_cut lt = cond_false (leb far 1) nodes _ (lt-leb far 1 lt)

  -- the part is kept from the region
  part-kept : Kept nodes (george_liu m nodes)
  unfolding eccentricity
  part-kept = elim (lt_or_le 1 far) [
    | inl lt ↦ rw (part_cut lt) (separator-kept (adjacent m) nodes (root_of m nodes) ((far + 1) / 2) (omega arith) (omega arith))
    | inr le ↦ rw (part-whole le) (record { test = λ v. true; same = sym (keep_all nodes) })
  ]

-- the numbers that tell a region's part from its other nodes
parted : (m : Mesh) (nodes numbers : List ℕ) → Within m.nodes nodes → Only m.nodes nodes numbers
    → ((v : ℕ) → is_in v nodes ≡ true → get_or numbers v 0 ≡ cond (is_in v (george_liu m nodes)) outside fresh) → Parted m nodes numbers
parted m nodes numbers within only own =
    record {
      part = λ v i p. own v i ∙ cond_true (is_in v part) outside fresh p;
      rest = fresh-same m.nodes numbers (without part nodes)
          (record { ascends = ascending-keep (λ v. not (is_in v part)) nodes within.ascends; inside = λ v h. within.inside v (left v h).0 })
          (λ v h. own v (left v h).0 ∙ cond_false (is_in v part) outside fresh (left v h).1) others;
      only = only;
    }
  where
    part : List ℕ
    part = george_liu m nodes

    left : (v : ℕ) → is_in v (without part nodes) ≡ true → (is_in v nodes ≡ true) × (is_in v part ≡ false)
    left v h = let k = of_keep (λ v. not (is_in v part)) nodes v h in (k.0, not-true (is_in v part) k.1)

    others : (v : ℕ) → v < m.nodes → is_in v (without part nodes) ≡ false → get_or numbers v 0 ≢ fresh
    others v lt none e = elim (tested (is_in v nodes)) [
      | inl i ↦ elim (tested (is_in v part)) [
        | inl p ↦ omega (arith, e, own v i ∙ cond_true (is_in v part) outside fresh p)
        | inr p ↦ clash (is_in v (without part nodes)) (in_keep (λ v. not (is_in v part)) nodes v i (ap not p)) none
      ]
      | inr o ↦ omega (arith, e, only v lt o)
    ]

module _ (m : Mesh) (nodes : List ℕ) (within : Within m.nodes nodes) (last : ℕ) (rooted : Rooted m nodes (root_of m nodes) last) (old : List ℕ) (standing : Standing m nodes (root_of m nodes) old) where
  -- the whole region is left out
  pub parted-whole : last ≤ 1 → (new : List ℕ) → Renumbered (λ x. outside) nodes old new → Parted m nodes new
  parted-whole le new h =
      parted m nodes new within
      (renumbered_only m.nodes (λ x. outside) nodes old new h standing.only)
      (λ v i. renumbered_in (λ x. outside) nodes old new h v i ∙ sym (cond_true (is_in v (george_liu m nodes)) outside fresh (ap (is_in v) (part-whole m nodes (omega (arith, rooted.far))) ∙ i)))

  -- the number of the last level is at most the number of nodes
  pub last-few : last ≤ m.nodes
  unfolding eccentricity
  last-few = omega (arith, rooted.far, levels-few m nodes within (root_of m nodes))

  -- the separator is left out and the other nodes become fresh
  pub parted_cut : Checked m → 1 < last → (mid new : List ℕ) → NumberedBy (left_out m ((last + 1) / 2) old) nodes old mid → Renumbered rest_fresh nodes mid new → Parted m nodes new
  unfolding eccentricity
  parted_cut checked lt mid new left h =
      parted m nodes new within
      (renumbered_only m.nodes rest_fresh nodes mid new h (λ v few o. left v ∙ cond_false (is_in v nodes) (left_out m j old v) (get_or old v 0) o ∙ standing.only v few o))
      (λ v i. renumbered_in rest_fresh nodes mid new h v i ∙ ap rest_fresh (left v ∙ cond_true (is_in v nodes) (left_out m j old v) (get_or old v 0) i)
      ∙ rest_cond (separates_at m j old v) (get_or old v 0) (number-inside m nodes within (root_of m nodes) checked old standing v i)
      ∙ ap (λ (b : Bool). cond b outside fresh) (same v i))
    where
      j : ℕ
      j = (last + 1) / 2

      rest_cond : (b : Bool) (x : ℕ) → x ≢ outside → rest_fresh (cond b outside x) ≡ cond b outside fresh
      rest_cond true x ne = refl
      rest_cond false x ne = cond_false (eqb x outside) outside fresh (ne_eqb x outside ne)

      same : (v : ℕ) → is_in v nodes ≡ true → separates_at m j old v ≡ is_in v (george_liu m nodes)
      same v i =
          separates_level m nodes within (root_of m nodes) checked old standing j v (omega (arith, rooted.far)) (within.inside v i)
          ∙ ap (is_in v) (sym (part_cut m nodes (omega (arith, rooted.far)) ∙ ap (λ (l : ℕ). separator (adjacent m) (levels (adjacent m) nodes (root_of m nodes)) ((l + 1) / 2)) (sym rooted.far)))

-- ---- a region divided

-- the fresh nodes are of the region, and not of the part
pub parted-fresh : (m : Mesh) (nodes numbers : List ℕ) → Parted m nodes numbers → (v : ℕ) → is_in v (fresh_of m.nodes numbers) ≡ true
    → (is_in v nodes ≡ true) × (is_in v (george_liu m nodes) ≡ false)
parted-fresh m nodes numbers p v f =
    let k = of_keep (λ x. not (is_in x (george_liu m nodes))) nodes v (ap (is_in v) (sym p.rest) ∙ f) in
    (k.0, not-true (is_in v (george_liu m nodes)) k.1)

-- no node of the region has a number below n
pub parted-high : (m : Mesh) (nodes numbers : List ℕ) → Checked m → Parted m nodes numbers → (v : ℕ) → is_in v nodes ≡ true → m.nodes ≤ get_or numbers v 0
parted-high m nodes numbers h p v i = elim (tested (is_in v (george_liu m nodes))) [
  | inl t ↦ omega (arith, p.part v i t, h.few)
  | inr f ↦
      let k = of_fresh m.nodes numbers v (ap (is_in v) p.rest ∙ in_keep (λ x. not (is_in x (george_liu m nodes))) nodes v i (ap not f)) in
      omega (arith, k.1, h.few)
]

module _ (m : Mesh) (nodes : List ℕ) (at : ℕ) (old mid new begins : List ℕ) (count : ℕ)
    (few : count < outside) (p : Parted m nodes old) (l : Labelled m.nodes (adjacent m) nodes at old mid begins count) (h : Renumbered (part_numbered count) nodes mid new) where
  -- the region's part
  abbrev part : List ℕ
  part = george_liu m nodes

  -- a node of the part was left out, and gets the last number
  number-part : (v : ℕ) → is_in v nodes ≡ true → is_in v part ≡ true → (get_or mid v 0 ≡ outside) × (get_or new v 0 ≡ count)
  number-part v i t =
      let stale : is_in v (fresh_of m.nodes old) ≡ false = refuted (is_in v (fresh_of m.nodes old)) (λ f. clash (is_in v part) t (parted-fresh m nodes old p v f).1) in
      let e : get_or mid v 0 ≡ outside = l.others v stale ∙ p.part v i t in
      (e, renumbered_in (part_numbered count) nodes mid new h v i ∙ cond_true (eqb (get_or mid v 0) outside) count (get_or mid v 0) (eq-eqb (get_or mid v 0) outside e))

  -- every other node of the region keeps its label
  number-rest : (v : ℕ) → is_in v nodes ≡ true → is_in v part ≡ false → (get_or mid v 0 < count) × (get_or new v 0 ≡ get_or mid v 0)
  number-rest v i f =
      let lt : get_or mid v 0 < count = l.done v (ap (is_in v) p.rest ∙ in_keep (λ x. not (is_in x part)) nodes v i (ap not f)) in
      (lt, renumbered_in (part_numbered count) nodes mid new h v i ∙ cond_false (eqb (get_or mid v 0) outside) count (get_or mid v 0) (ne_eqb (get_or mid v 0) outside (λ e. omega arith)))

  -- so the numbers of the regions left are those of the labels
  same_label : (c : ℕ) → c < count → (v : ℕ) → is_in v nodes ≡ true → eqb (get_or new v 0) c ≡ eqb (get_or mid v 0) c
  same_label c lt v i = elim (tested (is_in v part)) [
    | inl t ↦ (let k = number-part v i t in ne_eqb (get_or new v 0) c (λ e. omega (arith, k.1)) ∙ sym (ne_eqb (get_or mid v 0) c (λ e. omega (arith, k.0))))
    | inr f ↦ ap (λ (x : ℕ). eqb x c) (number-rest v i f).1
  ]

  -- and the last number is the part's
  last_label : (v : ℕ) → is_in v nodes ≡ true → eqb (get_or new v 0) count ≡ is_in v part
  last_label v i = elim (tested (is_in v part)) [
    | inl t ↦ eq-eqb (get_or new v 0) count (number-part v i t).1 ∙ sym t
    | inr f ↦ (let k = number-rest v i f in ne_eqb (get_or new v 0) count (λ e. omega (arith, k.0, k.1)) ∙ sym f)
  ]

  -- the nodes by their numbers
  divided-groups : grouped (count + 1) new nodes ≡ components (adjacent m) (without part nodes) ++ (part ∷ [])
  divided-groups =
      rw add-one
      (ap (map group) (up_from_snoc 0 count)
      ∙ map-append group (below count) ((0 + count) ∷ [])
      ∙ ap₂ ◌++◌
      (map_ext_up_from group (λ c. keep (has_number mid c) nodes) count 0
      (λ c le lt. keep_ext (has_number new c) (has_number mid c) nodes (same_label c (omega arith)))
      ∙ l.groups
      ∙ ap (components (adjacent m)) p.rest)
      (ap (λ (g : List ℕ). g ∷ [])
      (ap group (zero-add count) ∙ keep_ext (has_number new count) (λ v. is_in v part) nodes last_label ∙ kept-own nodes part (part-kept m nodes))))
    where
      group : ℕ → List ℕ
      group c = keep (has_number new c) nodes

  -- the regions left have been labelled, and the part has the number behind them
  pub divided : Divided m nodes at new begins count
  divided =
      record {
        groups = divided-groups;
        begin = rw (← p.rest) l.begin;
        many = l.many ∙ ap (λ (r : List ℕ). length (components (adjacent m) r)) p.rest;
        only = renumbered_only m.nodes (part_numbered count) nodes mid new h (labelled-only l (λ v f. (parted-fresh m nodes old p v f).0) p.only);
      }
