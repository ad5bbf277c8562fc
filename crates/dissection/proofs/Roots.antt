-- The root search: the candidates of a root, and the turns of the search.
use mathlib.Core.Path.{◌≡◌, refl, sym, ap, ◌∙◌}
use mathlib.Core.Logic.{◌≢◌, inl, inr}
use mathlib.Core.Bool.{Bool, true, false, cond, ◌&&◌, ◌||◌}
use mathlib.Core.List.{List, [], map, flatten, get_last_d}
use Prim.Native.Nat.{ℕ, zero, suc, ◌+◌, ◌-◌, ◌≤◌, ◌<◌}
use native.Mathlib.Omega.{arith}
use lib.Dec.{eqb, ltb}
use lib.ListN.{length, get_or, take, length-map, get_or-map}
use lib.Seq.{length-take-le, take_all, get_or-take, ext_get_or}
use borrow.Author.Tests.{eq-eqb, ne_eqb}
use Rattle.plan.specs.Lists.{is_in, ascending}
use Rattle.plan.specs.Mesh.{max_nodes, Mesh, adjacent}
use Rattle.plan.specs.Levels.{levels, eccentricity, components}
use Rattle.plan.specs.Choice.{degree_in, least_degree, candidates, improves, next_root, root_from, root_of}
use Rattle.theory.specs.Checked.{Checked}
use Rattle.theory.proofs.Bools.{tested, clash, cond_true, cond_false, eq_or_ne}
use Rattle.theory.proofs.Lists.{head_or-get_or, get_last_or-get_or}
use Rattle.theory.proofs.AllLists.{all_get_d}
use Rattle.theory.proofs.Flatten.{is_in-flatten-take, is_in-flatten-last}
use Rattle.theory.proofs.Ascending.{ascending-keep}
use Rattle.theory.proofs.Components.{components-some}
use Rattle.theory.proofs.LevelNumbers.{level-first, level-kept, levels-some}
use Rattle.theory.proofs.RootInside.{next-inside}
use Rattle.theory.proofs.RootSearch.{improves-back, next_cases, turn_ends, turn_goes, improvers, improvers_le, goes_fewer, search_same, root-same}
use Rattle.dissection.specs.Numbers.{fresh, outside, fresh_of, Within, Only, NumberedBy, Renumbered, grouped, Labelled}
use Rattle.dissection.specs.Changes.{only_level}
use Rattle.dissection.specs.Standing.{Regional, Standing}
use Rattle.dissection.specs.Degrees.{Leads}
use Rattle.dissection.specs.Rooted.{Rooted, Measured, Better}
use Rattle.dissection.proofs.Fresh.{fresh-same}
use Rattle.dissection.proofs.Renumbering.{renumbered_in, renumbered_out, renumbered_only}
use Rattle.dissection.proofs.Labels.{labelled-only}
use Rattle.dissection.proofs.Standing.{level-inside, number-level}
use Rattle.dissection.proofs.LeastDegrees.{least_degree_ext, leads_least}

-- ---- the candidates of a root

-- once only one level stays, no node of the region has a number below n
pub level-high : (last n : ℕ) (nodes old new : List ℕ) → n ≤ max_nodes → Renumbered (only_level last) nodes old new → (v : ℕ) → is_in v nodes ≡ true → n ≤ get_or new v 0
level-high last n nodes old new h r v t = rw (renumbered_in (only_level last) nodes old new r v t) (go (eqb (get_or old v 0) last))
  where
    go : (b : Bool) → n ≤ cond b fresh outside
    go true = omega arith
    go false = omega arith

module _ (m : Mesh) (nodes : List ℕ) (within : Within m.nodes nodes) {numbers queue : List ℕ} {root last : ℕ} (h : Regional m nodes numbers queue) (rooted : Rooted m nodes root last) where
  -- the levels
  abbrev ls : List (List ℕ)
  ls = levels (adjacent m) nodes root

  -- there is one more of them than the number of the last
  last-count : length ls ≡ last + 1
  unfolding eccentricity
  last-count = omega (arith, rooted.far, levels-some (adjacent m) nodes root)

  -- the last level by its number
  last_is : get_last_d ls [] ≡ get_or ls last []
  last_is =
      let e : length ls - 1 ≡ last = omega (arith, last-count) in
      get_last_or-get_or ls [] ∙ ap (λ (k : ℕ). get_or ls k []) e

  -- each ascends
  level-ascends : (j : ℕ) → j < length ls → ascending (get_or ls j []) ≡ true
  level-ascends zero lt = rw (level-first (adjacent m) nodes root)
  level-ascends (suc j) lt =
      let k = level-kept (adjacent m) nodes root (suc j) (omega arith) lt in
      rw k.same (ascending-keep k.test nodes within.ascends)

  -- the nodes of the last one are of the region
  last-inside : (v : ℕ) → is_in v (get_last_d ls []) ≡ true → is_in v nodes ≡ true
  last-inside v t = level-inside m nodes root v rooted.inside (is_in-flatten-last ls v t)

  -- so it stands ascending below n
  last_within : Within m.nodes (get_last_d ls [])
  last_within = record {
    ascends = ap ascending last_is ∙ level-ascends last (omega (arith, last-count));
    inside = λ v t. within.inside v (last-inside v t);
  }

  module _ (checked : Checked m) (standing : Standing m nodes root numbers) where
    -- where the levels stand in the numbers, a node of the last one has its number
    own-number : (v : ℕ) → is_in v (get_last_d ls []) ≡ true → get_or numbers v 0 ≡ last
    own-number v t = standing.own last v (ap (is_in v) (sym last_is) ∙ t)

    -- and a node of the region with this number is of the last level
    number-own : (v : ℕ) → is_in v nodes ≡ true → get_or numbers v 0 ≡ last → is_in v (get_last_d ls []) ≡ true
    number-own v i e =
        ap (is_in v) last_is
        ∙ sym (number-level m nodes within root checked numbers standing last v (omega (arith, last-count)) (within.inside v i))
        ∙ eq-eqb (get_or numbers v 0) last e

    module _ (kept : List ℕ) (renumbered : Renumbered (only_level last) nodes numbers kept) where
      -- once all other levels are left out, the last level is what is fresh
      last-fresh : fresh_of m.nodes kept ≡ get_last_d ls []
      last-fresh = fresh-same m.nodes kept (get_last_d ls []) last_within own others
        where
          own : (v : ℕ) → is_in v (get_last_d ls []) ≡ true → get_or kept v 0 ≡ fresh
          own v t =
              renumbered_in (only_level last) nodes numbers kept renumbered v (last-inside v t)
              ∙ cond_true (eqb (get_or numbers v 0) last) fresh outside (eq-eqb (get_or numbers v 0) last (own-number v t))

          others : (v : ℕ) → v < m.nodes → is_in v (get_last_d ls []) ≡ false → get_or kept v 0 ≢ fresh
          others v lt t e = elim (tested (is_in v nodes)) [
            | inl i ↦ elim (eq_or_ne (get_or numbers v 0) last) [
              | inl same ↦ clash (is_in v (get_last_d ls [])) (number-own v i same) t
              | inr other ↦ omega (
                arith,
                renumbered_in (only_level last) nodes numbers kept renumbered v i,
                cond_false (eqb (get_or numbers v 0) last) fresh outside (ne_eqb (get_or numbers v 0) last other),
              )
            ]
            | inr o ↦ omega (arith, h.only v lt o, renumbered_out (only_level last) nodes numbers kept renumbered v o)
          ]

      -- and these are nodes of the region
      pub fresh-inside : (v : ℕ) → is_in v (fresh_of m.nodes kept) ≡ true → is_in v nodes ≡ true
      fresh-inside v t = last-inside v (ap (is_in v) (sym last-fresh) ∙ t)

      module _ {at count : ℕ} {new begins : List ℕ} (labelled : Labelled m.nodes (adjacent m) nodes at kept new begins count) where
        -- the components of the last level
        abbrev cs : List (List ℕ)
        cs = components (adjacent m) (get_last_d ls [])

        -- once the fresh nodes are labelled, the groups are the components
        groups : grouped count new nodes ≡ cs
        groups = labelled.groups ∙ ap (components (adjacent m)) last-fresh

        -- as many as are told
        many : length cs ≡ count
        many = sym (labelled.many ∙ ap (λ (l : List ℕ). length (components (adjacent m) l)) last-fresh)

        -- the other nodes stay outside
        pub candidates-only : Only m.nodes nodes new
        candidates-only = labelled-only labelled fresh-inside (renumbered_only m.nodes (only_level last) nodes numbers kept renumbered h.only)

        -- the nodes that lead the groups, by the book's degree, are the candidates
        pub candidates-found : (degree : ℕ → ℕ) → ((v : ℕ) → degree v ≡ degree_in m nodes v) → (found degrees : List ℕ) → count ≤ length found
            → ((c : ℕ) → c < count → Leads degree (get_or (grouped count new nodes) c []) (get_or found c 0) (get_or degrees c 0))
            → take count found ≡ candidates m nodes root
        unfolding candidates least_degree
        candidates-found degree same found degrees long leads =
            ext_get_or 0 (take count found) (map least cs) (taken ∙ sym (length-map cs least ∙ many)) (λ i lt. each i (omega (arith, taken)))
          where
            least : List ℕ → ℕ
            least = least_degree (degree_in m nodes)

            taken : length (take count found) ≡ count
            taken = length-take-le count found long

            each : (i : ℕ) → i < count → get_or (take count found) i 0 ≡ get_or (map least cs) i 0
            each i lt =
                get_or-take count found i 0 lt
                ∙ leads_least degree (get_or cs i []) (get_or found i 0) (get_or degrees i 0) (all_get_d (λ c. 0 < length c) cs (components-some (adjacent m) (get_last_d ls [])) i (omega (arith, many)))
                (rw groups at (leads i lt))
                ∙ least_degree_ext degree (degree_in m nodes) same (get_or cs i [])
                ∙ sym (get_or-map least cs i [])

-- ---- the root search

-- a region over other numbers, where the nodes outside stay outside
pub regional_over : (m : Mesh) (nodes : List ℕ) {numbers queue new after : List ℕ} → Regional m nodes numbers queue
    → Only m.nodes nodes new → m.nodes ≤ length new → length after ≡ length queue → Regional m nodes new after
regional_over m nodes h only e f = record {
  some = h.some;
  only = only;
  numbers_long = e;
  queue_long = omega (arith, h.queue_long);
}

-- and over numbers of the same length
pub regional_again : (m : Mesh) (nodes : List ℕ) {numbers queue new after : List ℕ} → Regional m nodes numbers queue
    → Only m.nodes nodes new → length new ≡ length numbers → length after ≡ length queue → Regional m nodes new after
regional_again m nodes h only e f = regional_over m nodes h only (omega (arith, h.numbers_long)) f

-- a node of one of some lists is in all of them together
is_in-level : (ls : List (List ℕ)) (j v : ℕ) → is_in v (get_or ls j []) ≡ true → is_in v (flatten ls) ≡ true
is_in-level ls j v t =
    let k : ℕ = suc (j + length ls) in
    ap (λ (r : List (List ℕ)). is_in v (flatten r)) (sym (take_all k ls (omega arith))) ∙ is_in-flatten-take ls k j v (omega arith) t

-- the levels of a root, where the nodes of the region get their numbers from an array in which they stand
pub standing_transferred : (m : Mesh) (nodes : List ℕ) {root : ℕ} (from old new : List ℕ) → is_in root nodes ≡ true → Standing m nodes root from → Only m.nodes nodes old
    → NumberedBy (λ v. get_or from v 0) nodes old new → Standing m nodes root new
standing_transferred m nodes {root} from old new inside s only e = record {
  own = λ j v t. e v ∙ cond_true (is_in v nodes) (get_or from v 0) (get_or old v 0) (level-inside m nodes root v inside (is_in-level (levels (adjacent m) nodes root) j v t)) ∙ s.own j v t;
  unreached = λ v t o. e v ∙ cond_true (is_in v nodes) (get_or from v 0) (get_or old v 0) t ∙ s.unreached v t o;
  only = λ v lt o. e v ∙ cond_false (is_in v nodes) (get_or from v 0) (get_or old v 0) o ∙ only v lt o;
}

module _ (m : Mesh) (nodes : List ℕ) where
  -- a root that has just been walked from
  pub better_walked : {before root x last widest : ℕ} {numbers : List ℕ} → x ≡ root → Measured m nodes root last widest → Standing m nodes root numbers → Better m nodes before x last widest numbers
  better_walked e measured standing = rw e (record { measured = measured; only = standing.only; standing = λ other. standing })

  -- a root that stays
  pub better_same : {root last widest : ℕ} {numbers : List ℕ} → Measured m nodes root last widest → Only m.nodes nodes numbers → Better m nodes root root last widest numbers
  better_same measured only = record { measured = measured; only = only; standing = λ other. absurd (other refl) }

  -- whether a candidate improves is told by the last and the widest levels
  pub improves_is : {root x a b v w : ℕ} → Measured m nodes root a v → Measured m nodes x b w → improves m nodes root x ≡ (ltb a b || (eqb b a && ltb w v))
  unfolding improves
  improves_is h k = rw (h.rooted.far, k.rooted.far, h.wide, k.wide)

  -- what the search finds from a root, in more turns than are needed
  abbrev pub found_from : ℕ → ℕ
  found_from r = root_from (suc (length nodes)) m nodes r

  -- from the smallest node it finds the region's root
  pub found_first : found_from (get_or nodes 0 0) ≡ root_of m nodes
  found_first = ap found_from (sym (head_or-get_or nodes 0)) ∙ root-same m nodes (suc (length nodes)) (omega arith)

  -- a turn goes on where the next root is another one
  goes_on : {root next : ℕ} → next ≡ next_root m nodes root → next ≢ root → eqb (next_root m nodes root) root ≡ false
  goes_on {root} e other = ne_eqb (next_root m nodes root) root (λ s. other (e ∙ s))

  -- then it finds the same
  pub found-next : {root next : ℕ} → next ≡ next_root m nodes root → is_in root nodes ≡ true → next ≢ root → found_from next ≡ found_from root
  found-next {root} {next} e inside other =
      let few : improvers m nodes (next_root m nodes root) ≤ length nodes = improvers_le m nodes (next_root m nodes root) in
      ap found_from e
      ∙ search_same m nodes (suc (length nodes)) (length nodes) (next_root m nodes root) (next-inside m nodes root inside) (omega arith) few
      ∙ sym (turn_goes m nodes (length nodes) root (goes_on e other))

  -- and fewer nodes improve on it
  pub found_fewer : {root next : ℕ} → next ≡ next_root m nodes root → is_in root nodes ≡ true → next ≢ root → improvers m nodes next < improvers m nodes root
  found_fewer {root} e inside other = rw e (goes_fewer m nodes root inside (goes_on e other))

  -- and the root that it replaced does not improve on it
  pub found_back : {root next : ℕ} → next ≡ next_root m nodes root → next ≢ root → improves m nodes next root ≡ false
  found_back {root} {next} e other = elim (next_cases m nodes root) [
    | inl s ↦ absurd (other (e ∙ s))
    | inr t ↦ improves-back m nodes root next (ap (improves m nodes root) e ∙ t)
  ]

  -- a turn that stays ends the search
  pub found-last : {root next : ℕ} → next ≡ next_root m nodes root → next ≡ root → root ≡ found_from root
  found-last {root} e same = sym (turn_ends m nodes (length nodes) root (eq-eqb _ _ (sym e ∙ same)))
