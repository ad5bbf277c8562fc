-- The lists of the joined mesh, by the two arrays: their lengths, one after the other, and that they are those of the book.
use mathlib.Core.Path.{◌≡◌, sym, ap, ◌∙◌}
use mathlib.Core.Bool.{true, false, not, or_comm}
use mathlib.Core.List.{List, [], ◌∷◌, ◌++◌, map, flatten, map-append}
use Prim.Native.Nat.{ℕ, ◌+◌, ◌*◌, ◌≤◌, ◌<◌}
use native.Mathlib.Nat.{zero-add}
use native.Mathlib.Numerals.{add-one}
use native.Mathlib.Omega.{arith}
use lib.ListN.{length, take, get_or, length-map}
use lib.Seq.{get_or-take, length-take-le}
use Rattle.plan.specs.Lists.{keep, below, is_in, twice, index_of}
use Rattle.plan.specs.Mesh.{max_neighbours, Mesh, neighbours_of, adjacent}
use Rattle.plan.specs.Elimination.{tabulate}
use Rattle.plan.specs.Joining.{Pairing, goes_to, joined_nodes, comes_from, joined_neighbours, joined_lists}
use Rattle.theory.specs.Checked.{Checked}
use Rattle.theory.specs.Counting.{count}
use Rattle.theory.specs.Pairings.{Paired}
use Rattle.theory.proofs.Lists.{map_ext}
use Rattle.theory.proofs.Ranges.{up_from_snoc, length-map-up_from, map_ext_up_from}
use Rattle.theory.proofs.Flatten.{blocks_more, blocks_grow}
use Rattle.theory.proofs.Counting.{count_le}
use Rattle.theory.proofs.Twice.{once_index, once-ascending, once-map}
use Rattle.theory.proofs.JoinedMesh.{merged_list_lem}
use Rattle.join.specs.Merging.{merged, gone}
use Rattle.join.specs.Lists.{merged_list, merged_lists, Mergeable}
use Rattle.join.specs.Numbers.{Destinations}
use Rattle.join.proofs.Merging.{merged-members, merged-ascends, merged-length}

module _ (a b : Mesh) (goes from : List ℕ) (n : ℕ) (h : Mergeable a b goes from n) where
  -- the entries of a list of the second mesh are places of the array
  pub entry_goes : (v w : ℕ) → is_in w (neighbours_of b v) ≡ true → w < length goes
  unfolding adjacent
  entry_goes v w t = omega (arith, (h.second.inside v w t).1, h.going)

  -- no two of them go to the same node
  gone-once : (v : ℕ) → twice (gone goes (neighbours_of b v)) ≡ false
  gone-once v = once-map (λ w. get_or goes w 0) (neighbours_of b v) (λ x y s t e. apart x y (node x s) (node y t) e) (once-ascending (neighbours_of b v) (h.second.ascends v))
    where
      node : (w : ℕ) → is_in w (neighbours_of b v) ≡ true → w < b.nodes
      node w t = (h.second.inside v w (unfold adjacent in t)).1

      place : (x : ℕ) → x < b.nodes → index_of (get_or goes x 0) (take b.nodes goes) ≡ x
      place x lt =
          ap (λ (y : ℕ). index_of y (take b.nodes goes)) (sym (get_or-take b.nodes goes x 0 lt))
          ∙ once_index (take b.nodes goes) h.apart x (omega (arith, lt, length-take-le b.nodes goes h.going))

      apart : (x y : ℕ) → x < b.nodes → y < b.nodes → get_or goes x 0 ≡ get_or goes y 0 → x ≡ y
      apart x y l m e = sym (place x l) ∙ ap (λ (z : ℕ). index_of z (take b.nodes goes)) e ∙ place y m

  -- node v's list is as long as its list in the first mesh, and by one longer for each entry of the other that goes to none of its nodes
  pub merged_counted : (v : ℕ) → let ones = neighbours_of a v in let others = neighbours_of b (get_or from v 0) in
      length ones + count (λ x. not (is_in x ones)) (gone goes others) ≡ length (merged_list a b goes from v)
  unfolding merged_list
  merged_counted v = sym (merged-length (gone goes (neighbours_of b (get_or from v 0))) (neighbours_of a v) (gone-once (get_or from v 0)) (h.first.ascends v))

  -- so it has twice as many entries as a node's list may have, at most
  pub merged-few : (v : ℕ) → length (merged_list a b goes from v) ≤ 2 * max_neighbours
  merged-few v =
      let others : List ℕ = neighbours_of b (get_or from v 0) in
      omega (
        arith,
        merged_counted v,
        count_le (λ x. not (is_in x (neighbours_of a v))) (gone goes others),
        length-map others (λ w. get_or goes w 0),
        h.first.short v,
        h.second.short (get_or from v 0),
      )

-- one list more
pub lists_more : (a b : Mesh) (goes from : List ℕ) (v : ℕ) → flatten (merged_lists a b goes from (v + 1)) ≡ flatten (merged_lists a b goes from v) ++ merged_list a b goes from v
unfolding merged_lists
lists_more a b goes from v = ap (λ (k : ℕ). flatten (map (merged_list a b goes from) (below k))) (add-one v) ∙ blocks_more (merged_list a b goes from) v

-- no fewer entries
pub lists_grow : (a b : Mesh) (goes from : List ℕ) (k n : ℕ) → k ≤ n → length (flatten (merged_lists a b goes from k)) ≤ length (flatten (merged_lists a b goes from n))
unfolding merged_lists
lists_grow a b goes from = blocks_grow (merged_list a b goes from)

-- one length more
pub lengths_more : (a b : Mesh) (goes from : List ℕ) (v : ℕ)
    → map length (merged_lists a b goes from (v + 1)) ≡ map length (merged_lists a b goes from v) ++ (length (merged_list a b goes from v) ∷ [])
unfolding merged_lists
lengths_more a b goes from v =
    let list : ℕ → List ℕ = merged_list a b goes from in
    let last : 0 + v ≡ v = zero-add v in
    ap (λ (k : ℕ). map length (map list (below k))) (add-one v)
    ∙ ap (λ (l : List ℕ). map length (map list l)) (up_from_snoc 0 v)
    ∙ rw (last, map-append list (below v) (v ∷ []), map-append length (map list (below v)) (list v ∷ []))

-- as many as there are nodes
pub lists_many : (a b : Mesh) (goes from : List ℕ) (n : ℕ) → length (merged_lists a b goes from n) ≡ n
unfolding merged_lists
lists_many a b goes from n = length-map-up_from (merged_list a b goes from) n 0

-- ---- they are the book's

module _ (a b : Mesh) (p : Pairing) (ca : Checked a) (cb : Checked b) (h : Paired a.nodes b.nodes p) (goes from : List ℕ)
    (d : Destinations a.nodes b.nodes p goes) (back : (v : ℕ) → v < joined_nodes a.nodes b.nodes p → get_or from v 0 ≡ comes_from a.nodes b.nodes p v) where
  -- where entries go
  gone_goes : (v : ℕ) → gone goes (neighbours_of b v) ≡ map (goes_to a.nodes p) (neighbours_of b v)
  unfolding adjacent
  gone_goes v = map_ext (λ w. get_or goes w 0) (goes_to a.nodes p) (neighbours_of b v) (λ w t. d.each w (cb.inside v w t).1)

  pub lists_joined : merged_lists a b goes from (joined_nodes a.nodes b.nodes p) ≡ joined_lists a b p
  unfolding merged_lists merged_list joined_lists tabulate
  lists_joined = map_ext_up_from _ _ (joined_nodes a.nodes b.nodes p) 0 (λ v l m. one v (omega arith))
    where
      one : (v : ℕ) → v < joined_nodes a.nodes b.nodes p
          → merged (gone goes (neighbours_of b (get_or from v 0))) (neighbours_of a v) ≡ keep (joined_neighbours a b p v) (below (joined_nodes a.nodes b.nodes p))
      one v lt =
          let comes : ℕ = comes_from a.nodes b.nodes p v in
          let others : List ℕ = map (goes_to a.nodes p) (neighbours_of b comes) in
          let same : gone goes (neighbours_of b (get_or from v 0)) ≡ others = ap (λ (w : ℕ). gone goes (neighbours_of b w)) (back v lt) ∙ gone_goes comes in
          rw same
          (merged_list_lem a b p ca cb h v (merged others (neighbours_of a v)) (merged-ascends others (neighbours_of a v) (ca.ascends v))
          (λ x. merged-members x others (neighbours_of a v) ∙ or_comm (is_in x others) (is_in x (neighbours_of a v))))
