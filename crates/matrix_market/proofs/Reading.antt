-- Reading as a whole: what each check of a text finds, by what was read of it, and what is then handed out.
use mathlib.Core.Path.{◌≡◌, refl, sym, ap, ap₂, ◌∙◌}
use mathlib.Core.Logic.{inl, inr}
use mathlib.Core.Bool.{Bool, true, false, not, ◌&&◌, ◌||◌}
use mathlib.Core.List.{List, [], map}
use Prim.Native.Nat.{ℕ, ◌*◌, ◌≤◌}
use native.Mathlib.Omega.{arith}
use lib.Dec.{ltb, eqb}
use lib.ListN.{length, take, get_or, length-map}
use lib.Seq.{take_all}
use borrow.Author.Tests.{eqb-true, ltb-false, not-false}
use Rattle.plan.specs.declared.MeshCounts.{MeshCounts}
use Rattle.plan.specs.declared.refusal.Refusal.{Refusal}
use Rattle.plan.specs.declared.refusal.Refusal.TheVariants as refusal
use Rattle.plan.specs.Lists.{exists, every, keep, below, ascending, written}
use Rattle.plan.specs.Refusals.{number_of, first_fault}
use Rattle.plan.specs.Mesh.{max_nodes, max_entries, max_neighbours, Mesh, bad_node_count, too_many_entries, list_too_long}
use Rattle.plan.specs.Elimination.{tabulate}
use Rattle.plan.specs.MadeMesh.{mesh_of, MeshBuffers, MeshCapacity, mesh_capacity, mesh_buffers_too_short, made_checks}
use Rattle.plan.specs.MatrixMarket.{Line, word_lines, is_banner, max_number, holds_numbers, given_again, size_line, row_count, stated_pairs, pair_lines, pair_of, pairs_of, bad_text, bad_pair, bad_matrix, repeated_pair, are_neighbours, lists_of, text_mesh, text_checks, reading_text, TextRead}
use Rattle.theory.specs.Keys.{pair_of_key}
use Rattle.theory.proofs.Bools.{or_left, or_right, or_false_right, tested}
use Rattle.theory.proofs.Written.{front-written}
use Rattle.matrix_market.proofs.Runs.{links_few, keys-long}
use Rattle.plan.specs.AcceptedTexts.{off_diagonal}
use Rattle.theory.proofs.Refusals.{number-suc, no_fault, fault_here, fault_later, first_nil, first_some, first-none}
use Rattle.theory.proofs.Checked.{node_count}
use Rattle.theory.proofs.Ranges.{length-map-up_from}
use Rattle.theory.proofs.MadeMesh.{made-long}
use Rattle.theory.proofs.HandedMesh.{refused-mesh, accepted-mesh}
use Rattle.theory.proofs.TextMesh.{text_pairs-good}
use Rattle.theory.proofs.TextEntries.{entries_by_pairs, diagonal-few}
use Rattle.theory.proofs.TextRepeats.{text_narrow, text_again}
use Rattle.sorting.specs.Sorted.{sorted}
use Rattle.sorting.proofs.Sorted.{sorted-alike}
use Rattle.lexer.specs.Suffixes.{lines_at}
use Rattle.matrix_market.specs.declared.size.Size.{Size}
use Rattle.matrix_market.specs.declared.pairs.Tally.{Tally}
use Rattle.std.specs.Prelude.{None, Result, Ok, Err}
use Rattle.matrix_market.specs.Lines.{HeadRead, HeadOf, pairs_in, keys_in, wrong_lines, wrong_matrix, pairs_checks, Told}
use Rattle.matrix_market.specs.Made.{size_checks, list_checks, ListsHanded}
use Rattle.matrix_market.specs.SortedPairs.{key_lists, SortedPairs}
use Rattle.matrix_market.proofs.KeyOrder.{keys_bad, keys_lists}
use Rattle.matrix_market.proofs.Blocks.{sorted-ascends}

module _ (text : List ℕ) where
  abbrev no_banner : Bool
  no_banner = not (is_banner (get_or (word_lines text) 0 []))

  abbrev no_size : Bool
  no_size = not (holds_numbers 3 (size_line text))

  abbrev no_pairs : Bool
  no_pairs = not (every (holds_numbers 2) (pair_lines text))

  abbrev miscounted : Bool
  miscounted = not (eqb (length (pair_lines text)) (stated_pairs text))

  both : (a b : Bool) → (a && b) ≡ false → (not a || not b) ≡ true
  both true true h = sym h
  both true false h = refl
  both false b h = refl

  neither : (a b : Bool) → (a && b) ≡ true → (not a || not b) ≡ false
  neither true true h = refl
  neither true false h = sym h
  neither false b h = sym h

  -- 23: the head is none
  pub kind-head : HeadOf text None → bad_text text ≡ true
  unfolding bad_text
  kind-head h = or_left (no_banner || no_size || no_pairs) _ (or_left (no_banner || no_size) _ (both (is_banner (get_or (word_lines text) 0 [])) _ h))

  -- or a line of the pairs holds none
  pub kind-lines : (r : Size) → HeadRead text r → every (holds_numbers 2) (lines_at text r.next) ≡ false → bad_text text ≡ true
  unfolding bad_text
  kind-lines r h f = or_left (no_banner || no_size || no_pairs) _ (or_right (no_banner || no_size) no_pairs (ap not (ap (every (holds_numbers 2)) (sym h.lines) ∙ f)))

  -- with a head, 23 and 24 are what the lines of the pairs tell
  module _ (r : Size) (h : HeadRead text r) (n : ℕ) (t : Tally) (found left : List ℕ) (same : n ≡ r.rows) (v : Told (lines_at text r.next) n t found left) where
    pub text_lines : bad_text text ≡ wrong_lines r t
    unfolding bad_text
    text_lines =
        ap₂ (λ (a b : Bool). (a || not b) || miscounted) (neither (is_banner (get_or (word_lines text) 0 [])) _ h.good) (ap (every (holds_numbers 2)) (sym h.lines) ∙ v.good)
        ∙ ap₂ (λ (p q : ℕ). not (eqb p q)) (sym (ap (λ (s : Tally). s.pairs) v.told ∙ ap length h.lines)) (sym h.pairs.0)

    pub text_matrix : bad_matrix text ≡ wrong_matrix r t
    unfolding bad_matrix pairs_of
    text_matrix =
        ap₂ (λ (a b : Bool). not a || b)
        (ap₂ eqb (sym h.rows.0) (sym h.columns))
        (sym (ap (λ (s : Tally). s.bad) v.told ∙ ap₂ (λ (k : ℕ) (l : List Line). exists (bad_pair k) (pairs_in l)) (same ∙ h.rows.0) h.lines))

    -- the lines are as many as stated
    pub lines-good : wrong_lines r t ≡ false → t.pairs ≡ r.pairs
    lines-good e = eqb-true t.pairs r.pairs (not-false _ e)

  -- ---- the first fault

  module _ (room : MeshCapacity) where
    pub fault_23 : bad_text text ≡ true → first_fault (text_checks text room) ≡ 23
    unfolding text_checks
    fault_23 h = fault_here 23 (bad_text text) _ h

    fault_24 : bad_text text ≡ false → bad_matrix text ≡ true → first_fault (text_checks text room) ≡ 24
    unfolding text_checks
    fault_24 k h = fault_later 23 (bad_text text) _ k ∙ fault_here 24 (bad_matrix text) _ h

    pub fault_25 : bad_text text ≡ false → bad_matrix text ≡ false → repeated_pair text ≡ true → first_fault (text_checks text room) ≡ 25
    unfolding text_checks
    fault_25 k m h = fault_later 23 (bad_text text) _ k ∙ fault_later 24 (bad_matrix text) _ m ∙ fault_here 25 (repeated_pair text) _ h

    fault_made : bad_text text ≡ false → bad_matrix text ≡ false → repeated_pair text ≡ false
        → first_fault (text_checks text room) ≡ first_fault (made_checks (text_mesh text) room)
    unfolding text_checks
    fault_made k m h = fault_later 23 (bad_text text) _ k ∙ fault_later 24 (bad_matrix text) _ m ∙ fault_later 25 (repeated_pair text) _ h

    -- 1 and 3 come before 26 and 8
    pub fault_size : bad_text text ≡ false → bad_matrix text ≡ false → repeated_pair text ≡ false
        → (r : Refusal) → number_of r ≡ first_fault (size_checks (text_mesh text) room) → first_fault (text_checks text room) ≡ number_of r
    unfolding made_checks size_checks list_checks
    fault_size k m h r e = fault_made k m h ∙ first_some (size_checks (text_mesh text) room) (list_checks (text_mesh text) room) (λ z. omega (arith, (number-suc r).1, e, z)) ∙ sym e

    pub fault_lists : bad_text text ≡ false → bad_matrix text ≡ false → repeated_pair text ≡ false → first_fault (size_checks (text_mesh text) room) ≡ 0
        → first_fault (text_checks text room) ≡ first_fault (list_checks (text_mesh text) room)
    unfolding made_checks size_checks list_checks
    fault_lists k m h none = fault_made k m h ∙ first-none (size_checks (text_mesh text) room) (list_checks (text_mesh text) room) refl none

  -- where the lines of the pairs are at fault, theirs is the first
  module _ (room : MeshCapacity) (r : Size) (h : HeadRead text r) (n : ℕ) (t : Tally) (found left : List ℕ) (same : n ≡ r.rows) (v : Told (lines_at text r.next) n t found left) where
    pub fault_pairs : (k : Refusal) → number_of k ≡ first_fault (pairs_checks r t) → first_fault (text_checks text room) ≡ number_of k
    unfolding pairs_checks
    fault_pairs k e = elim (tested (wrong_lines r t)) [
      | inl y ↦ fault_23 room (text_lines r h n t found left same v ∙ y) ∙ sym (e ∙ fault_here 23 (wrong_lines r t) _ y)
      | inr f ↦ (let kind = text_lines r h n t found left same v ∙ f in
          let matrix = text_matrix r h n t found left same v in
          elim (tested (wrong_matrix r t)) [
            | inl y ↦ fault_24 room kind (matrix ∙ y) ∙ sym (e ∙ fault_later 23 (wrong_lines r t) _ f ∙ fault_here 24 (wrong_matrix r t) _ y)
            | inr g ↦ absurd (omega (arith, (number-suc k).1, e ∙ fault_later 23 (wrong_lines r t) _ f ∙ fault_later 24 (wrong_matrix r t) _ g ∙ first_nil))
          ])
    ]

  -- ---- what is handed out

  -- where a check finds a fault: its refusal, and the buffers as they were
  pub refused_read : (found : MeshBuffers) (r : Refusal) → first_fault (text_checks text (mesh_capacity found)) ≡ number_of r → TextRead text (Err r) found found
  unfolding reading_text
  refused_read found r h = rw h (refused-mesh (text_mesh text) found r)

-- ---- what is handed out of a mesh that has passed 1 and 3

-- what check 26 finds, by the lengths of the lists
pub lists_long : (n : ℕ) (keys : List ℕ) → list_too_long (mesh_of n (key_lists n keys)) ≡ exists (ltb max_neighbours) (map length (key_lists n keys))
unfolding lists_of tabulate
lists_long n keys = made-long n (key_lists n keys) (length-map-up_from (λ v. keep (are_neighbours (map pair_of_key keys) v) (below n)) n 0)

module _ (m : Mesh) (found : MeshBuffers) where
  -- where 26 or 8 finds a fault: its refusal, and the buffers as they were
  refused_lists : (r : Refusal) → first_fault (list_checks m (mesh_capacity found)) ≡ number_of r → ListsHanded m (Err r) found found
  refused_lists r h = rw h (refused-mesh m found r)

  pub refused_26 : list_too_long m ≡ true → ListsHanded m (Err refusal.TooManyNeighbours) found found
  unfolding made_checks list_checks
  refused_26 h = refused_lists refusal.TooManyNeighbours (fault_here 26 (list_too_long m) _ h)

  pub refused_8 : list_too_long m ≡ false → mesh_buffers_too_short m (mesh_capacity found) ≡ true → ListsHanded m (Err refusal.BuffersTooShort) found found
  unfolding made_checks list_checks
  refused_8 k h = refused_lists refusal.BuffersTooShort (fault_later 26 (list_too_long m) _ k ∙ fault_here 8 (mesh_buffers_too_short m (mesh_capacity found)) _ h)

  -- where neither check finds a fault, the mesh is handed out
  pub accepted_lists : (left : MeshBuffers) (c : MeshCounts) → list_too_long m ≡ false → mesh_buffers_too_short m (mesh_capacity found) ≡ false
      → c.nodes ≡ m.nodes → c.entries ≡ length m.neighbours
      → left.starts ≡ written m.starts found.starts → left.neighbours ≡ written m.neighbours found.neighbours → ListsHanded m (Ok c) found left
  unfolding made_checks list_checks
  accepted_lists left c long short =
      accepted-mesh m found _ left c (fault_later 26 (list_too_long m) _ long ∙ fault_later 8 (mesh_buffers_too_short m (mesh_capacity found)) _ short ∙ first_nil)

-- ---- a text without a fault of 23, 24, 25, 1 and 3

pub record TextSized (text : List ℕ) (room : MeshCapacity) : Type 0 where
  pub kind : bad_text text ≡ false
  pub matrix : bad_matrix text ≡ false
  pub once : repeated_pair text ≡ false
  pub size : first_fault (size_checks (text_mesh text) room) ≡ 0

module _ (text : List ℕ) (found : MeshBuffers) (p : TextSized text (mesh_capacity found)) where
  sized : (bad_node_count (text_mesh text).nodes ≡ false) × (too_many_entries (text_mesh text) ≡ false)
  unfolding made_checks size_checks
  sized =
      let c1 = no_fault 1 (bad_node_count (text_mesh text).nodes) _ (omega arith) p.size in
      (c1.0, (no_fault 3 (too_many_entries (text_mesh text)) _ (omega arith) c1.1).0)

  pub text_nodes : row_count text ≤ max_nodes
  unfolding text_mesh mesh_of
  text_nodes = (node_count (row_count text) sized.0).1

  pub text_entries : length (text_mesh text).neighbours ≤ max_entries
  unfolding too_many_entries
  text_entries = ltb-false max_entries (length (text_mesh text).neighbours) sized.1

  -- so the pairs are one block at most
  pub text_pairs : length (pair_lines text) ≤ 36864
  unfolding pairs_of repeated_pair
  text_pairs =
      omega (
        arith,
        text_entries,
        entries_by_pairs text p.matrix p.once,
        diagonal-few (row_count text) (pairs_of text) (text_pairs-good text p.matrix) p.once,
        text_nodes,
        length-map (pair_lines text) pair_of,
      )

  module _ (keys : List ℕ) (e : keys ≡ sorted (keys_in (pair_lines text))) where
    pub keys-sorted : SortedPairs (row_count text) keys
    unfolding repeated_pair pairs_of
    keys-sorted = record {
      few = text_nodes;
      up = ap ascending e ∙ sorted-ascends (keys_in (pair_lines text)) (sym (text_again text p.kind) ∙ p.once);
      good = ap (λ (l : List ℕ). exists (bad_pair (row_count text)) (map pair_of_key l)) e
          ∙ keys_bad (row_count text) (pairs_of text) (sorted (keys_in (pair_lines text))) (text_narrow text p.kind) (sorted-alike (keys_in (pair_lines text)))
          ∙ text_pairs-good text p.matrix;
    }

    pub keys-mesh : text_mesh text ≡ mesh_of (row_count text) (key_lists (row_count text) keys)
    unfolding text_mesh pairs_of
    keys-mesh =
        ap (mesh_of (row_count text))
        (sym (ap (key_lists (row_count text)) e
        ∙ keys_lists (row_count text) (pairs_of text) (sorted (keys_in (pair_lines text))) (text_narrow text p.kind) (sorted-alike (keys_in (pair_lines text)))))

  -- what is handed out of its mesh is what reading promises
  pub handed_read : (left : MeshBuffers) (answer : Result MeshCounts Refusal) → ListsHanded (text_mesh text) answer found left → TextRead text answer found left
  unfolding reading_text
  handed_read left answer h = rw (fault_lists text (mesh_capacity found) p.kind p.matrix p.once p.size) h

-- ---- what reading has met, once 23 and 24 find nothing

pub record HasRead (text : List ℕ) (r : Size) (t : Tally) (found left : List ℕ) : Type 0 where
  pub head : HeadRead text r
  pub told : Told (lines_at text r.next) r.rows t found left
  pub long : length left ≡ length found
  pub right : first_fault (pairs_checks r t) ≡ 0

module _ (text : List ℕ) (r : Size) (t : Tally) (found left : List ℕ) (p : HasRead text r t found left) where
  right-both : (wrong_lines r t ≡ false) × (wrong_matrix r t ≡ false)
  unfolding pairs_checks
  right-both =
      let none = no_fault 23 _ _ (omega arith) p.right in
      (none.0, (no_fault 24 _ _ (omega arith) none.1).0)

  pub read_kind : bad_text text ≡ false
  read_kind = text_lines text r p.head r.rows t found left refl p.told ∙ right-both.0

  pub read_matrix : bad_matrix text ≡ false
  read_matrix = text_matrix text r p.head r.rows t found left refl p.told ∙ right-both.1

  pub read_none-bad : exists (bad_pair r.rows) (pairs_in (lines_at text r.next)) ≡ false
  read_none-bad = sym (ap (λ (s : Tally). s.bad) p.told.told) ∙ or_false_right (not (eqb r.rows r.columns)) _ right-both.1

  pub read_pairs : t.pairs ≡ length (lines_at text r.next)
  read_pairs = ap (λ (s : Tally). s.pairs) p.told.told

  -- the number of pairs is one of 32 bits, and so is that of links
  pub read_pairs-small : t.pairs ≤ max_number
  read_pairs-small = omega (arith, lines-good text r p.head r.rows t found left refl p.told right-both.0, p.head.pairs.1)

  pub read_links-small : t.links ≤ max_number
  read_links-small = omega (arith, read_pairs-small, read_pairs, ap (λ (s : Tally). s.links) p.told.told, links_few (lines_at text r.next))

  -- the keys that the search for a repeat begins with
  pub first_block : t.pairs ≤ length left → take t.pairs left ≡ keys_in (lines_at text r.next)
  first_block le =
      let many : length (keys_in (lines_at text r.next)) ≡ t.pairs = keys-long (lines_at text r.next) ∙ sym read_pairs in
      let all = take_all (length found) (keys_in (lines_at text r.next)) (omega (arith, le, many, p.long)) in
      front-written t.pairs (keys_in (lines_at text r.next)) found left (p.told.keys ∙ ap (λ (l : List ℕ). written l found) all) many

  pub read_again : (b : Bool) → b ≡ given_again (pairs_in (lines_at text r.next)) → b ≡ repeated_pair text
  unfolding repeated_pair pairs_of
  read_again b e = e ∙ ap (λ (l : List Line). given_again (pairs_in l)) p.head.lines

  -- the mesh's numbers of nodes and entries, where no pair is given again
  pub read_nodes : (text_mesh text).nodes ≡ r.rows
  unfolding text_mesh mesh_of
  read_nodes = sym p.head.rows.0

  pub read_entries : repeated_pair text ≡ false → length (text_mesh text).neighbours ≡ 2 * t.links
  unfolding pairs_of
  read_entries once =
      entries_by_pairs text read_matrix once
      ∙ ap (λ (k : ℕ). 2 * k) (sym (ap (λ (s : Tally). s.links) p.told.told ∙ ap (λ (l : List Line). length (keep off_diagonal (pairs_in l))) p.head.lines))
