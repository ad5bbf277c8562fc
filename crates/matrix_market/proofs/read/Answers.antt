-- `read` meets its contract.
use mathlib.Core.Path.{◌≡◌, refl, sym, ap, ◌∙◌}
use mathlib.Core.Bool.{false}
use mathlib.Core.List.{List, flatten}
use Prim.Native.Nat.{ℕ, ◌*◌, ◌≤◌}
use native.Mathlib.Omega.{arith}
use lib.ListN.{length, take}
use lib.Seq.{length-take-le}
use Rattle.std.proofs.Common.{rules, Err}
use Rattle.plan.specs.declared.refusal.Refusal.TheVariants as refusal
use Rattle.plan.specs.Mesh.{Mesh}
use Rattle.plan.specs.MadeMesh.{mesh_of, mesh_buffers, mesh_capacity}
use Rattle.plan.specs.MatrixMarket.{Line, pair_lines, repeated_pair, text_mesh}
use Rattle.sorting.specs.Sorted.{sorted}
use Rattle.matrix_market.specs.Lines.{keys_in}
use Rattle.matrix_market.specs.SortedPairs.{key_lists}
use Rattle.matrix_market.proofs.Reading.{kind-head, kind-lines, fault_23, fault_pairs, fault_25, fault_size, refused_read, TextSized, text_entries, text_pairs, keys-sorted, keys-mesh, handed_read, HasRead, read_kind, read_matrix, read_none-bad, read_pairs, read_pairs-small, read_links-small, first_block, read_again, read_nodes, read_entries}
use Rattle.matrix_market.proofs.read.Goals.{In_ok-pairs_refusal, Else-repeated, In_ok-size_refusal}
use Rattle.matrix_market.proofs.read.Goals as goal

-- the head is none
pub returns-in_err-size : goal.returns-in_err-size
returns-in_err-size c =
    let e : c.from_residual.result ≡ Err refusal.Text = search rules in
    rw e (refused_read c.args.text.now (mesh_buffers c.args.starts.now c.args.neighbours.now) refusal.Text (fault_23 c.args.text.now _ (kind-head c.args.text.now (rw c.in_err-size.ensures.ok_part at c.read_head.ensures))))

-- a line of the pairs holds none
pub returns-in_err-tally : goal.returns-in_err-tally
returns-in_err-tally c =
    let e : c.from_residual-in_err-tally.result ≡ Err refusal.Text = search rules in
    rw e (refused_read c.args.text.now (mesh_buffers c.args.starts.now c.args.neighbours.now) refusal.Text (fault_23 c.args.text.now _ (kind-lines c.args.text.now c.in_ok-size.size (rw c.in_ok-size.ensures.ok_part at c.read_head.ensures) (rw c.in_err-tally.ensures.ok_part at c.survey.ensures.all))))

-- 23 and 24
pub returns-in_err-pairs_refusal : goal.returns-in_err-pairs_refusal
returns-in_err-pairs_refusal c =
    let r = c.in_err-pairs_refusal.field-0.0 in
    let e : c.from_residual-in_err-pairs_refusal.result ≡ Err r = search rules in
    rw e (refused_read c.args.text.now (mesh_buffers c.args.starts.now c.args.neighbours.now) r
    (fault_pairs c.args.text.now _ c.in_ok-size.size (rw c.in_ok-size.ensures.ok_part at c.read_head.ensures) _ c.in_ok-tally.tally _ _ refl (rw c.in_ok-tally.ensures.ok_part at c.survey.ensures.all) r c.in_err-pairs_refusal.ensures))

read_of : (c : In_ok-pairs_refusal) → HasRead c.args.text.now c.in_ok-size.size c.in_ok-tally.tally c.no_keys-keys.result c.survey.new.keys
read_of c = record {
  head = rw c.in_ok-size.ensures.ok_part at c.read_head.ensures;
  told = rw c.in_ok-tally.ensures.ok_part at c.survey.ensures.all;
  long = c.survey.ensures.long;
  right = sym c.in_ok-pairs_refusal.ensures;
}

pub repeated-requires : goal.repeated-requires
repeated-requires c =
    let p = (read_of (goal.at.repeated-requires c).In_ok-pairs_refusal) in
    record {
      at_in_bounds = (p.head.within, omega (arith, p.long, c.no_keys-keys.ensures), p.head.rows.1, read_pairs-small _ _ _ _ _ p);
      at_value = (p.told.good, read_none-bad _ _ _ _ _ p, read_pairs _ _ _ _ _ p);
      keys_value = first_block _ _ _ _ _ p;
    }

pub returns-then-repeated : goal.returns-then-repeated
returns-then-repeated c =
    let p = (read_of (goal.at.returns-then-repeated c).In_ok-pairs_refusal) in
    refused_read c.args.text.now (mesh_buffers c.args.starts.now c.args.neighbours.now) refusal.RepeatedPair (fault_25 c.args.text.now _ (read_kind _ _ _ _ _ p) (read_matrix _ _ _ _ _ p) (sym (read_again _ _ _ _ _ p _ c.repeated.ensures.value.0) ∙ c.if-repeated.true))

pub overflow_mul-entries : goal.overflow_mul-entries
overflow_mul-entries c = omega (arith, read_links-small _ _ _ _ _ (read_of (goal.at.overflow_mul-entries c).In_ok-pairs_refusal))

once : (c : Else-repeated) → HasRead c.args.text.now c.in_ok-size.size c.in_ok-tally.tally c.no_keys-keys.result c.survey.new.keys → repeated_pair c.args.text.now ≡ false
once c p = sym (read_again _ _ _ _ _ p _ c.repeated.ensures.value.0) ∙ c.if-repeated.false

-- 1 and 3
pub returns-in_err-size_refusal : goal.returns-in_err-size_refusal
returns-in_err-size_refusal c =
    let p = (read_of (goal.at.returns-in_err-size_refusal c).In_ok-pairs_refusal) in
    let no = once (goal.at.returns-in_err-size_refusal c).Else-repeated p in
    let r = c.in_err-size_refusal.field-0.0 in
    let e : c.from_residual-in_err-size_refusal.result ≡ Err r = search rules in
    rw e (refused_read c.args.text.now (mesh_buffers c.args.starts.now c.args.neighbours.now) r
    (fault_size c.args.text.now (mesh_capacity (mesh_buffers c.args.starts.now c.args.neighbours.now)) (read_kind _ _ _ _ _ p) (read_matrix _ _ _ _ _ p) no r
    (c.in_err-size_refusal.ensures (text_mesh c.args.text.now) (read_nodes _ _ _ _ _ p) (read_entries _ _ _ _ _ p no) (mesh_capacity (mesh_buffers c.args.starts.now c.args.neighbours.now)))))

module _ (c : In_ok-size_refusal) (p : HasRead c.args.text.now c.in_ok-size.size c.in_ok-tally.tally c.no_keys-keys.result c.survey.new.keys) where
  none-again : repeated_pair c.args.text.now ≡ false
  none-again = sym (read_again _ _ _ _ _ p _ c.repeated.ensures.value.0) ∙ c.if-repeated.false

  entries : length (text_mesh c.args.text.now).neighbours ≡ 2 * c.in_ok-tally.tally.links
  entries = read_entries _ _ _ _ _ p none-again

  sizes : TextSized c.args.text.now (mesh_capacity (mesh_buffers c.args.starts.now c.args.neighbours.now))
  sizes = record {
    kind = read_kind _ _ _ _ _ p;
    matrix = read_matrix _ _ _ _ _ p;
    once = none-again;
    size = sym (c.in_ok-size_refusal.ensures (text_mesh c.args.text.now) (read_nodes _ _ _ _ _ p) entries (mesh_capacity (mesh_buffers c.args.starts.now c.args.neighbours.now)));
  }

  -- the pairs are one block, and their keys are sorted
  one_block : c.in_ok-tally.tally.pairs ≤ length c.survey.new.keys
  one_block = omega (arith, text_pairs c.args.text.now (mesh_buffers c.args.starts.now c.args.neighbours.now) sizes, read_pairs _ _ _ _ _ p, ap length p.head.lines, p.long, c.no_keys-keys.ensures)

  block_room : c.in_ok-tally.tally.pairs ≤ length c.repeated.new.keys
  block_room = omega (arith, one_block, c.repeated.ensures.value.1)

  sorted_keys : take c.in_ok-tally.tally.pairs c.repeated.new.keys ≡ sorted (keys_in (pair_lines c.args.text.now))
  sorted_keys = c.repeated.ensures.keys_after one_block ∙ ap (λ (l : List Line). sorted (keys_in l)) p.head.lines

  -- the mesh of the keys' lists is that of the text
  lists_mesh : mesh_of c.in_ok-size.size.rows (key_lists c.in_ok-size.size.rows (take c.in_ok-tally.tally.pairs c.repeated.new.keys)) ≡ text_mesh c.args.text.now
  lists_mesh =
      let keys = take c.in_ok-tally.tally.pairs c.repeated.new.keys in
      ap (λ (n : ℕ). mesh_of n (key_lists n keys)) p.head.rows.0 ∙ sym (keys-mesh c.args.text.now (mesh_buffers c.args.starts.now c.args.neighbours.now) sizes _ sorted_keys)

  -- and so are its entries
  lists_entries : length (flatten (key_lists c.in_ok-size.size.rows (take c.in_ok-tally.tally.pairs c.repeated.new.keys))) ≡ 2 * c.in_ok-tally.tally.links
  unfolding mesh_of
  lists_entries = ap (λ (m : Mesh). length m.neighbours) lists_mesh ∙ entries

pub invariant_of-sorted : goal.invariant_of-sorted
invariant_of-sorted c =
    let u = (goal.at.invariant_of-sorted c).In_ok-size_refusal in
    let p = (read_of (goal.at.invariant_of-sorted c).In_ok-pairs_refusal) in
    record { sorted = rw p.head.rows.0 (keys-sorted c.args.text.now (mesh_buffers c.args.starts.now c.args.neighbours.now) (sizes u p) _ (sorted_keys u p)) }

pub hand_out-requires : goal.hand_out-requires
hand_out-requires c =
    let u = (goal.at.hand_out-requires c).In_ok-size_refusal in
    let p = (read_of (goal.at.hand_out-requires c).In_ok-pairs_refusal) in
    (omega (arith, sym (entries u p), text_entries c.args.text.now (mesh_buffers c.args.starts.now c.args.neighbours.now) (sizes u p)), lists_entries u p)

pub returns : goal.returns
returns c =
    let u = (goal.at.returns c).In_ok-size_refusal in
    let p = (read_of (goal.at.returns c).In_ok-pairs_refusal) in
    handed_read c.args.text.now (mesh_buffers c.args.starts.now c.args.neighbours.now) (sizes u p) _ c.hand_out.result (rw (lists_mesh u p) at c.hand_out.ensures)

pub slice_bounds-keys-end : goal.slice_bounds-keys-end
slice_bounds-keys-end c = block_room (goal.at.slice_bounds-keys-end c).In_ok-size_refusal (read_of (goal.at.slice_bounds-keys-end c).In_ok-pairs_refusal)

pub slice_bounds-sorted-end : goal.slice_bounds-sorted-end
slice_bounds-sorted-end c = sym (length-take-le _ _ (block_room (goal.at.slice_bounds-sorted-end c).In_ok-size_refusal (read_of (goal.at.slice_bounds-sorted-end c).In_ok-pairs_refusal)))
