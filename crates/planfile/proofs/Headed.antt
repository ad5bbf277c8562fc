-- A file that passed checks 10 to 14 and 28: its counts and its length, its fields, and what checks 15 to 19 look at in it.
use mathlib.Core.Path.{◌≡◌, refl, sym, ap, ◌∙◌}
use mathlib.Core.Bool.{true, false}
use mathlib.Core.List.{List}
use Prim.Native.Nat.{ℕ, ◌+◌, ◌-◌, ◌*◌, ◌/◌, ◌≤◌, ◌<◌}
use native.Mathlib.Omega.{arith}
use lib.ListN.{length, get_or, take, drop, length-drop}
use lib.Seq.{take_all}
use borrow.Author.Tests.{ne_eqb, not-false}
use Rattle.plan.specs.Lists.{each_once, written, running_sums}
use Rattle.plan.specs.Refusals.{first_fault}
use Rattle.plan.specs.Mesh.{max_nodes, max_unknowns, bad_starts}
use Rattle.plan.specs.Dissection.{positions}
use Rattle.plan.specs.Planning.{Contents}
use Rattle.plan.specs.File.{decode16s, version_of, nodes_at, length_at, length_in, parse_at, parse, bad_order, bad_rows, contents_checks}
use Rattle.theory.specs.Counting.{Order}
use Rattle.theory.proofs.Refusals.{no_fault}
use Rattle.theory.proofs.Orders.{passes-order}
use Rattle.theory.proofs.Compressed.{sums_starts}
use Rattle.theory.proofs.Coding.{decode16s-length, decode16s-drop}
use Rattle.theory.proofs.FileFields.{nodes_at_within}
use Rattle.theory.proofs.Fitting.{unknowns_limits, Limits, header_limits, counts-few}
use Rattle.theory.proofs.RoundTrips.{Header, header_says, read_whole}
use Rattle.filechecks.specs.declared.header.Head.{Head}
use Rattle.filechecks.specs.Fields.{order_and_parts, order_and_parts_checks}
use Rattle.filechecks.proofs.Fields.{order_checks}
use Rattle.rowchecks.specs.Rows.{parts_and_rows, SoundParts, Started, rows_in, row_checks}
use Rattle.planfile.specs.Supplied.{Exact}
use Rattle.planfile.specs.Filed.{row_counts_in, Headed}
use Rattle.planfile.proofs.Passing.{exact-few, passed-parts, looked}

-- ---- the counts and the length

-- what 28, 13 and 14 say of the unknowns, the counts and the length
pub record Sizes (bytes : List ℕ) (head : Head) : Type 0 where
  pub early : head.end ≤ 19
  pub unknowns : head.unknowns ≤ max_unknowns
  pub few : head.nodes ≤ max_nodes
  pub parts : head.parts ≤ head.nodes
  pub slots : head.slots < 4294967296
  pub long : length bytes ≡ head.end + 4 * head.nodes + 4 * head.parts + 2 * head.slots

module _ (bytes : List ℕ) (head : Head) (headed : Headed bytes head) where
  -- they say so
  pub headed_sizes : Sizes bytes head
  unfolding length_in length_at
  headed_sizes =
      let says : Header bytes = header_says bytes (sym headed.good) in
      let limits : Limits (parse bytes) = header_limits (parse bytes) says.good in
      record {
        early = omega (arith, headed.says.end, nodes_at_within (version_of bytes));
        unknowns = omega (arith, headed.says.unknowns, (unknowns_limits (parse bytes).unknowns says.unknowns).1);
        few = omega (arith, headed.says.nodes, limits.nodes_few);
        parts = omega (arith, headed.says.nodes, headed.says.parts, limits.parts_few);
        slots = omega (arith, headed.says.slots, counts-few (parse bytes) says.good);
        long = omega (arith, headed.says.end, headed.says.nodes, headed.says.parts, headed.says.slots, says.long);
      }

  -- ---- the fields

  -- where each stands
  pub order_field : (parse bytes).order ≡ decode16s bytes head.end 2 head.nodes
  unfolding parse parse_at
  order_field = rw (headed.says.end, headed.says.nodes)

  pub sizes_field : (parse bytes).sizes ≡ decode16s bytes (head.end + 2 * head.nodes) 4 head.parts
  unfolding parse parse_at
  sizes_field = rw (headed.says.end, headed.says.nodes, headed.says.parts)

  pub parents_field : (parse bytes).parents ≡ decode16s bytes (head.end + 2 * head.nodes + 2) 4 head.parts
  unfolding parse parse_at
  parents_field =
      let place : head.end + 2 * head.nodes + 2 ≡ nodes_at (version_of bytes) + 14 + 2 * head.nodes = omega (arith, headed.says.end) in
      rw (place, headed.says.nodes, headed.says.parts)

  pub counts_field : row_counts_in bytes ≡ decode16s bytes (head.end + 2 * head.nodes + 4 * head.parts) 2 head.nodes
  counts_field = rw (headed.says.end, ← headed.says.nodes, ← headed.says.parts)

  pub rows_field : (parse bytes).rows ≡ decode16s bytes (head.end + 4 * head.nodes + 4 * head.parts) 2 head.slots
  unfolding parse parse_at
  rows_field = rw (headed.says.end, headed.says.nodes, headed.says.parts, headed.says.slots)

  -- the column starts are the running sums of the counts
  starts_field : (parse bytes).column_starts ≡ running_sums 0 (row_counts_in bytes)
  unfolding parse parse_at
  starts_field = refl

  -- how long they are
  pub order-many : length (parse bytes).order ≡ head.nodes
  order-many = (read_whole bytes).order ∙ sym headed.says.nodes

  pub sizes-many : length (parse bytes).sizes ≡ head.parts
  sizes-many = (read_whole bytes).sizes ∙ sym headed.says.parts

  pub parents-many : length (parse bytes).parents ≡ head.parts
  parents-many = (read_whole bytes).parents ∙ sym headed.says.parts

  pub counts-many : length (row_counts_in bytes) ≡ head.nodes
  counts-many = decode16s-length bytes _ 2 _ ∙ sym headed.says.nodes

  pub starts-many : length (parse bytes).column_starts ≡ head.nodes + 1
  starts-many = (read_whole bytes).column_starts ∙ ap (λ (k : ℕ). k + 1) (sym headed.says.nodes)

  rows-many : length (parse bytes).rows ≡ head.slots
  rows-many = (read_whole bytes).rows ∙ sym headed.says.slots

  -- row counts that are the file's give its column starts
  pub starts-written : (counts found left : List ℕ) → take head.nodes counts ≡ row_counts_in bytes → left ≡ written (running_sums 0 (take head.nodes counts)) found → left ≡ written (parse bytes).column_starts found
  starts-written counts found left same e = rw starts_field (rw same at e)

  -- the bytes behind the counts say the rows
  pub rows_behind : let at : ℕ = head.end + 4 * head.nodes + 4 * head.parts in rows_in (take (length bytes - at) (drop at bytes)) ≡ (parse bytes).rows
  rows_behind =
      let at : ℕ = head.end + 4 * head.nodes + 4 * head.parts in
      let many : length (drop at bytes) ≡ 2 * head.slots = omega (arith, length-drop at bytes, headed_sizes.long) in
      let half : length (drop at bytes) / 2 ≡ head.slots = omega arith in
      rw (take_all (length bytes - at) (drop at bytes) (omega (arith, headed_sizes.long)), half) (sym (rows_field ∙ decode16s-drop bytes at 2 head.slots))

  -- ---- checks 15 to 19

  -- the plan that the bytes say
  abbrev file : Contents
  file = parse bytes

  -- it is whole and has passed 13
  exact : Exact file
  exact = record { header = (header_says bytes (sym headed.good)).good; whole = read_whole bytes }

  -- an order that passed 15 can be inverted
  pub order_inverts : (nodes : List ℕ) → nodes ≡ file.order → 0 ≡ first_fault (contents_checks file) → Order (length nodes) nodes × (length nodes ≡ head.nodes)
  unfolding contents_checks bad_order
  order_inverts nodes e good =
      let c15 = no_fault 15 (bad_order file) _ (omega arith) (sym good) in
      rw (e, (read_whole bytes).order) (passes-order file.nodes file.order (not-false (each_once file.nodes file.order) c15.0), sym headed.says.nodes)

  -- and gives the plan's positions
  pub positions-written : (nodes found left : List ℕ) → nodes ≡ file.order → left ≡ written (positions (length nodes) nodes) found → left ≡ written (positions file.nodes file.order) found
  positions-written nodes found left e f = rw (e, (read_whole bytes).order) at f

  -- the fields but the rows, in lists of their own
  module _ (order sizes parents column_starts : List ℕ)
      (own : (order ≡ file.order) × (sizes ≡ file.sizes) × (parents ≡ file.parents) × (column_starts ≡ file.column_starts)) where
    -- no list of the order and the parts is longer than 4,096
    pub order-few : (length order ≤ max_nodes) × (length sizes ≤ max_nodes) × (length parents ≡ length sizes)
    order-few = rw (own.0, own.1, own.2) (exact-few file exact)

    -- 15 and 16 look at the order and the parts
    pub file-ordered : first_fault (order_and_parts_checks (order_and_parts (length order) order sizes parents)) ≡ first_fault (order_and_parts_checks file)
    file-ordered = rw (own.0, own.1, own.2) (order_checks file (read_whole bytes))

    -- the parts have passed 16
    pub file-parts : 0 ≡ first_fault (order_and_parts_checks file) → SoundParts head.nodes sizes parents
    file-parts ordered = rw (own.1, own.2, headed.says.nodes) (passed-parts file exact ordered)

    -- a start for each column, and one more
    pub starts-long : length column_starts ≡ head.nodes + 1
    starts-long = rw own.3 starts-many

    -- running sums have no fault as starts
    starts-good : bad_starts head.nodes column_starts ≡ false
    starts-good = rw (own.3, starts_field) (sums_starts head.nodes (row_counts_in bytes) counts-many)

    -- 17 finds a fault where the last start is not s
    pub rows_apart : (get_or column_starts head.nodes 0 ≡ head.slots → ⊥) → bad_rows file ≡ true
    unfolding bad_rows
    rows_apart ne = rw (← headed.says.nodes, ← headed.says.slots, ← own.3, starts-good, ne_eqb (get_or column_starts head.nodes 0) head.slots ne)

    module _ (rows : List ℕ) (told : rows ≡ file.rows) where
      -- where it is, the rows are as many as the starts say
      pub rows-started : get_or column_starts head.nodes 0 ≡ head.slots → Started head.nodes column_starts rows
      rows-started ends = record { few = headed_sizes.few; starts = starts-good; last = ends ∙ sym (ap length told ∙ rows-many) }

      -- 17 to 19 look at the parts and the layout
      pub file-looked : first_fault (row_checks (parts_and_rows head.nodes sizes parents column_starts rows)) ≡ first_fault (row_checks file)
      file-looked = rw (own.1, own.2, own.3, told, headed.says.nodes) (looked file (read_whole bytes))
