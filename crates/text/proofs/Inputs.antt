-- The listing program's input: check 20 by its parts, and where the mesh's numbers stand.
use mathlib.Core.Path.{◌≡◌, refl, ap}
use mathlib.Core.Bool.{Bool, true, false, ◌||◌}
use mathlib.Core.List.{List}
use Prim.Native.Nat.{ℕ, ◌+◌, ◌-◌, ◌*◌, ◌%◌, ◌≤◌, ◌<◌}
use native.Mathlib.Omega.{arith}
use lib.Dec.{ltb, eqb}
use lib.ListN.{length, get_or, take, drop, length-append}
use borrow.Author.Tests.{lt-ltb, le-ltb, ltb-false}
use Rattle.plan.specs.Lists.{written}
use Rattle.plan.specs.Mesh.{lent}
use Rattle.plan.specs.File.{decode16, decode32}
use Rattle.plan.specs.Listing.{max_listed_nodes, max_listed_entries, neighbours_at, entry_count, input_mesh, bad_input}
use Rattle.theory.proofs.Bools.{or_left, or_right, or_false_left, or_false_right}
use Rattle.theory.proofs.Written.{front-written}
use Rattle.theory.proofs.Ranges.{get_or-map-below, length-map-up_from}
use Rattle.theory.proofs.Coding.{decode16s-length}

-- input that passes
pub record Passes (bytes : List ℕ) : Type 0 where
  pub long : neighbours_at bytes ≤ length bytes
  pub nodes : decode16 bytes 0 ≤ max_listed_nodes
  pub entries : entry_count bytes ≤ max_listed_entries

module _ (bytes : List ℕ) where
  -- the starts stand behind the first two bytes
  pub starts-behind : 2 < neighbours_at bytes
  unfolding neighbours_at
  starts-behind = omega arith

  -- the parts of the check
  abbrev short : Bool
  short = ltb (length bytes) 2

  abbrev large_n : Bool
  large_n = ltb max_listed_nodes (decode16 bytes 0)

  abbrev large_m : Bool
  large_m = ltb max_listed_entries (entry_count bytes)

  abbrev cut : Bool
  cut = ltb (length bytes) (neighbours_at bytes)

  abbrev odd : Bool
  odd = eqb ((length bytes - neighbours_at bytes) % 2) 1

  -- the first number is not there
  pub bad_short : length bytes < 2 → bad_input bytes ≡ true
  unfolding bad_input
  bad_short h = or_left (short || large_n || large_m || cut) odd (or_left (short || large_n || large_m) cut (or_left (short || large_n) large_m (or_left short large_n (lt-ltb (length bytes) 2 h))))

  -- too many nodes
  pub bad_nodes : max_listed_nodes < decode16 bytes 0 → bad_input bytes ≡ true
  unfolding bad_input
  bad_nodes h = or_left (short || large_n || large_m || cut) odd (or_left (short || large_n || large_m) cut (or_left (short || large_n) large_m (or_right short large_n (lt-ltb max_listed_nodes (decode16 bytes 0) h))))

  -- too many entries
  pub bad_entries : max_listed_entries < entry_count bytes → bad_input bytes ≡ true
  unfolding bad_input
  bad_entries h = or_left (short || large_n || large_m || cut) odd (or_left (short || large_n || large_m) cut (or_right (short || large_n) large_m (lt-ltb max_listed_entries (entry_count bytes) h)))

  -- an end before the last start
  pub bad_end : length bytes < neighbours_at bytes → bad_input bytes ≡ true
  unfolding bad_input
  bad_end h = or_left (short || large_n || large_m || cut) odd (or_right (short || large_n || large_m) cut (lt-ltb (length bytes) (neighbours_at bytes) h))

  -- none of these: an incomplete number, or no fault
  pub bad_rest : Passes bytes → bad_input bytes ≡ odd
  unfolding bad_input
  bad_rest p =
      rw (
        le-ltb (length bytes) 2 (omega (arith, starts-behind, p.long)),
        le-ltb max_listed_nodes (decode16 bytes 0) p.nodes,
        le-ltb max_listed_entries (entry_count bytes) p.entries,
        le-ltb (length bytes) (neighbours_at bytes) p.long,
      )

  -- what the check tells where it finds no fault
  pub input_passes : bad_input bytes ≡ false → Passes bytes
  unfolding bad_input
  input_passes h =
      let four : (short || large_n || large_m || cut) ≡ false = or_false_left (short || large_n || large_m || cut) odd h in
      let three : (short || large_n || large_m) ≡ false = or_false_left (short || large_n || large_m) cut four in
      let two : (short || large_n) ≡ false = or_false_left (short || large_n) large_m three in
      record {
        long = ltb-false (length bytes) (neighbours_at bytes) (or_false_right (short || large_n || large_m) cut four);
        nodes = ltb-false max_listed_nodes (decode16 bytes 0) (or_false_right short large_n two);
        entries = ltb-false max_listed_entries (entry_count bytes) (or_false_right (short || large_n) large_m three);
      }

  -- ---- where the numbers stand

  -- start k ends before the neighbours
  pub start-within : (k : ℕ) → k < decode16 bytes 0 + 1 → 2 + 4 * k + 4 ≤ neighbours_at bytes
  unfolding neighbours_at
  start-within k h = omega arith

  -- the entries end within the input
  pub entries-within : neighbours_at bytes ≤ length bytes → neighbours_at bytes + 2 * entry_count bytes ≤ length bytes
  unfolding entry_count
  entries-within h = omega arith

  -- how many nodes the mesh has
  pub mesh-nodes : (input_mesh bytes).nodes ≡ decode16 bytes 0
  unfolding input_mesh
  mesh-nodes = refl

  -- how many starts, and each of them
  pub starts-many : length (input_mesh bytes).starts ≡ decode16 bytes 0 + 1
  unfolding input_mesh
  starts-many = length-map-up_from (λ k. decode32 bytes (2 + 4 * k)) (decode16 bytes 0 + 1) 0

  pub start_at : (k : ℕ) → k < decode16 bytes 0 + 1 → get_or (input_mesh bytes).starts k 0 ≡ decode32 bytes (2 + 4 * k)
  unfolding input_mesh
  start_at k h = get_or-map-below (λ k. decode32 bytes (2 + 4 * k)) 0 (decode16 bytes 0 + 1) k h

  -- how many entries
  entries-many : length (input_mesh bytes).neighbours ≡ entry_count bytes
  unfolding input_mesh
  entries-many = decode16s-length bytes (neighbours_at bytes) 2 (entry_count bytes)

  -- the mesh from the fronts of the buffers into which it was read
  pub mesh_read : (starts_found starts entries_found entries : List ℕ) (n e : ℕ) → n ≡ decode16 bytes 0 → e ≡ entry_count bytes
      → starts ≡ written (input_mesh bytes).starts starts_found → entries ≡ written (input_mesh bytes).neighbours entries_found
      → lent n (take (n + 1) starts) (take e entries) ≡ input_mesh bytes
  unfolding input_mesh
  mesh_read starts_found starts entries_found entries n e hn he hs ht =
      rw (
        front-written (n + 1) (input_mesh bytes).starts starts_found starts hs (omega (arith, starts-many)),
        front-written e (input_mesh bytes).neighbours entries_found entries ht (omega (arith, entries-many)),
        hn,
      )

  -- those fronts are there
  pub starts-room : (found starts : List ℕ) (n : ℕ) → n ≡ decode16 bytes 0 → starts ≡ written (input_mesh bytes).starts found → n + 1 ≤ length starts
  starts-room found starts n hn hs =
      omega (arith, starts-many, ap length hs, length-append (input_mesh bytes).starts (drop (length (input_mesh bytes).starts) found))

  pub entries-room : (found entries : List ℕ) (e : ℕ) → e ≡ entry_count bytes → entries ≡ written (input_mesh bytes).neighbours found → e ≤ length entries
  entries-room found entries e he ht =
      omega (arith, entries-many, ap length ht, length-append (input_mesh bytes).neighbours (drop (length (input_mesh bytes).neighbours) found))
