-- Lists by their starts, and those of a mesh whose starts passed check 2; arrays that begin with one number everywhere.
use mathlib.Core.Path.{◌≡◌}
use mathlib.Core.Bool.{false}
use mathlib.Core.List.{List}
use Prim.Native.Nat.{ℕ, ◌+◌, ◌-◌, ◌≤◌, ◌<◌}
use native.Mathlib.Omega.{arith}
use lib.ListN.{length, drop, get_or, length-drop, length-replicate, get_or-replicate}
use lib.Seq.{length-take-le}
use Rattle.plan.specs.Lists.{list_at}
use Rattle.plan.specs.Mesh.{max_nodes, Mesh, neighbours_of, adjacent, bad_starts, bad_mesh_starts}
use Rattle.theory.specs.Checked.{Starts, Checked}
use Rattle.theory.proofs.Ascending.{falls-get_or}
use Rattle.theory.proofs.Checked.{good-starts, mesh-starts}
use Rattle.theory.proofs.Lists.{is_in-get_or}
use Rattle.mesh.specs.Lists.{filled_with, ListWithin}

-- each of n lists lies within the entries, by their starts
pub starts-within : (n : ℕ) (starts entries : List ℕ) → Starts n starts → get_or starts n 0 ≤ length entries → (v : ℕ) → v < n → ListWithin starts entries v
starts-within n starts entries s last v lt =
    record {
      started = omega (arith, s.many);
      ordered = falls-get_or starts s.rising v (v + 1) (omega arith) (omega (arith, s.many));
      ended = omega (arith, last, falls-get_or starts s.rising (v + 1) n (omega arith) (omega (arith, s.many)));
    }

-- and by starts without a fault
pub good-starts-within : (n : ℕ) (starts entries : List ℕ) → bad_starts n starts ≡ false → get_or starts n 0 ≤ length entries → (v : ℕ) → v < n → ListWithin starts entries v
good-starts-within n starts entries h = starts-within n starts entries (good-starts n starts h)

-- a list that lies within them is as long as its two starts say
pub list_long : (starts entries : List ℕ) (v : ℕ) → ListWithin starts entries v → length (list_at starts entries v) ≡ get_or starts (v + 1) 0 - get_or starts v 0
unfolding list_at
list_long starts entries v w =
    let a : ℕ = get_or starts v 0 in
    length-take-le (get_or starts (v + 1) 0 - a) (drop a entries) (omega (arith, w.ended, length-drop a entries))

-- after check 2
pub list_within : (m : Mesh) → bad_mesh_starts m ≡ false → (v : ℕ) → v < m.nodes → ListWithin m.starts m.neighbours v
list_within m h v lt =
    let s = mesh-starts m h in
    starts-within m.nodes m.starts m.neighbours s.0 (omega (arith, s.1)) v lt

-- after all checks
pub checked-within : (m : Mesh) → Checked m → (v : ℕ) → v < m.nodes → ListWithin m.starts m.neighbours v
checked-within m h v lt = starts-within m.nodes m.starts m.neighbours h.starts (omega (arith, h.last)) v lt

-- each entry of a node's list is a node
pub entry_node : (m : Mesh) → Checked m → (v k : ℕ) → k < length (neighbours_of m v) → get_or (neighbours_of m v) k 0 < m.nodes
unfolding adjacent
entry_node m h v k lt = (h.inside v (get_or (neighbours_of m v) k 0) (is_in-get_or (neighbours_of m v) k 0 lt)).1

-- and so is each entry of a list that is equal to it
pub listed_node : (m : Mesh) → Checked m → (v : ℕ) (l : List ℕ) → l ≡ neighbours_of m v → (k : ℕ) → k < length l → get_or l k 0 < m.nodes
listed_node m h v l e k lt = rw e (entry_node m h v k (rw e at lt))

-- an array of one number is as long as the most nodes, and has the number at each place
pub filled-length : (x : ℕ) → length (filled_with x) ≡ max_nodes
unfolding filled_with
filled-length x = length-replicate max_nodes x

pub filled_at : (x i : ℕ) → i < max_nodes → get_or (filled_with x) i 0 ≡ x
unfolding filled_with
filled_at x i h = get_or-replicate max_nodes i x 0 h
