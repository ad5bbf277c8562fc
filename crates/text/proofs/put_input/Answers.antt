-- `text::put_input` meets its contract: the mesh is read into buffers, and their fronts are listed.
use mathlib.Core.Path.{sym, ap, ◌∙◌}
use native.Mathlib.Omega.{arith}
use lib.Seq.{length-take-le}
use Rattle.text.specs.Lines.{mesh_text}
use Rattle.text.proofs.Inputs.{Passes, input_passes, starts-behind, mesh_read, starts-room, entries-room}
use Rattle.text.proofs.put_input.Goals.{Start}
use Rattle.text.proofs.put_input.Goals as goal

-- the input has passed check 20
passes : (c : Start) → Passes c.args.input.now
passes c = input_passes c.args.input.now c.requires.0

pub read_starts-requires : goal.read_starts-requires
read_starts-requires c = let p = passes (goal.at.read_starts-requires c).Start in record { input_in_bounds = p.long; input_in_bounds_2 = omega (arith, p.nodes) }

pub read_neighbours-requires : goal.read_neighbours-requires
read_neighbours-requires c = let p = passes (goal.at.read_neighbours-requires c).Start in record { input_in_bounds = p.long; input_in_bounds_2 = p.entries }

pub node_count-n-requires : goal.node_count-n-requires
node_count-n-requires c = omega (arith, (passes (goal.at.node_count-n-requires c).Start).long, starts-behind c.args.input.now)

pub entry_count-entries-requires : goal.entry_count-entries-requires
entry_count-entries-requires c = (passes (goal.at.entry_count-entries-requires c).Start).long

pub slice_bounds-starts-end : goal.slice_bounds-starts-end
slice_bounds-starts-end c = starts-room c.args.input.now _ c.read_starts.new.starts c.node_count-n.result c.node_count-n.ensures.0 c.read_starts.ensures

pub slice_bounds-mesh-end : goal.slice_bounds-mesh-end
slice_bounds-mesh-end c = sym (length-take-le _ _ (starts-room c.args.input.now _ c.read_starts.new.starts c.node_count-n.result c.node_count-n.ensures.0 c.read_starts.ensures))

pub slice_bounds-neighbours-end : goal.slice_bounds-neighbours-end
slice_bounds-neighbours-end c = entries-room c.args.input.now _ c.read_neighbours.new.neighbours c.entry_count-entries.result c.entry_count-entries.ensures c.read_neighbours.ensures

pub slice_bounds-mesh-end-2 : goal.slice_bounds-mesh-end-2
slice_bounds-mesh-end-2 c = sym (length-take-le _ _ (entries-room c.args.input.now _ c.read_neighbours.new.neighbours c.entry_count-entries.result c.entry_count-entries.ensures c.read_neighbours.ensures))

pub put_mesh-requires : goal.put_mesh-requires
put_mesh-requires c = (omega (arith, (passes (goal.at.put_mesh-requires c).Start).nodes, c.node_count-n.ensures.0), c.requires.1)

pub returns : goal.returns
returns c =
    c.put_mesh.ensures
    ∙ ap mesh_text (mesh_read c.args.input.now _ c.read_starts.new.starts _ c.read_neighbours.new.neighbours
    c.node_count-n.result c.entry_count-entries.result c.node_count-n.ensures.0 c.entry_count-entries.ensures c.read_starts.ensures c.read_neighbours.ensures)
