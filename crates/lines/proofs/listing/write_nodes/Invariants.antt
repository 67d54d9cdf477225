-- `listing::write_nodes` writes the lines of all nodes. The invariant: those of the nodes before `node` are written, each within its room.
-- Assumes nothing.
use Rattle.std.proofs.Common.{◌*◌}
use Rattle.lines.specs.Listing.{node_lines}
use Rattle.lines.specs.Printed.{node_line_room}
use Rattle.lines.specs.Written.{Written}
use Rattle.lines.proofs.listing.write_nodes.Given as goal

abbrev pub invariant-loop-node : goal.invariant-loop-node
invariant-loop-node l = Written (node_line_room * l.node) (node_lines l.node l.levels l.places l.tapes) l.initial.text l.text
