-- `listing::write_nodes` writes the lines of all nodes. Assumes nothing.
use Rattle.std.proofs.Common.{refl, arith}
use Rattle.std.proofs.lemmas.Int.{to_z-of_z}
use mir.Syntax.{w32}
use Rattle.lines.proofs.Listed.{none_written, node_more}
use Rattle.lines.proofs.listing.write_nodes.Goals as goal

pub loop-node-init : goal.loop-node-init
loop-node-init c = none_written c.args.text.now c.args.levels.now c.args.places.now c.args.tapes.now

pub loop-node-preserved : goal.loop-node-preserved
loop-node-preserved c =
    let a = c.args in
    node_more c.loop-node.node a.levels.now a.places.now a.tapes.now c.loop-node.invariant refl
    (to_z-of_z w32 _ (record { sfits = omega arith })) c.tape_number.ensures c.write_node.ensures
