-- The loop from the last node to the first. Assumes nothing.
use Rattle.std.proofs.Common.{arith, ◌-◌}
use Rattle.small_trees.proofs.Rows.{link-level, link-next, link-end}
use Rattle.small_trees.proofs.links.link.Goals as goal

pub link_node-requires-clause-level_in_bounds : goal.link_node-requires-clause-level_in_bounds
link_node-requires-clause-level_in_bounds c =
    omega (arith, link-level c.args.levels.now c.args.table.now c.requires (c.loop-node.node - 1) (omega arith))

pub loop-node-preserved : goal.loop-node-preserved
loop-node-preserved c =
    link-next c.args.levels.now c.args.table.now c.requires _ _ _ _ c.loop-node.invariant (omega arith) _ _ c.link_node.ensures.0 c.link_node.ensures.1

pub returns : goal.returns
returns c = link-end c.args.levels.now c.args.table.now c.requires _ _ _ c.loop-node.invariant (omega arith)
