-- `write_blocks` writes the header and then the blocks of rows. The invariant: the walk stands at the row of a node, the blocks of the nodes
-- before it are whole, and the output starts with them. Assumes nothing.
use Rattle.std.proofs.Common.{◌≡◌, ◌-◌}
use Rattle.refusal.specs.After.{overwrite}
use Rattle.sheet.specs.Layout.{blocks_for}
use Rattle.sheet.specs.Walk.{OnRow}
use Rattle.writer.specs.Rows.{node_count}
use Rattle.writer.proofs.Blocks.{front, Whole}
use Rattle.writer.proofs.write_blocks.Given as goal

abbrev pub invariant-loop-at : goal.invariant-loop-at
invariant-loop-at l =
    (OnRow l.at) × (Whole (node_count l.rows) l.at.node) × (l.out ≡ overwrite (front (node_count l.rows) l.separation l.rows.tree.entries.now l.rows.tapes.now l.rows.widths.now (blocks_for l.at.node)) l.initial.out)

abbrev pub decreases-loop-at : goal.decreases-loop-at
decreases-loop-at l = node_count l.rows - l.at.node
