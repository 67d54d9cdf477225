-- `rows::read_block` reads the rows of a block from its first one on. The invariant: the walk stands at the row of a node, and the rows before
-- it are read. Assumes nothing.
use Prim.Native.Nat.{◌-◌, ◌≤◌, ◌<◌}
use Rattle.sheet.specs.Walk.{OnRow}
use Rattle.sheet.specs.Steps.{RowsRead}
use Rattle.sheet.proofs.rows.read_block.Given as goal

abbrev pub invariant-loop-at : goal.invariant-loop-at
invariant-loop-at l =
    (OnRow l.at) × (l.initial.at.node ≤ l.at.node) × (l.at.node < l.nodes) × (RowsRead l.file l.at.node l.initial.table l.initial.tapes l.initial.widths l.table l.tapes l.widths)

abbrev pub decreases-loop-at : goal.decreases-loop-at
decreases-loop-at l = l.nodes - l.at.node
