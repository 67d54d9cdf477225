-- `rows::read_rows` reads the rows of all nodes. The invariant: the walk stands at the row of a node, a block's first where one is left, and
-- the rows before it are read. Assumes nothing.
use mathlib.Core.Path.{◌≡◌}
use Prim.Native.Nat.{◌-◌, ◌≤◌, ◌<◌}
use Rattle.sheet.specs.Layout.{first_word}
use Rattle.sheet.specs.Walk.{OnRow}
use Rattle.sheet.specs.Steps.{RowsRead}
use Rattle.sheet.proofs.rows.read_rows.Given as goal

abbrev pub invariant-loop-at : goal.invariant-loop-at
invariant-loop-at l =
    (OnRow l.at) × (l.at.node ≤ l.nodes) × (l.at.node < l.nodes → l.at.word ≡ first_word) × (RowsRead l.file l.at.node l.initial.table l.initial.tapes l.initial.widths l.table l.tapes l.widths)

abbrev pub decreases-loop-at : goal.decreases-loop-at
decreases-loop-at l = l.nodes - l.at.node
