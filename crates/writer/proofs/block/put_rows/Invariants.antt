-- `block::put_rows` stores the rows of a block. The invariant: the walk stands at the row of one of its nodes, and the rows before it are
-- stored. Assumes nothing.
use Rattle.std.proofs.Common.{◌≡◌, ◌+◌, ◌-◌, ◌<◌, ◌≤◌}
use Rattle.sheet.specs.Layout.{first_word}
use Rattle.sheet.specs.Walk.{OnRow}
use Rattle.writer.specs.Steps.{store_words, rows_of, rows_from}
use Rattle.writer.specs.Rows.{node_count}
use Rattle.writer.proofs.block.put_rows.Given as goal

abbrev pub invariant-loop-at : goal.invariant-loop-at
invariant-loop-at l =
    (OnRow l.at) × (l.initial.at.node ≤ l.at.node) × (l.at.node < l.initial.at.node + rows_of (node_count l.rows) l.initial.at)
    × (l.block ≡ store_words l.initial.block first_word (rows_from l.rows.tree.entries.now l.rows.tapes.now l.rows.widths.now l.initial.at.node (l.at.node - l.initial.at.node)))

abbrev pub decreases-loop-at : goal.decreases-loop-at
decreases-loop-at l = node_count l.rows - l.at.node
