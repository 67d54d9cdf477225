-- `rows::read_block` reads the rows of a block from its first one on. The invariant: the walk stands at the row of a node, and the rows before
-- it are read. Assumes nothing.
use mathlib.Core.Path.{sym, ap, ◌∙◌}
use Prim.Native.Nat.{◌+◌, ◌-◌, ◌≤◌, ◌<◌}
use native.Mathlib.Omega.{arith}
use Rattle.sheet.specs.Layout.{block_rows, row_word, node_word}
use Rattle.sheet.proofs.Places.{block-after}
use Rattle.sheet.proofs.Reading.{table_kept, tapes-kept, half_widths-kept, room-kept, row_more}
use Rattle.sheet.proofs.rows.read_block.Goals.{then-loop-at-test+else-at-lt-LAST_ROW_WORD, else-loop-at-test}
use Rattle.sheet.proofs.rows.read_block.Goals as goal

pub loop-at-init : goal.loop-at-init
loop-at-init c =
    let at = c.requires.on_row.0 in
    (record { block = at.block; word = sym c.requires.on_row.1 ∙ at.word }, omega arith, c.requires.on_row.2, c.requires.rows_read)

pub read_row-requires : goal.read_row-requires
read_row-requires c =
    let inv = c.loop-at.invariant in
    record {
      on_row = inv.0;
      room = room-kept _ _ _ _ _ _ _ _ inv.3 (c.loop-at.at.node + 1) c.args.nodes (omega arith) (omega arith) c.requires.room;
    }

pub next_row-at-requires : goal.next_row-at-requires
next_row-at-requires c = (c.loop-at.invariant.0, omega (arith, c.requires.on_row))

pub loop-at-smaller : goal.loop-at-smaller
loop-at-smaller c = omega (arith, c.next_row-at.ensures)

pub loop-at-preserved : goal.loop-at-preserved
loop-at-preserved c =
    let inv = c.loop-at.invariant in
    let next = c.next_row-at.ensures in (
      next.1,
      omega arith,
      omega arith,
      rw next.0 (row_more _ _ _ _ _ _ _ _ inv.3 c.args.nodes _ _ _ inv.2 c.requires.room c.read_row.ensures),
    )

pub read_row-requires-2 : goal.read_row-requires-2
read_row-requires-2 c =
    let inv = c.loop-at.invariant in
    record {
      on_row = inv.0;
      room = room-kept _ _ _ _ _ _ _ _ inv.3 (c.loop-at.at.node + 1) c.args.nodes (omega arith) (omega arith) c.requires.room;
    }

pub next_row-requires : goal.next_row-requires
next_row-requires c = (c.loop-at.invariant.0, omega (arith, c.requires.on_row))

pub shape_of-table : goal.shape_of-table
shape_of-table c =
    let inv = c.loop-at.invariant in
    table_kept _ _ _ _ _ _ _ _ (row_more _ _ _ _ _ _ _ _ inv.3 c.args.nodes _ _ _ inv.2 c.requires.room c.read_row-2.ensures)
    (omega (arith, c.requires.room))

pub shape_of-tapes : goal.shape_of-tapes
shape_of-tapes c =
    let inv = c.loop-at.invariant in
    tapes-kept _ _ _ _ _ _ _ _ (row_more _ _ _ _ _ _ _ _ inv.3 c.args.nodes _ _ _ inv.2 c.requires.room c.read_row-2.ensures)
    (omega (arith, c.requires.room))

pub shape_of-widths : goal.shape_of-widths
shape_of-widths c =
    let inv = c.loop-at.invariant in
    half_widths-kept _ _ _ _ _ _ _ _ (row_more _ _ _ _ _ _ _ _ inv.3 c.args.nodes _ _ _ inv.2 c.requires.room c.read_row-2.ensures)
    (omega (arith, c.requires.room))

pub returns : goal.returns
returns c =
    let inv = c.loop-at.invariant in
    let next = c.next_row.ensures in
    -- where a node is left, the loop is left at the block's last row
    let ended : c.loop-at.at.node + 1 < c.args.nodes → row_word (block_rows - 1) ≤ node_word c.loop-at.at.node = λ left.
    elim c.loop-at-test.branch [
      | then-loop-at-test+else-at-lt-LAST_ROW_WORD w ↦ rw (← inv.0.word) w.if-at-lt-LAST_ROW_WORD.false
      | else-loop-at-test w ↦ absurd (omega (arith, w.loop-at-test.false, left))
    ]
    in
    record {
      on_row = next.1;
      further = omega arith;
      within = omega arith;
      begins = λ left. next.1.word ∙ ap node_word next.0 ∙ block-after c.loop-at.at.node (ended (rw next.0 at left));
      rows = rw next.0 (row_more _ _ _ _ _ _ _ _ inv.3 c.args.nodes _ _ _ inv.2 c.requires.room c.read_row-2.ensures);
    }
