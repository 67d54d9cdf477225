-- `block::write_block` writes a block of rows. Assumes nothing.
use Rattle.std.proofs.Common.{◌≡◌, [], ◌∷◌, refl, arith}
use Rattle.sheet.specs.Layout.{row_word}
use Rattle.writer.specs.Steps.{rows_of}
use Rattle.writer.specs.Rows.{node_count, rows_of_block}
use Rattle.writer.proofs.Stored.{stored_next}
use Rattle.writer.proofs.Rows.{length-rows}
use Rattle.writer.proofs.Closed.{block_written}
use Rattle.writer.proofs.block.write_block.Goals as goal

pub returns : goal.returns
returns c =
    let a = c.args in
    let from = a.from in
    let n = node_count a.rows in
    let count : c.rows_of-count.result ≡ rows_of n from = omega (arith, c.rows_of-count.ensures, c.requires.begun.first) in
    let rows = rows_of_block a.rows from in
    let size = length-rows a.rows.tree.entries.now a.rows.tapes.now a.rows.widths.now from.node (rows_of n from) in
    let words = stored_next a.block.now 0 (from.block ∷ rows_of n from ∷ []) rows _ _ 2 refl (rw (← count) c.put_head.ensures) c.put_rows-next.ensures.block_after in
    record {
      past = c.put_rows-next.ensures.past;
      block_after =
          block_written (from.block ∷ rows_of n from ∷ rows) a.block.now _ _ _ (row_word (rows_of n from)) (omega arith) (omega arith)
          c.requires.block_bytes_in_bounds words (rw (← count) c.put_zeros.ensures) c.close.ensures;
    }
