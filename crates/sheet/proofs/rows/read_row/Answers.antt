-- `rows::read_row` reads the row of the node that the walk stands at. Assumes nothing.
use native.Mathlib.Nat.{add-zero}
use Rattle.sheet.proofs.rows.read_row.Goals as goal

pub returns : goal.returns
returns c =
    let block = c.block_at-block.ensures.bytes in
    let at = c.requires.on_row in
    record {
      table-after = rw (c.copy_pair.ensures, block, at.block, at.word, add-zero);
      tapes-after = rw (c.copy_pair-2.ensures, block, at.block, at.word);
      half_widths-after = rw (c.word.ensures, block, at.block, at.word);
    }
