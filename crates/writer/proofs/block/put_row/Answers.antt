-- `block::put_row` stores the row of the node that the walk stands at. Assumes nothing.
use Rattle.std.proofs.Common.{◌+◌, [], ◌∷◌, ◌++◌, get_or, refl}
use Rattle.sheet.specs.File.{row}
use Rattle.sheet.specs.Steps.{pair_of}
use Rattle.writer.proofs.Stored.{stored_next}
use Rattle.writer.proofs.block.put_row.Goals as goal

pub returns : goal.returns
unfolding row
returns c =
    let a = c.args in
    let of-table = pair_of a.rows.tree.entries.now a.at.node in
    let of-tapes = pair_of a.rows.tapes.now a.at.node in
    let of-widths = get_or a.rows.widths.now a.at.node 0 ∷ [] in
    let pairs = stored_next a.block.now a.at.word of-table of-tapes _ _ (a.at.word + 2) refl c.put_pair.ensures c.put_pair-2.ensures in
    rw (← c.requires.on_row.0.word)
    (stored_next a.block.now a.at.word (of-table ++ of-tapes) of-widths _ _ (a.at.word + 4) refl pairs c.put.ensures)
