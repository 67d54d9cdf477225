-- `block::put_zeros` stores 0 up to the check words. Assumes nothing.
use Rattle.std.proofs.Common.{◌*◌, rules, arith}
use borrow.Rule.Slice.PartMut.{mid_len}
use Rattle.blocks.specs.Block.{weighted_place}
use Rattle.writer.proofs.Rows.{zeros_filled}
use Rattle.writer.proofs.block.put_zeros.Goals as goal

pub returns : goal.returns
returns c =
    let a = c.args in
    rw (c.fill.ensures.after (λ y h. search rules), mid_len (2 * a.used) (2 * weighted_place) a.block.now (omega arith))
    (zeros_filled a.block.now a.used c.requires.0 c.requires.1)
