-- `block::write_header` writes the header. Assumes nothing.
use Rattle.std.proofs.Common.{[], ◌∷◌, refl, arith}
use Rattle.sheet.specs.Layout.{header_mark}
use Rattle.writer.proofs.Stored.{stored_next}
use Rattle.writer.proofs.Closed.{block_written}
use Rattle.writer.proofs.block.write_header.Goals as goal

pub returns : goal.returns
returns c =
    let a = c.args in
    let block = a.block.now in
    let nodes = stored_next block 0 (0 ∷ header_mark ∷ []) (a.nodes ∷ []) _ _ 2 refl c.put_head.ensures c.put.ensures in
    let words = stored_next block 0 (0 ∷ header_mark ∷ a.nodes ∷ []) (a.separation ∷ []) _ _ 3 refl nodes c.put-2.ensures in
    block_written (0 ∷ header_mark ∷ a.nodes ∷ a.separation ∷ []) block _ _ _ 4 refl (omega arith) (omega arith) words c.put_zeros.ensures
    c.close.ensures
