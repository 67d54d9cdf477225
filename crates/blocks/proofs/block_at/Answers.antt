-- `block_at` gives a block of the file, whole. Assumes nothing.
use Rattle.std.proofs.Common.{ap, ◌∙◌, arith, List, [], ℕ, get_or, length}
use Rattle.blocks.specs.Block.{block_bytes, block_at}
use Rattle.blocks.proofs.Words.{length-block, chunk_at}
use Rattle.blocks.proofs.block_at.Goals as goal

pub returns : goal.returns
unfolding block_at
returns c =
    let file = c.args.file.now in
    let place = c.args.place in
    let bytes = ap (λ (blocks : List (List ℕ)). get_or blocks place []) c.as_chunks.ensures.front ∙ chunk_at block_bytes _ place file (omega arith) in
    record { bytes = bytes; size = ap length bytes ∙ length-block file place c.requires }
