-- `check::sums_of` gives the sums of words 0 to 253. The invariant: those of the words from a place on. Assumes nothing.
use Rattle.std.proofs.Common.{arith}
use Rattle.blocks.specs.Block.{weighted_place, word_at}
use Rattle.blocks.proofs.Sums.{from-more}
use Rattle.blocks.proofs.check.sums_of.Goals as goal

pub loop-place-preserved : goal.loop-place-preserved
loop-place-preserved c =
    from-more weighted_place (word_at c.args.block.now) c.loop-place.place _ _ _ (omega arith) (omega arith) c.loop-place.invariant c.more.ensures c.word.ensures
