-- `check::sums_of` gives the sums of words 0 to 253. The invariant: those of the words from a place on. Assumes nothing.
use Rattle.std.proofs.Common.{◌+◌, ◌-◌}
use Rattle.blocks.specs.Block.{weighted_place, word_at}
use Rattle.blocks.specs.Sums.{Summed}
use Rattle.blocks.proofs.check.sums_of.Given as goal

abbrev pub invariant-loop-place : goal.invariant-loop-place
invariant-loop-place l = Summed (weighted_place - l.place) (λ i. word_at l.block (l.place + i)) l.sums
