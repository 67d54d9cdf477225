-- `check::group` takes one word more into each lane. The invariant: the lanes passed have theirs, and the others are as they were. Assumes nothing.
use Rattle.blocks.proofs.Sums.{MoreBelow}
use Rattle.blocks.proofs.check.group.Given as goal

abbrev pub invariant-loop-place : goal.invariant-loop-place
invariant-loop-place l = MoreBelow l.block l.from l.initial.lanes l.lanes l.place
