-- `check::group` takes one word more into each lane. The invariant: the lanes passed have theirs, and the others are as they were. Assumes nothing.
use Rattle.std.proofs.Common.{arith}
use Rattle.blocks.proofs.Sums.{grouped}
use Rattle.blocks.proofs.check.group.Goals as goal

pub returns : goal.returns
returns c = grouped _ _ _ _ c.requires.0 c.told-lanes (λ j m. c.loop-place.invariant.more j (omega arith))
