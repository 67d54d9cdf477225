-- `check::sums_of_groups` gives the sums of words 6 to 253. The invariant: the lanes hold the groups passed. Assumes nothing.
use Rattle.std.proofs.Common.{◌≡◌, arith}
use Rattle.blocks.proofs.Sums.{no-groups, summed-groups}
use Rattle.blocks.proofs.check.sums_of_groups.Goals as goal

pub loop-index-init : goal.loop-index-init
loop-index-init c = no-groups _ _

pub returns : goal.returns
returns c =
    let all : c.loop-index.index ≡ 0 = omega arith in
    summed-groups _ _ (c.together.ensures _ 6 31 (rw all at c.loop-index.invariant))
