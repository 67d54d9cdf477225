-- `check::sums_of_groups` gives the sums of words 6 to 253. The invariant: the lanes hold the groups passed. Assumes nothing.
use Rattle.std.proofs.Common.{◌+◌, ◌-◌, ◌*◌}
use Rattle.blocks.specs.Sums.{SideBySide}
use Rattle.blocks.proofs.check.sums_of_groups.Given as goal

abbrev pub invariant-loop-index : goal.invariant-loop-index
invariant-loop-index l = SideBySide l.block (6 + 8 * l.index) (31 - l.index) l.lanes
