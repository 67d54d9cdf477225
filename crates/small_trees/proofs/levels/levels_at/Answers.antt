-- The loop that stores the levels. Assumes nothing.
use Rattle.std.proofs.Common.{arith}
use Rattle.small_trees.proofs.Ways.{some_level, fill_start, fill_end}
use Rattle.small_trees.proofs.levels.levels_at.Goals as goal

pub bounds-levels-0 : goal.bounds-levels-0
bounds-levels-0 c = some_level _ _ c.requires

pub loop-node-init : goal.loop-node-init
loop-node-init c = fill_start _ _ c.requires

pub returns : goal.returns
returns c = fill_end _ _ _ _ _ _ c.loop-node.invariant (omega arith)
