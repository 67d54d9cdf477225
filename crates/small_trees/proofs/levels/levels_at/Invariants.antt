-- The loop that stores the levels. Assumes nothing.
use Rattle.small_trees.proofs.Ways.{Filling}
use Rattle.small_trees.proofs.levels.levels_at.Given as goal

abbrev pub invariant-loop-node : goal.invariant-loop-node
invariant-loop-node l = Filling l.place l.nodes l.levels l.behind.level l.behind.place l.node
