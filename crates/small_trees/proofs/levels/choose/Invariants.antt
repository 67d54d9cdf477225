-- The loop that counts off the smaller levels. Assumes nothing.
use Rattle.small_trees.proofs.Ways.{Counted}
use Rattle.small_trees.proofs.levels.choose.Given as goal

abbrev pub invariant-loop-level : goal.invariant-loop-level
invariant-loop-level l = Counted l.more l.behind.level l.behind.place l.level l.rest
