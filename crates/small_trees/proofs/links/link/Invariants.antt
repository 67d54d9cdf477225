-- The loop from the last node to the first. Assumes nothing.
use Rattle.small_trees.proofs.Rows.{Linking}
use Rattle.small_trees.proofs.links.link.Given as goal

abbrev pub invariant-loop-node : goal.invariant-loop-node
invariant-loop-node l = Linking l.levels l.table l.next l.node
