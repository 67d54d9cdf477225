-- The loop that stores the levels as long as the dots on each suffice. Assumes nothing.
use Rattle.trees_of_dots.proofs.Descent.{Descending}
use Rattle.trees_of_dots.proofs.search.descend.Given as goal

abbrev pub invariant-loop-node : goal.invariant-loop-node
invariant-loop-node l = Descending l.nodes l.place l.initial.left l.left l.levels l.behind.level l.behind.place l.node
