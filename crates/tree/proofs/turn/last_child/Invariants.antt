-- `tree::turn::last_child` meets its contract. The measure is how many nodes the next entry leads to. Assumes nothing.
use Rattle.tree.specs.Forest.{forest, size}
use Rattle.tree.proofs.LastChild.{Seeking}
use Rattle.tree.proofs.turn.last_child.Given as goal

abbrev pub invariant-loop-next : goal.invariant-loop-next
invariant-loop-next l = Seeking l.table l.v l.next l.found

abbrev pub decreases-loop-next : goal.decreases-loop-next
decreases-loop-next l = size (forest l.table l.next)
