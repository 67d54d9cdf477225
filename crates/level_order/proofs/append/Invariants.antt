-- `level_order::append` meets its contract. The measure is how many nodes the next one leads to. Assumes nothing.
use Rattle.tree.specs.Forest.{size}
use Rattle.level_order.proofs.Appending.{Appending, follow}
use Rattle.level_order.proofs.append.Given as goal

abbrev pub invariant-loop-next : goal.invariant-loop-next
invariant-loop-next l = Appending l.tree.entries.now l.p l.v l.tail l.initial.work l.end l.next l.work

abbrev pub decreases-loop-next : goal.decreases-loop-next
decreases-loop-next l = size (follow l.tree.entries.now l.next)
