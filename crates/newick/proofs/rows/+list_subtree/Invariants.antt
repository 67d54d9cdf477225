-- The proof of the cycle of calls {list, subtree}. Assumes nothing.
use Prim.Native.Nat.{◌+◌, ◌-◌, ◌*◌}
use lib.ListN.{length}
use Rattle.newick.proofs.Lists.{ListTurn}
use Rattle.newick.proofs.rows.+list_subtree.Given as goal

-- what is left of the text falls; `list` calls `subtree` at its own place, so that its measure lies above
abbrev pub decreases-list : goal.decreases-list
decreases-list l = 2 * (length l.text.now - l.from.at) + 1

abbrev pub decreases-subtree : goal.decreases-subtree
decreases-subtree l = 2 * (length l.text.now - l.from.at)

abbrev pub invariant-list-loop-from : goal.invariant-list-loop-from
invariant-list-loop-from l = ListTurn l.text l.fn.from.at l.fn.from.node l.initial.table l.initial.tapes l.table l.tapes l.from.at l.from.node

abbrev pub decreases-list-loop-from : goal.decreases-list-loop-from
decreases-list-loop-from l = length l.text - l.from.at
