-- `tree::judge::preorder` meets its contract. The measure of both loops is how many nodes are still to be placed. Assumes nothing.
use Prim.Native.Nat.{◌+◌, ◌-◌, ◌≤◌}
use Rattle.tree.specs.Table.{none, nodes}
use Rattle.tree.proofs.Stack.{one}
use Rattle.tree.proofs.Visit.{Visiting}
use Rattle.tree.proofs.judge.preorder.Given as goal

-- the inner loop has placed a node, or has one at hand
abbrev pub invariant-loop-v : goal.invariant-loop-v
invariant-loop-v l = Visiting l.table l.order l.v l.low l.count × (l.initial.count + 1 ≤ l.count + one l.v)

abbrev pub decreases-loop-v : goal.decreases-loop-v
decreases-loop-v l = nodes l.table - l.count

abbrev pub invariant-loop-low : goal.invariant-loop-low
invariant-loop-low l = Visiting l.table l.order none l.low l.count

abbrev pub decreases-loop-low : goal.decreases-loop-low
decreases-loop-low l = nodes l.table - l.count
