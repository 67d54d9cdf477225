-- `tree::turn::turn` meets its contract. Assumes nothing.
use Rattle.tree.proofs.Turned.{Turning}
use Rattle.tree.proofs.turn.turn.Given as goal

abbrev pub invariant-loop-v : goal.invariant-loop-v
invariant-loop-v l = Turning l.table l.out l.v
