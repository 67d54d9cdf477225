-- `second_walk::second_walk` meets its contract. Assumes nothing.
use Rattle.level_order.specs.Spaced.{table_of}
use Rattle.second_walk.specs.SecondWalk.{spacing_of}
use Rattle.second_walk.proofs.Settling.{Settling}
use Rattle.second_walk.proofs.second_walk.Given as goal

abbrev pub invariant-loop-p : goal.invariant-loop-p
invariant-loop-p l =
    Settling (table_of l.tree) (spacing_of l.tree) l.initial.measured l.initial.work l.places l.levels l.measured l.work l.least l.greatest l.pairs l.p
