-- `families::families` meets its contract. Assumes nothing.
use Rattle.level_order.specs.Spaced.{table_of}
use Rattle.families.specs.Joining.{spacing_of}
use Rattle.families.proofs.FamiliesLoop.{DrawnFrom}
use Rattle.families.proofs.families.Given as goal

abbrev pub invariant-loop-p : goal.invariant-loop-p
invariant-loop-p l = DrawnFrom (table_of l.tree) (spacing_of l.tree) l.p l.initial.work l.work
