-- `families::family::others` meets its contract. Assumes nothing.
use Rattle.level_order.specs.Spaced.{table_of}
use Rattle.families.specs.Joining.{spacing_of, Rowed}
use Rattle.families.specs.Families.{Through}
use Rattle.families.proofs.family.others.Given as goal

-- the children before it are joined
abbrev pub invariant-loop-child : goal.invariant-loop-child
invariant-loop-child l =
    Rowed (table_of l.tree) (spacing_of l.tree) l.first l.child l.end l.default l.work × Through (table_of l.tree) l.first l.child l.initial.work l.work
