-- `families::join::join` meets its contract. The measure is how many positions are left after the child's first node. Assumes nothing.
use Prim.Native.Nat.{◌-◌}
use Rattle.tree.specs.Table.{nodes}
use Rattle.level_order.specs.Spaced.{table_of}
use Rattle.families.specs.Joining.{spacing_of}
use Rattle.families.proofs.Joining.{Joins, joining}
use Rattle.families.proofs.Worked.{Worked}
use Rattle.families.proofs.join.join.Given as goal

abbrev pub invariant-contours : goal.invariant-contours
invariant-contours l =
    (H : Joins (table_of l.tree) (spacing_of l.tree) l.elders.first l.elders.child l.end l.elders.default l.initial.work) × Worked (joining H) l.work l.stand

abbrev pub decreases-contours : goal.decreases-contours
decreases-contours l = nodes (table_of l.tree) - l.stand.child
