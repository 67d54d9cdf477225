-- `tree::check_table` meets its contract. Assumes nothing.
use native.Mathlib.Omega.{arith}
use Rattle.tree.proofs.Followed.{accepted-linked}
use Rattle.tree.proofs.check_table.Goals as goal

pub overflow_cast-result : goal.overflow_cast-result
overflow_cast-result c = omega (arith, (accepted-linked c.in_ok-tree.tree.entries.now c.in_ok-tree.tree.well_formed).few)
