-- `layout::check_room` meets its contract: an accepted table has few nodes. Assumes nothing.
use Rattle.std.proofs.Common.{arith}
use Rattle.tree.proofs.Stands.{accepted-numbers}
use Rattle.layout.proofs.check_room.Goals as goal

pub overflow_mul-n-2 : goal.overflow_mul-n-2
overflow_mul-n-2 c = omega (arith, (accepted-numbers c.args.table.now c.requires).few)
