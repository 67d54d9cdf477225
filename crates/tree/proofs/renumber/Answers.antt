-- `tree::renumber` meets its contract: the array that is lent has an entry for each node. Assumes nothing.
use native.Mathlib.Omega.{arith}
use Rattle.tree.proofs.Accepted.{good_length}
use Rattle.tree.proofs.renumber.Goals as goal

pub renumber_in-requires-2 : goal.renumber_in-requires-2
renumber_in-requires-2 c = record { enough = λ ok. omega (arith, (good_length c.args.table.now ok).2) }
