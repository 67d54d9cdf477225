-- `tree::judge::check` meets its contract: the array that is lent has an entry for each node. Assumes nothing.
use native.Mathlib.Omega.{arith}
use Rattle.tree.proofs.Accepted.{good_length}
use Rattle.tree.proofs.judge.check.Goals as goal

pub judge-requires-2 : goal.judge-requires-2
judge-requires-2 c = record { enough = λ ok. omega (arith, (good_length c.args.table.now ok).2) }
