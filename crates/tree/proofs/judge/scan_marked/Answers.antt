-- `tree::judge::scan_marked` meets its contract: the array that is lent has a mark for each node. Assumes nothing.
use mathlib.Core.Bool.{Bool, false}
use Prim.Native.Nat.{ℕ, ◌≤◌}
use native.Mathlib.Omega.{arith}
use lib.ListN.{replicate, length-replicate, get_or-replicate}
use Rattle.tree.specs.Table.{nodes}
use Rattle.tree.specs.Steps.{Unmarked}
use Rattle.tree.proofs.Accepted.{good_length}
use Rattle.tree.proofs.judge.scan_marked.Goals as goal

clear : (n k : ℕ) → n ≤ k → Unmarked n (replicate k false)
clear n k h =
    record { enough = omega (arith, length-replicate {A = Bool} k false); clear = λ v l. get_or-replicate {A = Bool} k v false false (omega arith) }

pub scan-requires-clause-unmarked : goal.scan-requires-clause-unmarked
scan-requires-clause-unmarked c = clear (nodes c.args.table.now) 64 (omega arith)

pub scan-requires-2-clause-unmarked : goal.scan-requires-2-clause-unmarked
scan-requires-2-clause-unmarked c = clear (nodes c.args.table.now) 1024 (omega (arith, (good_length c.args.table.now c.requires).2))
