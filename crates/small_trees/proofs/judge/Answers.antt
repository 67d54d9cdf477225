-- The conditions, one after the other. Assumes nothing.
use Rattle.std.proofs.Common.{sym, arith}
use Rattle.small_trees.proofs.Ways.{count-ways}
use Rattle.small_trees.proofs.Numbers.{number_21, number_7, number_0}
use Rattle.small_trees.proofs.judge.Goals as goal

pub returns-then-place-ways : goal.returns-then-place-ways
returns-then-place-ways c =
    let count = count-ways c.args.nodes (omega arith) in
    sym (number_21 _ _ _ (omega arith) (omega arith) (omega arith))

pub returns-then-table-n : goal.returns-then-table-n
returns-then-table-n c =
    let count = count-ways c.args.nodes (omega arith) in
    sym (number_7 _ _ _ (omega arith) (omega arith) (omega arith) (omega arith))

pub returns : goal.returns
returns c =
    let count = count-ways c.args.nodes (omega arith) in
    sym (number_0 _ _ _ (omega arith) (omega arith) (omega arith) (omega arith))
