-- `level_order::number` meets its contract. Assumes nothing.
use Rattle.level_order.proofs.TableNumbering.{Loop}
use Rattle.level_order.proofs.number.Given as goal

abbrev pub invariant-loop-p : goal.invariant-loop-p
invariant-loop-p l = Loop l.tree.table.entries.now l.tree.separation l.tree.widths.now l.initial.work l.work l.p l.tail l.reach
