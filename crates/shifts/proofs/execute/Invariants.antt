-- `shifts::execute` meets its contract. Assumes nothing.
use Rattle.shifts.proofs.Executing.{Executing}
use Rattle.shifts.proofs.execute.Given as goal

abbrev pub invariant-loop-p : goal.invariant-loop-p
invariant-loop-p l = Executing l.f l.end l.initial.work l.work l.sum l.rate l.p
