-- The loop over the dots. Assumes nothing.
use Rattle.plots.proofs.Entries.{Judged}
use Rattle.plots.proofs.dots_wrong.Given as goal

abbrev pub invariant-loop-pair : goal.invariant-loop-pair
invariant-loop-pair l = Judged l.nodes l.dots l.pairs l.last l.pair-index
