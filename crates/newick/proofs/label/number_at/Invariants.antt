-- The loop over a label's digits. Assumes nothing.
use lib.ListN.{drop}
use Rattle.newick.specs.Steps.{leading}
use Rattle.newick.proofs.LabelAt.{Passed}
use Rattle.newick.proofs.label.number_at.Given as goal

abbrev pub invariant-loop-value : goal.invariant-loop-value
invariant-loop-value l = Passed l.text l.at l.value l.end

abbrev pub decreases-loop-value : goal.decreases-loop-value
decreases-loop-value l = leading (drop l.end l.text)
