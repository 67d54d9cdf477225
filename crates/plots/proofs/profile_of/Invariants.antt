-- The loop that counts the dots of each level. Assumes nothing.
use Rattle.plots.proofs.Profiles.{Counting}
use Rattle.plots.proofs.profile_of.Given as goal

abbrev pub invariant-loop-pair : goal.invariant-loop-pair
invariant-loop-pair l = Counting l.pairs l.profile l.pair-index
