-- `tree::relink::invert` meets its contract. Assumes nothing.
use lib.ListN.{length}
use Rattle.tree.proofs.Links.{Inverting}
use Rattle.tree.proofs.relink.invert.Given as goal

abbrev pub invariant-loop-k : goal.invariant-loop-k
invariant-loop-k l = Inverting l.old l.new (length l.initial.new) l.k
