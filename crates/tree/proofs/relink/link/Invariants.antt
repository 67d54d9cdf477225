-- `tree::relink::link` meets its contract. Assumes nothing.
use Rattle.tree.proofs.Links.{Linking}
use Rattle.tree.proofs.relink.link.Given as goal

abbrev pub invariant-loop-k : goal.invariant-loop-k
invariant-loop-k l = Linking l.table l.old l.new l.out l.k
