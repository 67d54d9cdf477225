-- `distance::widest` gives the greatest of the first half-widths. The invariant: of those passed. Assumes nothing.
use mathlib.Core.Path.{◌≡◌}
use Rattle.distance.specs.Needed as needed
use Rattle.distance.proofs.widest.Given as goal

abbrev pub invariant-loop-v : goal.invariant-loop-v
invariant-loop-v l = l.most ≡ needed.widest l.v l.widths
