-- The loop over the places of the list. Assumes nothing.
use Prim.Native.Nat.{◌-◌}
use Rattle.plots.specs.Points.{points_of}
use Rattle.trees_of_dots.proofs.Searching.{Searched}
use Rattle.trees_of_dots.proofs.search.search.Given as goal

abbrev pub invariant-loop-place : goal.invariant-loop-place
invariant-loop-place l = Searched l.nodes l.separation (points_of l.dots) l.found l.place

abbrev pub decreases-loop-place : goal.decreases-loop-place
decreases-loop-place l = l.places - l.place
