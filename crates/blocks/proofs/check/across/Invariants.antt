-- `check::across` gives the sums across eight lanes. The invariant: those of the lanes from a place on. Assumes nothing.
use Rattle.std.proofs.Common.{◌≡◌, ℕ, ◌+◌, ◌-◌}
use Rattle.blocks.specs.Sums.{lane_count, lane, Summed}
use Rattle.blocks.specs.declared.check.Sums.{Sums}
use Rattle.blocks.proofs.check.across.Given as goal

abbrev pub invariant-loop-place : goal.invariant-loop-place
invariant-loop-place g l =
    goal.F-IsAlwaysCallable g l.part
    × ((f : Sums → ℕ) → ((s : Sums) (w : ℕ) → goal.F-post g l.part s w → w ≡ f s) → Summed (lane_count - l.place) (λ j. f (lane l.lanes (l.place + j))) l.sums)
