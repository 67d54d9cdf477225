-- `check::across` gives the sums across eight lanes. The invariant: those of the lanes from a place on. Assumes nothing.
use Rattle.std.proofs.Common.{arith}
use Rattle.blocks.specs.Sums.{lane_count, lane}
use Rattle.blocks.proofs.Sums.{summed-none, from-more, from_all}
use Rattle.blocks.proofs.check.across.Goals as goal

pub loop-place-init : goal.loop-place-init
loop-place-init g c = (c.requires, λ f is. summed-none _)

pub loop-place-preserved : goal.loop-place-preserved
loop-place-preserved g c =
    (c.loop-place.invariant.0, λ f is. from-more lane_count (λ j. f (lane c.args.lanes.now j)) c.loop-place.place _ _ _ (omega arith) (omega arith) (c.loop-place.invariant.1 f is) c.more.ensures (is _ _ c.part.ensures))

pub returns : goal.returns
returns g c = λ f is. from_all lane_count (λ j. f (lane c.args.lanes.now j)) _ _ (omega arith) (c.loop-place.invariant.1 f is)
