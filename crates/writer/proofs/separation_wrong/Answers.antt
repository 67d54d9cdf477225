-- `separation_wrong` is condition 6. Assumes nothing.
use Rattle.std.proofs.Common.{rules}
use Rattle.distance.specs.Needed.{bad_separation}
use Rattle.writer.proofs.separation_wrong.Goals as goal

pub returns : goal.returns
unfolding bad_separation
returns c = search rules
