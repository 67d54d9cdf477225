-- A count is read from the table. Assumes nothing.
use Rattle.small_trees.proofs.Ways.{counts-right}
use Rattle.small_trees.proofs.levels.ways.Goals as goal

pub returns : goal.returns
returns c = counts-right.count c.args.more c.args.behind c.requires
