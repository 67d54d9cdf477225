-- The layout, and each node's point looked for. Assumes nothing.
use Rattle.std.proofs.Common.{◌∙◌}
use Rattle.trees_of_dots.proofs.Drawn.{drawn-fits}
use Rattle.trees_of_dots.proofs.search.Sought.table_fits.Goals as goal

pub returns : goal.returns
returns c = c.all_dots.ensures ∙ drawn-fits c.args.table.now c.args.self.now.dots.now c.args.self.now.separation c.requires _ _ c.layout.ensures
