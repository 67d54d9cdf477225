-- A point is looked for in the pairs. Assumes nothing.
use Rattle.std.proofs.Common.{rules, tests}
use Rattle.std.proofs.lemmas.Iterator.{YieldsList-from_slice}
use Rattle.std.proofs.lemmas.Iterator.Search.{any_from_yields_List}
use Rattle.plots.specs.Points.{point_of, same_point}
use Rattle.plots.proofs.has_dot.Goals as goal

pub returns : goal.returns
returns c =
    any_from_yields_List (λ pair. same_point c.args.point (point_of pair)) c.any.new.self _ _ c.any.ensures.ran (YieldsList-from_slice c.args.pairs.now (cc))
    (λ x b q k. search (rules, tests))
