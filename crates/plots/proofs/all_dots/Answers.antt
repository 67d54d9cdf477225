-- Each node's point is looked for. Assumes nothing.
use Rattle.std.proofs.Common.{rules, tests, ◌∙◌, take}
use Rattle.std.proofs.lemmas.Iterator.{YieldsList-from_slice, YieldsList-from_zip}
use Rattle.std.proofs.lemmas.Iterator.Search.{all_from_yields_List}
use Rattle.std.specs.List.{list_any}
use Rattle.plots.specs.Points.{point_of, same_point}
use Rattle.plots.proofs.Entries.{told, all_listed}
use Rattle.plots.proofs.all_dots.Goals as goal

pub returns : goal.returns
returns c =
    let n = c.args.nodes in
    all_from_yields_List (λ p. list_any (λ pair. same_point (told p) (point_of pair)) c.as_chunks.result.0.now) c.all.new.self _ _ c.all.ensures.ran
    (YieldsList-from_zip {s = c.zip.result} (YieldsList-from_slice (take n c.args.levels.now) (cc)) (YieldsList-from_slice (take n c.args.places.now) (cc)))
    (λ x b q k. search (rules, tests))
    ∙ all_listed _ _ n _ _ c.as_chunks.ensures.front c.requires.nodes_in_bounds c.requires.nodes_in_bounds_2
