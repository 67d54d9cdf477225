-- `treetex::three_children` meets its contract. Assumes nothing.
use Rattle.std.proofs.Common.{◌∙◌, refl, rules, arith}
use Rattle.std.proofs.lemmas.Iterator.{YieldsList-from_range}
use Rattle.std.proofs.lemmas.Iterator.Search.{any_from_yields_List}
use borrow.Author.Tests.{tests}
use Rattle.tree.specs.Table.{nodes}
use Rattle.treetex.specs.TreeTeX.{has_three}
use Rattle.treetex.proofs.Children.{any-three}
use Rattle.treetex.proofs.three_children.Goals as goal

pub returns : goal.returns
returns c =
    let t = c.args.tree.entries.now in
    any_from_yields_List (has_three t) _ _ c.any.result c.any.ensures.ran (YieldsList-from_range 0 _ (nodes t) refl (omega (arith, c.nodes.ensures))) (λ x b q k. search (rules, tests))
    ∙ any-three t
