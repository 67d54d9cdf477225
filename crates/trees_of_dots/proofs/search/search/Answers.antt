-- The loop over the places of the list. Assumes nothing.
use Rattle.std.proofs.Common.{arith, Option, ◌+◌, ◌∙◌}
use mathlib.Core.Path.{subst⁻¹}
use Rattle.small_trees.proofs.Ways.{count-ways}
use Rattle.plots.specs.Points.{points_of}
use Rattle.trees_of_dots.specs.declared.Trees.{Trees}
use Rattle.trees_of_dots.proofs.Searching.{Searched, found_few, search_found, search_missed, search_end}
use Rattle.trees_of_dots.proofs.search.search.Goals as goal
use Rattle.trees_of_dots.proofs.search.search.Goals.{then-tried, else-tried}

-- the count of places is known
pub try_place-tried-requires : goal.try_place-tried-requires
try_place-tried-requires c = omega (arith, count-ways c.args.nodes c.requires.some)

-- a place was tried
pub with_place-found-requires : goal.with_place-found-requires
with_place-found-requires c = omega (arith, found_few _ _ _ _ _ c.loop-place.invariant, c.ways-places.type_inv)

pub overflow_add-place : goal.overflow_add-place
overflow_add-place c = record { fits = omega (arith, c.try_place-tried.ensures.inside, count-ways c.args.nodes c.requires.some, c.ways-places.type_inv) }

pub loop-place-preserved : goal.loop-place-preserved
loop-place-preserved c =
    let l = c.loop-place in
    let tried = c.try_place-tried in
    let next : Option Trees → Type 0 = λ f. Searched c.args.nodes c.args.separation (points_of c.args.dots.now) f (l.place + tried.result.step) in
    elim c.if-tried.branch [
      | then-tried w ↦ subst⁻¹ next (w.found-is ∙ w.with_place-found.ensures) (search_found _ _ _ _ _ l.invariant tried.result tried.ensures w.if-tried.true)
      | else-tried w ↦ subst⁻¹ next w.found-is (search_missed _ _ _ _ _ l.invariant tried.result tried.ensures w.if-tried.false)
    ]

pub returns : goal.returns
returns c = search_end _ _ _ _ _ c.loop-place.invariant (omega (arith, count-ways c.args.nodes c.requires.some))
