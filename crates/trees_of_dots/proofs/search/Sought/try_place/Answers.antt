-- The levels at the place, and where the dots on each level suffice whether their tree fits. Assumes nothing.
use mathlib.Core.Path.{ap, ◌∙◌, subst}
use Prim.Native.Nat.{ℕ}
use lib.Seq.{length-take-le}
use Rattle.small_trees.specs.Sequence.{is_sequence}
use Rattle.small_trees.specs.SmallTrees.{sequence_at}
use Rattle.small_trees.proofs.AllComplete.{at-sequence}
use Rattle.trees_of_dots.specs.Steps.{Passed}
use Rattle.trees_of_dots.proofs.Listed.{tried-passed, tried-stored, first_levels}
use Rattle.trees_of_dots.proofs.search.Sought.try_place.Goals as goal

pub returns-in-Some : goal.returns-in-Some
returns-in-Some c =
    let self = c.args.self.now in
    tried-passed _ _ self.dots.now _ self.plot _ self.counted _
    (subst (λ (n : ℕ). Passed n c.args.place self.profile c.in-Some.step) (length-take-le self.nodes _ self.plot.few) c.in-Some.ensures)

-- the levels are stored
pub levels_fit-requires-clause-sequence : goal.levels_fit-requires-clause-sequence
levels_fit-requires-clause-sequence c =
    let self = c.args.self.now in
    let stored = c.in_default.ensures ∙ ap (λ (n : ℕ). sequence_at n c.args.place) (length-take-le self.nodes _ self.plot.few) in
    ap is_sequence (first_levels self.nodes c.args.place _ _ c.requires stored) ∙ at-sequence self.nodes c.args.place c.requires

pub returns : goal.returns
returns c =
    let self = c.args.self.now in
    let stored = c.in_default.ensures ∙ ap (λ (n : ℕ). sequence_at n c.args.place) (length-take-le self.nodes _ self.plot.few) in
    tried-stored _ _ self.dots.now _ self.plot c.requires _ (first_levels self.nodes c.args.place _ _ c.requires stored) _ c.levels_fit.ensures
