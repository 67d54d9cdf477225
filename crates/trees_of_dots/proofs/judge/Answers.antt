-- The conditions, one after the other. Assumes nothing.
use Rattle.std.proofs.Common.{sym, ◌∙◌, arith, inl, inr}
use mathlib.Core.Logic.{⊎_elim}
use Rattle.distance.proofs.Separation.{separation-bad, separation-good}
use Rattle.small_trees.proofs.Numbers.{wrong_size}
use Rattle.trees_of_dots.proofs.Numbers.{number_20, number_22, number_6, number_0}
use Rattle.trees_of_dots.proofs.judge.Goals as goal

pub returns-then-not-contains : goal.returns-then-not-contains
returns-then-not-contains c = sym (number_20 _ _ _ (wrong_size c.args.nodes (λ some few. grind arith)))

pub returns-then-dots_wrong : goal.returns-then-dots_wrong
returns-then-dots_wrong c = sym (number_22 _ _ _ (grind arith) (grind arith) (sym c.dots_wrong.ensures ∙ c.if-dots_wrong.true))

pub returns-then-not-contains-2 : goal.returns-then-not-contains-2
returns-then-not-contains-2 c =
    sym
    (number_6 _ _ _ (grind arith) (grind arith) (sym c.dots_wrong.ensures ∙ c.if-dots_wrong.false)
    (separation-bad c.args.separation (⊎_elim (λ w. inl (grind arith)) (λ w. inr (grind arith)) c.if-not-contains-2.ensures.cases)))

pub returns : goal.returns
returns c =
    sym
    (number_0 _ _ _ (grind arith) (grind arith) (sym c.dots_wrong.ensures ∙ c.if-dots_wrong.false) (separation-good c.args.separation (grind arith) (grind arith)))
