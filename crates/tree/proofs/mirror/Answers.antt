-- `tree::mirror` meets its contract. Assumes nothing.
use mathlib.Core.Path.{sym, ap, ◌∙◌}
use Rattle.std.proofs.lemmas.Result.{err_from_is_err_and}
use Rattle.refusal.proofs.Numbers.{number-nonzero}
use Rattle.tree.specs.Operations.{mirrored}
use Rattle.tree.proofs.Answers.{mirror-refused, mirror_short, mirror-accepted}
use Rattle.tree.proofs.mirror.Goals as goal

pub returns-in_err-tree : goal.returns-in_err-tree
returns-in_err-tree c =
    let p = err_from_is_err_and c.from_residual.result c.from_residual.ensures.1 in
    rw (p.1, p.2) (mirror-refused _ _ _ c.in_err-tree.ensures.number (number-nonzero _))

pub returns-then-out-entries : goal.returns-then-out-entries
returns-then-out-entries c = mirror_short _ _ (sym c.in_ok-tree.ensures.number) c.if-out-entries.true

pub returns : goal.returns
returns c =
    mirror-accepted _ _ (sym c.in_ok-tree.ensures.number) c.if-out-entries.false c.turn.new.out (c.turn.ensures ∙ ap mirrored c.in_ok-tree.ensures.same_table)
