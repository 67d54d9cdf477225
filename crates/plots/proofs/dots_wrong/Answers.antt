-- The loop over the dots. Assumes nothing.
use Rattle.std.proofs.Common.{sym, ◌∙◌}
use Rattle.plots.proofs.Entries.{wrong-length, judged_start, judged_wrong, judged_next, judged_end}
use Rattle.plots.proofs.dots_wrong.Goals as goal

pub returns-then-dots-nodes : goal.returns-then-dots-nodes
returns-then-dots-nodes c = sym (wrong-length _ _ c.if-dots-nodes.true)

pub loop-pair-init : goal.loop-pair-init
loop-pair-init c = judged_start _ _ _ c.if-dots-nodes.false c.as_chunks.ensures.front

pub returns-then-dot_wrong : goal.returns-then-dot_wrong
returns-then-dot_wrong c =
    judged_wrong _ _ _ _ _ c.loop-pair.invariant _ c.loop-pair-test.true c.of-next.ensures (sym c.dot_wrong.ensures ∙ c.if-dot_wrong.true)

pub loop-pair-preserved : goal.loop-pair-preserved
loop-pair-preserved c =
    judged_next _ _ _ _ _ c.loop-pair.invariant _ c.loop-pair-test.true c.of-next.ensures (sym c.dot_wrong.ensures ∙ c.if-dot_wrong.false)

pub returns : goal.returns
returns c = judged_end _ _ _ _ _ c.loop-pair.invariant c.loop-pair-test.false
