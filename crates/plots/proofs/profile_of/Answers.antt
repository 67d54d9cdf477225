-- The loop that counts the dots of each level. Assumes nothing.
use Rattle.std.proofs.Common.{arith, rules, ap, ◌∙◌}
use mir.Syntax.{w32}
use mir.Val.{SFits}
use mir.ValLaws.{to_z-of_z}
use Rattle.plots.specs.declared.Point.{Point}
use Rattle.plots.proofs.Sound.{sound}
use Rattle.plots.proofs.Profiles.{count-start, room, count-end}
use Rattle.plots.proofs.profile_of.Goals as goal

pub loop-pair-init : goal.loop-pair-init
loop-pair-init c = count-start _ _ _ c.requires.nodes_bound (sound _ _ c.requires.dots_value) c.as_chunks.ensures.front

pub overflow_add-profile : goal.overflow_add-profile
overflow_add-profile c =
    let fits : SFits w32 c.of.result.level = search rules in
    let read = to_z-of_z w32 c.of.result.level fits ∙ ap (λ (p : Point). p.level) c.of.ensures in
    record { fits = omega (arith, room _ _ _ c.loop-pair.invariant c.loop-pair-test.true _ read) }

pub returns : goal.returns
returns c = count-end _ _ _ c.loop-pair.invariant _ c.as_chunks.ensures.front c.loop-pair-test.false
