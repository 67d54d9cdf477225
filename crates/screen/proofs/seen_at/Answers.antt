-- `screen::seen_at` meets its contract: its operations and tests are those of `seen-is`. Assumes nothing.
use mathlib.Core.Path.{refl, ap, ap₂, ◌∙◌}
use mathlib.Core.Bool.{Bool, true, false, ◌&&◌}
use lib.Ieee.{Float, fin, binary64, of_int, of_bits}
use lib.IntN.{pos}
use mir.Syntax.{w32}
use mir.ValLaws.{to_z-of_z}
use Rattle.screen.specs.Screen.{distance}
use Rattle.screen.proofs.Compared.{within}
use Rattle.screen.proofs.Distances.{seen-is}
use Rattle.screen.proofs.seen_at.Goals as goal
use Rattle.screen.proofs.seen_at.Goals.{else-within-via-then-within+else-within-2, else-within-via-else-within}

pub returns-then-within-2 : goal.returns-then-within-2
unfolding of_bits
returns-then-within-2 c =
    let a = c.args in
    let from_place = c.from.ensures ∙ ap (of_int binary64) (to_z-of_z w32 a.place c.ranges.place) in
    seen-is a.view a.level a.place c.ranges.level.fits c.requires _ _ _ _ true
    (c.distance-across.ensures ∙ ap (λ (x : Float). distance x a.view.across a.view.zoom) from_place)
    (c.distance-down.ensures ∙ ap (λ (x : Float). distance x a.view.down a.view.zoom) c.units_down.ensures) c.within.ensures c.within-then-within.ensures
    (ap₂ ◌&&◌ c.if-within.true c.if-within-2.true)

pub returns-else-within : goal.returns-else-within
unfolding of_bits
returns-else-within c =
    let a = c.args in
    let from_place = c.from.ensures ∙ ap (of_int binary64) (to_z-of_z w32 a.place c.ranges.place) in
    let across = c.distance-across.ensures ∙ ap (λ (x : Float). distance x a.view.across a.view.zoom) from_place in
    let down = c.distance-down.ensures ∙ ap (λ (x : Float). distance x a.view.down a.view.zoom) c.units_down.ensures in
    elim c.else-within.branch [
      | else-within-via-then-within+else-within-2 w ↦ seen-is a.view a.level a.place c.ranges.level.fits c.requires _ _ _ _ false across down c.within.ensures w.within-then-within.ensures (ap₂ ◌&&◌ w.if-within.true w.if-within-2.false)
      | else-within-via-else-within w ↦ seen-is a.view a.level a.place c.ranges.level.fits c.requires _ _ _ _ false across down c.within.ensures refl (ap (λ (t : Bool). t && within c.distance-down.result (fin false 135 (pos 2))) w.if-within.false)
    ]
