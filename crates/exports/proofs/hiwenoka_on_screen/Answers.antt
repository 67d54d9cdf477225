-- `exports::hiwenoka_on_screen` meets its contract: what `on_screen` answers, in plain fields. Assumes nothing.
use Rattle.std.proofs.Common.{ap, ap₂, ◌∙◌}
use Rattle.std.proofs.lemmas.Int.{to_z-of_z}
use mir.Syntax.{w32}
use Rattle.screen.specs.Screen.{screen_number, answer, values_of}
use Rattle.screen.specs.declared.View.{View}
use Rattle.exports.proofs.hiwenoka_on_screen.Goals as goal

pub returns : goal.returns
returns c =
    let a = c.args in
    let view : View = record { across = a.across; down = a.down; zoom = a.zoom } in
    let same = to_z-of_z w32 a.place c.ranges.place in
    let told = c.told-number.ensures in
    record {
      values = c.values_of-values.ensures
          ∙ ap₂ values_of (told.number ∙ c.on_screen.ensures.number ∙ ap (screen_number view) same)
          (told.given ∙ c.on_screen.ensures.seen ∙ ap (answer view a.level) same);
    }
