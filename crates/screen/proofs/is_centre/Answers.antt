-- `screen::is_centre` meets its contract. Assumes nothing.
use mathlib.Core.Path.{ap, ◌∙◌}
use mathlib.Core.Bool.{Bool, ◌&&◌}
use lib.Ieee.{binary64, add, sub, eq, of_bits}
use Rattle.screen.specs.Screen.{is_centre}
use Rattle.screen.proofs.Whole.{shift, centre-tested}
use Rattle.screen.proofs.is_centre.Goals as goal

pub returns : goal.returns
unfolding is_centre of_bits
returns c =
    let x = c.args.x in
    ap (λ (t : Bool). t && eq (sub binary64 (add binary64 x shift) shift) x) c.within.ensures ∙ centre-tested x
