-- `distance::half_widths_wrong` meets its contract. Assumes nothing.
use mathlib.Core.Path.{sym, ap, ◌∙◌}
use lib.Dec.{ltb}
use Rattle.distance.proofs.HalfWidths.{widths_short, widths-tested}
use Rattle.distance.proofs.half_widths_wrong.Goals as goal

pub returns-then-widths-n : goal.returns-then-widths-n
returns-then-widths-n c =
    let a = c.args in
    sym (widths_short a.widths.now a.n c.if-widths-n.true)

pub returns : goal.returns
returns c =
    let a = c.args in
    ap (ltb 256) c.widest.ensures ∙ sym (widths-tested a.widths.now a.n c.if-widths-n.false)
