-- `hiwenoka_layout_treetex` meets its contract: the extremes fit the results that they are stored in. Assumes nothing.
use Rattle.layout.specs.Operation.{slices}
use Rattle.layout.proofs.Stored.{laid-stored}
use Rattle.treetex.proofs.Answers.{accepted-call}
use Rattle.exports.proofs.Fields.{drawn_told}
use Rattle.exports.proofs.hiwenoka_layout_treetex.Goals as goal

pub returns : goal.returns
returns c =
    let a = c.args in
    let drawn = c.told-number.result.1 in
    laid-stored {least = drawn.least} {greatest = drawn.greatest}
    (λ e. (accepted-call a.table.now a.separation a.widths.now a.extra (slices a.places.now a.levels.now a.measured.now a.work.now) e).taken)
    (rw (c.told-number.ensures.number, c.told-number.ensures.given, drawn_told c.layout_treetex-laid.result) c.layout_treetex-laid.ensures)
