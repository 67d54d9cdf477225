-- `hiwenoka_layout` meets its contract: the extremes fit the results that they are stored in. Assumes nothing.
use Rattle.layout.specs.Operation.{slices}
use Rattle.layout.proofs.Answers.{taken}
use Rattle.layout.proofs.Stored.{laid-stored}
use Rattle.exports.proofs.Fields.{drawn_told}
use Rattle.exports.proofs.hiwenoka_layout.Goals as goal

pub returns : goal.returns
returns c =
    let a = c.args in
    let drawn = c.told-number.result.1 in
    laid-stored {least = drawn.least} {greatest = drawn.greatest} (taken a.table.now a.separation a.widths.now (slices a.places.now a.levels.now a.measured.now a.work.now))
    (rw (c.told-number.ensures.number, c.told-number.ensures.given, drawn_told c.layout-laid.result) c.layout-laid.ensures)
