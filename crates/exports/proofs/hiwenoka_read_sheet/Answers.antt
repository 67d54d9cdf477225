-- `hiwenoka_read_sheet` meets its contract: what `read_sheet` answers, in plain fields. Assumes nothing.
use Rattle.exports.proofs.Fields.{read_told}
use Rattle.exports.proofs.hiwenoka_read_sheet.Goals as goal

pub returns : goal.returns
returns c =
    rw (c.told-number.ensures.number, c.told-number.ensures.given, read_told c.read_sheet-read.result) c.read_sheet-read.ensures
