-- `hiwenoka_write_sheet` meets its contract: what `write_sheet` answers, in plain fields. Assumes nothing.
use Rattle.exports.proofs.Fields.{written_told}
use Rattle.exports.proofs.hiwenoka_write_sheet.Goals as goal

pub returns : goal.returns
returns c =
    rw (c.told-number.ensures.number, c.told-number.ensures.given, written_told c.write_sheet.result) c.write_sheet.ensures
