-- `listing::write_sheet_line` writes the first line. Assumes nothing.
use Rattle.std.proofs.Common.{arith}
use Rattle.std.proofs.lemmas.Int.{to_z-of_z}
use mir.Syntax.{w32}
use Rattle.lines.specs.Listing.{sheet_line}
use Rattle.lines.proofs.Standard.{decimal_standard, signed_decimal_standard}
use Rattle.lines.proofs.Written.{written_as, written_then}
use Rattle.lines.proofs.listing.write_sheet_line.Goals as goal

pub returns : goal.returns
unfolding sheet_line
returns c =
    let a = c.args in
    written_as (omega arith)
    (rw (
      decimal_standard a.nodes (omega arith),
      decimal_standard a.level_count (omega arith),
      decimal_standard a.separation (omega arith),
      signed_decimal_standard a.least c.ranges.least,
      signed_decimal_standard a.greatest c.ranges.greatest,
      to_z-of_z w32 a.least c.ranges.least,
      to_z-of_z w32 a.greatest c.ranges.greatest,
    ))
    (written_then c.write.ensures
    (written_then c.write_number.ensures
    (written_then c.write_number-2.ensures
    (written_then c.write_number-3.ensures (written_then c.write_number-4.ensures c.write_number-5.ensures)))))
