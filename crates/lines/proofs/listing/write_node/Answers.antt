-- `listing::write_node` writes a node's line. Assumes nothing.
use Rattle.std.proofs.Common.{arith}
use Rattle.std.proofs.lemmas.Int.{to_z-of_z}
use mir.Syntax.{w32}
use Rattle.lines.specs.Listing.{node_line}
use Rattle.lines.proofs.Standard.{decimal_standard, signed_decimal_standard}
use Rattle.lines.proofs.Written.{written_as, written_then}
use Rattle.lines.proofs.listing.write_node.Goals as goal

pub returns : goal.returns
unfolding node_line
returns c =
    let a = c.args in
    written_as (omega arith)
    (rw (
      decimal_standard a.node (omega arith),
      decimal_standard a.level (omega arith),
      signed_decimal_standard a.place c.ranges.place,
      decimal_standard a.tape (omega arith),
      to_z-of_z w32 a.place c.ranges.place,
    ))
    (written_then c.write_number.ensures
    (written_then c.write_number-2.ensures (written_then c.write_number-3.ensures c.write_number-4.ensures)))
