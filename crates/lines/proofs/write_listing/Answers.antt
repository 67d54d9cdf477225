-- `write_listing` keeps its promise: nothing where the test fails, and else the first line and the nodes' lines. Assumes nothing.
use Rattle.std.proofs.Common.{rules, le_refl, sym, ◌∙◌, length}
use Rattle.std.proofs.lemmas.Int.{to_z-of_z}
use mir.Syntax.{w32}
use Rattle.lines.proofs.Answer.{not-printed, printed, able}
use Rattle.lines.proofs.Written.{written_as, written_then}
use Rattle.lines.proofs.write_listing.Goals as goal

pub returns-then-not-is_printable-clause-printed : goal.returns-then-not-is_printable-clause-printed
returns-then-not-is_printable-clause-printed c = not-printed _ (sym c.is_printable.ensures ∙ c.if-not-is_printable.true)

pub returns-clause-printed : goal.returns-clause-printed
returns-clause-printed c =
    let a = c.args in
    let holds = sym c.is_printable.ensures ∙ c.if-not-is_printable.false in
    let order = able a.nodes (length a.levels.now) (length a.places.now) (length a.tapes.now) (length a.out.now) holds in
    printed holds order.room c.new-text.ensures.same_bytes c.new-text.ensures.empty
    (written_as (le_refl _) (rw (to_z-of_z w32 a.least c.ranges.least, to_z-of_z w32 a.greatest c.ranges.greatest))
    (written_then c.write_sheet_line.ensures c.write_nodes.ensures))
    c.len.ensures (search rules)
