-- `write_sheet` keeps its promise. Assumes nothing.
use Rattle.std.proofs.Common.{sym, arith}
use Rattle.std.proofs.lemmas.Result.{err_from_is_err_and}
use Rattle.refusal.proofs.Numbers.{number-nonzero}
use Rattle.tree.proofs.Stands.{accepted-numbers}
use Rattle.sheet.proofs.Written.{length-file}
use Rattle.writer.specs.Rows.{node_count}
use Rattle.writer.proofs.Answer.{taken, written-refused, written-accepted}
use Rattle.writer.proofs.write_sheet.Goals as goal

pub returns-in_err-rows : goal.returns-in_err-rows
returns-in_err-rows c =
    let a = c.args in
    let p = err_from_is_err_and c.from_residual.result c.from_residual.ensures.1 in
    rw (p.1, p.2)
    (written-refused a.table.now a.separation a.tapes.now a.widths.now a.out.now _ c.in_err-rows.ensures.number (number-nonzero _))

pub write_blocks-requires : goal.write_blocks-requires
write_blocks-requires c =
    let same = c.in_ok-rows.ensures.same_slices in
    rw (same.0, same.1, same.2) (taken _ _ _ _ _ (sym c.in_ok-rows.ensures.number)).out-room

pub overflow_cast-result : goal.overflow_cast-result
overflow_cast-result c =
    let rows = c.in_ok-rows.rows in
    let few = (accepted-numbers rows.tree.entries.now rows.tree.well_formed).few in
    omega (arith, c.write_blocks.ensures.count, length-file (node_count rows) c.args.separation rows.tree.entries.now rows.tapes.now rows.widths.now)

pub returns : goal.returns
returns c =
    let a = c.args in
    let same = c.in_ok-rows.ensures.same_slices in
    let file = rw (same.0, same.1, same.2) at c.write_blocks.ensures in
    written-accepted a.table.now a.separation a.tapes.now a.widths.now a.out.now _ _ (sym c.in_ok-rows.ensures.number) file.count file.out-after
