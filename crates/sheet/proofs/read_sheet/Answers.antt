-- `read_sheet` keeps its promise. Assumes nothing.
use Rattle.std.proofs.Common.{sym, arith}
use Rattle.std.proofs.lemmas.Result.{err_from_is_err_and}
use Rattle.refusal.proofs.Numbers.{number-nonzero}
use Rattle.sheet.proofs.Answer.{accepted, refused-read, accepted-read}
use Rattle.sheet.proofs.read_sheet.Goals as goal

pub returns-in_err-check_file : goal.returns-in_err-check_file
returns-in_err-check_file c =
    let a = c.args in
    let p = err_from_is_err_and c.from_residual.result c.from_residual.ensures.1 in
    rw (p.1, p.2) (refused-read a.file.now a.table.now a.tapes.now a.widths.now _ (number-nonzero c.in_err-check_file.field-0.0) c.in_err-check_file.ensures)

pub nodes_of-nodes-requires : goal.nodes_of-nodes-requires
nodes_of-nodes-requires c = omega (arith, accepted _ _ _ _ (sym c.in_ok-check_file.ensures))

pub separation_of-separation-requires : goal.separation_of-separation-requires
separation_of-separation-requires c = omega (arith, accepted _ _ _ _ (sym c.in_ok-check_file.ensures))

pub read_rows-requires : goal.read_rows-requires
read_rows-requires c = rw c.nodes_of-nodes.ensures (omega (arith, accepted _ _ _ _ (sym c.in_ok-check_file.ensures)))

pub returns : goal.returns
returns c =
    let a = c.args in
    accepted-read a.file.now a.table.now a.tapes.now a.widths.now _ _ _ _ _ (sym c.in_ok-check_file.ensures) c.nodes_of-nodes.ensures c.separation_of-separation.ensures c.read_rows.ensures
