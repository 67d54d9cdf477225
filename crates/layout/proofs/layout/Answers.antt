-- `layout::layout` meets its contract. Assumes nothing.
use Rattle.std.proofs.Common.{sym, ◌∙◌, arith}
use Rattle.refusal.proofs.Numbers.{number-nonzero}
use Rattle.layout.proofs.Answers.{number-table, number-distance, number-room, nothing-wrong, laid_by, laid-exit}
use Rattle.layout.proofs.layout.Goals as goal

pub returns-in_err-check_table : goal.returns-in_err-check_table
returns-in_err-check_table c =
    laid-exit c.in_err-check_table.field-0.0 (number-table _ _ _ _ _ c.in_err-check_table.ensures.number (number-nonzero c.in_err-check_table.field-0.0)) _ c.from_residual.ensures.1

pub returns-in_err-check_distances : goal.returns-in_err-check_distances
returns-in_err-check_distances c =
    let e = c.in_err-check_distances.field-0.0 in
    laid-exit e (number-distance _ _ _ _ (sym c.in_ok-check_table.ensures.number) _ c.in_err-check_distances.ensures (number-nonzero e)) _
    c.from_residual-in_err-check_distances.ensures.1

pub returns-in_err-check_room : goal.returns-in_err-check_room
returns-in_err-check_room c =
    let number = number-room _ _ _ _ (sym c.in_ok-check_table.ensures.number) (sym c.in_ok-check_distances.ensures) in
    laid-exit c.in_err-check_room.field-0.0 (c.in_err-check_room.ensures ∙ number) _ c.from_residual-in_err-check_room.ensures.1

pub draw-requires : goal.draw-requires
draw-requires c =
    nothing-wrong _ _ _ _ _ (sym c.in_ok-check_table.ensures.number) (sym c.in_ok-check_distances.ensures) (omega arith) (sym c.in_ok-check_room.ensures)

pub returns : goal.returns
returns c =
    let number = number-room _ _ _ _ (sym c.in_ok-check_table.ensures.number) (sym c.in_ok-check_distances.ensures) in
    laid_by (c.in_ok-check_room.ensures ∙ number) c.draw.ensures
