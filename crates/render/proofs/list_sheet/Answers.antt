-- `render::list_sheet` meets its contract: what is read is laid out and printed. Assumes nothing.
use Rattle.std.proofs.Common.{ℕ, ◌*◌, ◌≤◌, length, replicate, refl, sym, arith}
use Rattle.std.proofs.Math.Seq.{length-take-le}
use borrow.Author.Tests.{lt-leb}
use Rattle.refusal.proofs.Numbers.{number-nonzero}
use Rattle.lines.proofs.Answer.{not-printed}
use Rattle.render.specs.Text.{text_room}
use Rattle.render.proofs.SheetText.{with_room, refused-sheet, nodes-few, separation-some, separation-small, sheet-listed}
use Rattle.render.proofs.list_sheet.Goals as goal

-- the arrays as they are lent are long enough
long : 2048 ≤ length (replicate {A = ℕ} 2048 0)
long = omega arith

wide : 1024 ≤ length (replicate {A = ℕ} 1024 0)
wide = omega arith

pub returns-then-out-lt-TEXT_ROOM-clause-printed : goal.returns-then-out-lt-TEXT_ROOM-clause-printed
returns-then-out-lt-TEXT_ROOM-clause-printed c = not-printed _ (lt-leb text_room _ c.if-out-lt-TEXT_ROOM.true)

pub slice_bounds-table-end : goal.slice_bounds-table-end
slice_bounds-table-end c = omega (arith, nodes-few c.in-Ok.ensures long long wide refl)

pub slice_bounds-list_table-end : goal.slice_bounds-list_table-end
slice_bounds-list_table-end c = sym (length-take-le _ _ (omega (arith, nodes-few c.in-Ok.ensures long long wide refl)))

pub slice_bounds-tapes-end : goal.slice_bounds-tapes-end
slice_bounds-tapes-end c = omega (arith, nodes-few c.in-Ok.ensures long long wide refl)

pub slice_bounds-list_table-end-in-Ok : goal.slice_bounds-list_table-end-in-Ok
slice_bounds-list_table-end-in-Ok c = sym (length-take-le _ _ (omega (arith, nodes-few c.in-Ok.ensures long long wide refl)))

pub slice_bounds-widths-end : goal.slice_bounds-widths-end
slice_bounds-widths-end c = omega (arith, nodes-few c.in-Ok.ensures long long wide refl)

pub slice_bounds-list_table-end-in-Ok-2 : goal.slice_bounds-list_table-end-in-Ok-2
slice_bounds-list_table-end-in-Ok-2 c = sym (length-take-le _ _ (omega (arith, nodes-few c.in-Ok.ensures long long wide refl)))

pub list_table-requires : goal.list_table-requires
list_table-requires c =
    let n = c.in-Ok.sheet.nodes in
    let r = c.read_sheet.new in
    let few = nodes-few c.in-Ok.ensures long long wide refl in
    record {
      le_separation = separation-some c.in-Ok.ensures long long wide refl;
      separation_bound = separation-small c.in-Ok.ensures long long wide refl;
      table_in_bounds = omega (arith, length-take-le (2 * n) r.table (omega (arith, few)), length-take-le (2 * n) r.tapes (omega (arith, few)));
      text_room_in_bounds = c.if-out-lt-TEXT_ROOM.false;
    }

pub returns-in-Ok-clause-printed : goal.returns-in-Ok-clause-printed
returns-in-Ok-clause-printed c =
    with_room c.if-out-lt-TEXT_ROOM.false (sheet-listed c.in-Ok.ensures long long wide refl c.list_table.ensures.printed)

pub returns-in-Err-clause-printed : goal.returns-in-Err-clause-printed
returns-in-Err-clause-printed c =
    let room = c.if-out-lt-TEXT_ROOM.false in
    with_room room
    (refused-sheet c.in-Err.ensures long long wide room (number-nonzero c.in-Err.refusal) c.number.ensures c.write_refusal.ensures.printed)
