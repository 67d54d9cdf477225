-- `render::list_table` meets its contract: the layout's number is the table's, and the slices hold what the rule gives. Assumes nothing.
use Rattle.std.proofs.Common.{replicate, pos, refl, sym, arith}
use Rattle.std.proofs.Math.Seq.{length-take-le}
use Rattle.refusal.proofs.Numbers.{number-nonzero}
use Rattle.rule.specs.Result.{Slices}
use Rattle.layout.specs.Operation.{slices}
use Rattle.render.proofs.TableText.{Ample, few, can_print, refused-listed, accepted-listed}
use Rattle.render.proofs.list_table.Goals as goal

-- the arrays as they are lent
abbrev lent : Slices
lent = slices (replicate 1024 (pos 0)) (replicate 1024 0) (replicate 2048 0) (replicate 16384 (pos 0))

ample : Ample lent
ample = record { places = omega arith; levels = omega arith; measured = omega arith; work = omega arith }

pub slice_bounds-levels-end : goal.slice_bounds-levels-end
slice_bounds-levels-end c =
    let a = c.args in
    omega (arith, few a.table.now a.separation a.widths.now c.in-Ok.ensures c.requires.le_separation c.requires.separation_bound ample refl)

pub slice_bounds-write_listing-end : goal.slice_bounds-write_listing-end
slice_bounds-write_listing-end c =
    let a = c.args in
    let enough = few a.table.now a.separation a.widths.now c.in-Ok.ensures c.requires.le_separation c.requires.separation_bound ample refl in
    sym (length-take-le _ _ (omega (arith, enough)))

pub slice_bounds-places-end : goal.slice_bounds-places-end
slice_bounds-places-end c =
    let a = c.args in
    omega (arith, few a.table.now a.separation a.widths.now c.in-Ok.ensures c.requires.le_separation c.requires.separation_bound ample refl)

pub slice_bounds-write_listing-end-in-Ok : goal.slice_bounds-write_listing-end-in-Ok
slice_bounds-write_listing-end-in-Ok c =
    let a = c.args in
    let enough = few a.table.now a.separation a.widths.now c.in-Ok.ensures c.requires.le_separation c.requires.separation_bound ample refl in
    sym (length-take-le _ _ (omega (arith, enough)))

pub returns-in-Ok-clause-written : goal.returns-in-Ok-clause-written
returns-in-Ok-clause-written c =
    let a = c.args in
    let q = c.requires in
    c.write_listing.ensures.written.1
    (can_print a.table.now a.separation a.widths.now c.in-Ok.ensures q.le_separation q.separation_bound ample refl a.tapes.now
    q.text_room_in_bounds q.table_in_bounds)

pub returns-in-Ok-clause-printed : goal.returns-in-Ok-clause-printed
returns-in-Ok-clause-printed c =
    let a = c.args in
    let q = c.requires in
    accepted-listed a.table.now a.separation a.widths.now c.in-Ok.ensures q.le_separation q.separation_bound ample refl a.tapes.now
    q.text_room_in_bounds q.table_in_bounds c.write_listing.ensures.printed

pub returns-in-Err-clause-printed : goal.returns-in-Err-clause-printed
returns-in-Err-clause-printed c =
    let a = c.args in
    let q = c.requires in
    refused-listed a.table.now a.separation a.widths.now c.in-Err.ensures q.le_separation q.separation_bound ample a.tapes.now
    q.text_room_in_bounds (number-nonzero c.in-Err.refused) (omega (arith, c.number.ensures)) c.write_refusal.ensures.printed
