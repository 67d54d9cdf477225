-- `write_number` gives the number of the first condition that holds. Assumes nothing.
use Rattle.std.proofs.Common.{◌≡◌, ◌*◌, ◌≤◌, false, length, sym, ap, ◌∙◌, arith}
use Rattle.tree.specs.Table.{nodes}
use Rattle.tree.specs.WellFormed.{table_number}
use Rattle.tree.proofs.Stands.{accepted-numbers}
use Rattle.distance.specs.Needed.{bad_separation}
use Rattle.distance.proofs.HalfWidths.{good-widths}
use Rattle.sheet.proofs.Written.{length-file}
use Rattle.writer.proofs.Answer.{number-table, number_6, number_13, number_17, number_7, number_0}
use Rattle.std.proofs.lemmas.Result.{err_from_is_err_and}
use Rattle.refusal.proofs.Numbers.{number-nonzero}
use Rattle.writer.proofs.check.Goals as goal

pub returns-in_err-tree-clause-number : goal.returns-in_err-tree-clause-number
returns-in_err-tree-clause-number c =
    let a = c.args in
    let p = err_from_is_err_and c.from_residual.result c.from_residual.ensures.1 in
    rw (p.1, p.2)
    (number-table a.table.now a.separation a.tapes.now a.widths.now a.out.now _ c.in_err-tree.ensures.number (number-nonzero _))

pub returns-then-separation_wrong-clause-number : goal.returns-then-separation_wrong-clause-number
returns-then-separation_wrong-clause-number c =
    let a = c.args in
    let accepted : table_number a.table.now ≡ 0 = sym c.in_ok-tree.ensures.number in
    number_6 a.table.now a.separation a.tapes.now a.widths.now a.out.now accepted
    (sym c.separation_wrong.ensures ∙ c.if-separation_wrong.true)

pub returns-then-tapes-n-clause-number : goal.returns-then-tapes-n-clause-number
returns-then-tapes-n-clause-number c =
    let a = c.args in
    let accepted : table_number a.table.now ≡ 0 = sym c.in_ok-tree.ensures.number in
    let good : bad_separation a.separation ≡ false = sym c.separation_wrong.ensures ∙ c.if-separation_wrong.false in
    let count : c.nodes-n.result ≡ nodes a.table.now = c.nodes-n.ensures ∙ ap nodes c.in_ok-tree.ensures.same_table in
    number_13 a.table.now a.separation a.tapes.now a.widths.now a.out.now accepted good (omega (arith, count))

pub returns-then-half_widths_wrong-clause-number : goal.returns-then-half_widths_wrong-clause-number
returns-then-half_widths_wrong-clause-number c =
    let a = c.args in
    let accepted : table_number a.table.now ≡ 0 = sym c.in_ok-tree.ensures.number in
    let good : bad_separation a.separation ≡ false = sym c.separation_wrong.ensures ∙ c.if-separation_wrong.false in
    let count : c.nodes-n.result ≡ nodes a.table.now = c.nodes-n.ensures ∙ ap nodes c.in_ok-tree.ensures.same_table in
    let enough : 2 * nodes a.table.now ≤ length a.tapes.now = omega (arith, count) in
    number_17 a.table.now a.separation a.tapes.now a.widths.now a.out.now accepted good enough
    (rw count at (sym c.half_widths_wrong.ensures ∙ c.if-half_widths_wrong.true))

pub blocks_for-requires : goal.blocks_for-requires
blocks_for-requires c = omega (arith, (accepted-numbers c.in_ok-tree.tree.entries.now c.in_ok-tree.tree.well_formed).few)

pub overflow_mul-blocks_for : goal.overflow_mul-blocks_for
overflow_mul-blocks_for c = omega (arith, c.blocks_for.ensures, (accepted-numbers c.in_ok-tree.tree.entries.now c.in_ok-tree.tree.well_formed).few)

pub returns-then-out-blocks_for-clause-number : goal.returns-then-out-blocks_for-clause-number
returns-then-out-blocks_for-clause-number c =
    let a = c.args in
    let accepted : table_number a.table.now ≡ 0 = sym c.in_ok-tree.ensures.number in
    let good : bad_separation a.separation ≡ false = sym c.separation_wrong.ensures ∙ c.if-separation_wrong.false in
    let count : c.nodes-n.result ≡ nodes a.table.now = c.nodes-n.ensures ∙ ap nodes c.in_ok-tree.ensures.same_table in
    let enough : 2 * nodes a.table.now ≤ length a.tapes.now = omega (arith, count) in
    let narrow = rw count at (sym c.half_widths_wrong.ensures ∙ c.if-half_widths_wrong.false) in
    number_7 a.table.now a.separation a.tapes.now a.widths.now a.out.now accepted good enough narrow
    (omega (arith, count, c.blocks_for.ensures, length-file (nodes a.table.now) a.separation a.table.now a.tapes.now a.widths.now))

pub invariant_of-result : goal.invariant_of-result
invariant_of-result c =
    let narrow = rw c.nodes-n.ensures at (sym c.half_widths_wrong.ensures ∙ c.if-half_widths_wrong.false) in
    record { enough = (omega arith, (good-widths c.args.widths.now (nodes c.in_ok-tree.tree.entries.now) narrow).0) }

pub returns-clause-number : goal.returns-clause-number
returns-clause-number c =
    let a = c.args in
    let accepted : table_number a.table.now ≡ 0 = sym c.in_ok-tree.ensures.number in
    let good : bad_separation a.separation ≡ false = sym c.separation_wrong.ensures ∙ c.if-separation_wrong.false in
    let count : c.nodes-n.result ≡ nodes a.table.now = c.nodes-n.ensures ∙ ap nodes c.in_ok-tree.ensures.same_table in
    let enough : 2 * nodes a.table.now ≤ length a.tapes.now = omega (arith, count) in
    let narrow = rw count at (sym c.half_widths_wrong.ensures ∙ c.if-half_widths_wrong.false) in
    number_0 a.table.now a.separation a.tapes.now a.widths.now a.out.now accepted good enough narrow
    (omega (arith, count, c.blocks_for.ensures, length-file (nodes a.table.now) a.separation a.table.now a.tapes.now a.widths.now))
