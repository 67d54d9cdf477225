-- `treetex::layout_treetex` meets its contract. Assumes nothing.
use Rattle.std.proofs.Common.{ℕ, List, Bool, ◌≡◌, sym, ap, ◌∙◌, arith}
use Rattle.refusal.specs.declared.Refusal.TheVariants.{ThreeChildren, ExtraSpace}
use Rattle.refusal.proofs.Numbers.{number-nonzero}
use Rattle.layout.proofs.Answers.{nothing-wrong, laid_by, laid-err, laid-exit}
use Rattle.treetex.specs.TreeTeX.{three_children}
use Rattle.treetex.proofs.Answers.{number-table, number_23, number-distance, number_wide, number-room, not-too-wide}
use Rattle.treetex.proofs.layout_treetex.Goals as goal

-- what is told of the tree holds of the table
told : {tree table : List ℕ} {b : Bool} → tree ≡ table → b ≡ three_children tree → three_children table ≡ b
told same h = ap three_children (sym same) ∙ sym h

pub returns-in_err-tree : goal.returns-in_err-tree
returns-in_err-tree c =
    let e = c.in_err-tree.field-0.0 in
    laid-exit e (number-table _ _ _ _ _ _ c.in_err-tree.ensures.number (number-nonzero e)) _ c.from_residual.ensures.1

pub returns-then-three_children : goal.returns-then-three_children
returns-then-three_children c =
    laid-err ThreeChildren (number_23 _ _ _ _ _ (sym c.in_ok-tree.ensures.number) (told c.in_ok-tree.ensures.same_table c.if-three_children.ensures))

pub returns-in_err-check_distances : goal.returns-in_err-check_distances
returns-in_err-check_distances c =
    let e = c.in_err-check_distances.field-0.0 in
    let two = told c.in_ok-tree.ensures.same_table c.if-three_children.ensures in
    laid-exit e (number-distance _ _ _ _ _ (sym c.in_ok-tree.ensures.number) two _ c.in_err-check_distances.ensures (number-nonzero e)) _
    c.from_residual-in_err-check_distances.ensures.1

pub returns-then-extra-gt-MOST_EXTRA : goal.returns-then-extra-gt-MOST_EXTRA
returns-then-extra-gt-MOST_EXTRA c =
    let two = told c.in_ok-tree.ensures.same_table c.if-three_children.ensures in
    laid-err ExtraSpace (number_wide _ _ _ _ _ (sym c.in_ok-tree.ensures.number) two (sym c.in_ok-check_distances.ensures) (omega arith))

pub returns-in_err-check_room : goal.returns-in_err-check_room
returns-in_err-check_room c =
    let two = told c.in_ok-tree.ensures.same_table c.if-three_children.ensures in
    let little = not-too-wide c.args.extra (omega arith) in
    let number = number-room _ _ _ _ _ (sym c.in_ok-tree.ensures.number) two (sym c.in_ok-check_distances.ensures) little in
    laid-exit c.in_err-check_room.field-0.0 (c.in_err-check_room.ensures ∙ number) _ c.from_residual-in_err-check_room.ensures.1

pub draw-requires : goal.draw-requires
draw-requires c =
    nothing-wrong _ _ _ _ _ (sym c.in_ok-tree.ensures.number) (sym c.in_ok-check_distances.ensures) (omega arith) (sym c.in_ok-check_room.ensures)

pub returns : goal.returns
returns c =
    let two = told c.in_ok-tree.ensures.same_table c.if-three_children.ensures in
    let little = not-too-wide c.args.extra (omega arith) in
    let number = number-room _ _ _ _ _ (sym c.in_ok-tree.ensures.number) two (sym c.in_ok-check_distances.ensures) little in
    laid_by (c.in_ok-check_room.ensures ∙ number) c.draw.ensures
