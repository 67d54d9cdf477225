-- `small_tree` meets its contract: the tree at the place, at the output's start. Assumes nothing.
use Rattle.std.proofs.Common.{sym, ap, ◌∙◌, refl, ◌*◌}
use Rattle.std.proofs.Math.Seq.{length-take-le}
use Rattle.std.proofs.lemmas.Result.{err_from_is_err_and}
use Rattle.refusal.proofs.Numbers.{number-nonzero}
use Rattle.tree.specs.Forest.{table_of}
use Rattle.small_trees.specs.SmallTrees.{tree_at}
use Rattle.small_trees.proofs.Numbers.{accepted}
use Rattle.small_trees.proofs.Answer.{call-refused, call-listed, call-accepted}
use Rattle.small_trees.proofs.small_tree.Goals as goal

pub returns-in_err-judge : goal.returns-in_err-judge
returns-in_err-judge c =
    let p = err_from_is_err_and c.from_residual.result c.from_residual.ensures.1 in
    rw (p.1, p.2) (call-refused _ _ _ _ c.in_err-judge.ensures (number-nonzero _))

pub slice_bounds-levels-end : goal.slice_bounds-levels-end
slice_bounds-levels-end c = (accepted _ _ _ (sym c.in_ok-judge.ensures)).1

pub slice_bounds-write_tree-end : goal.slice_bounds-write_tree-end
slice_bounds-write_tree-end c = sym (length-take-le _ _ (accepted _ _ _ (sym c.in_ok-judge.ensures)).1)

pub slice_bounds-write_tree-end-2 : goal.slice_bounds-write_tree-end-2
slice_bounds-write_tree-end-2 c = (accepted _ _ _ (sym c.in_ok-judge.ensures)).3

pub slice_bounds-write_tree-end-3 : goal.slice_bounds-write_tree-end-3
slice_bounds-write_tree-end-3 c = sym (length-take-le _ _ (accepted _ _ _ (sym c.in_ok-judge.ensures)).3)

pub write_tree-requires-clause-in_list : goal.write_tree-requires-clause-in_list
write_tree-requires-clause-in_list c = call-listed c.args.nodes c.args.place c.args.table.now (sym c.in_ok-judge.ensures) _ refl

pub write_tree-requires-clause-table_len : goal.write_tree-requires-clause-table_len
write_tree-requires-clause-table_len c =
    let a = accepted _ _ _ (sym c.in_ok-judge.ensures) in
    length-take-le _ _ a.3 ∙ ap (λ k. 2 * k) (sym (length-take-le _ _ a.1))

pub returns : goal.returns
returns c =
    let a = accepted _ _ _ (sym c.in_ok-judge.ensures) in
    call-accepted _ _ c.args.table.now (sym c.in_ok-judge.ensures) _
    (c.write_tree.ensures ∙ ap (λ k. table_of k (tree_at k c.args.place)) (length-take-le _ _ a.1))
