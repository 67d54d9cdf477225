-- `tree::renumber_in` meets its contract. Assumes nothing.
use mathlib.Core.Path.{sym, ◌∙◌}
use mathlib.Core.Logic.{inl, inr}
use native.Mathlib.Omega.{arith}
use lib.Seq.{length-take-le}
use Rattle.std.proofs.lemmas.Result.{err_from_is_err_and}
use Rattle.refusal.proofs.Numbers.{number-nonzero}
use Rattle.tree.proofs.Stands.{passed}
use Rattle.tree.proofs.Answers.{renumber_refused, renumber_short, renumber_accepted}
use Rattle.tree.proofs.renumber_in.Goals as goal
use Rattle.tree.proofs.renumber_in.Goals.{then-out-entries-via-then-out-entries, then-out-entries-via-else-out-entries+then-map-n}

pub returns-in_err-judge : goal.returns-in_err-judge
returns-in_err-judge c =
    let p = err_from_is_err_and c.from_residual.result c.from_residual.ensures.1 in
    rw (p.1, p.2) (renumber_refused _ _ _ _ c.in_err-judge.ensures.number (number-nonzero _))

pub returns-then-out-entries : goal.returns-then-out-entries
returns-then-out-entries c =
    renumber_short _ _ _ (sym c.in_ok-judge.ensures.number)
    (elim c.then-out-entries.branch [
      | then-out-entries-via-then-out-entries w ↦ inl w.if-out-entries.true
      | then-out-entries-via-else-out-entries+then-map-n w ↦ inr w.if-map-n.true
    ])

pub slice_bounds-relink-end : goal.slice_bounds-relink-end
slice_bounds-relink-end c =
    omega (arith, c.requires.enough (passed c.args.table.now (sym c.in_ok-judge.ensures.number)).size, c.judge.auto.order)

pub slice_bounds-relink-end-2 : goal.slice_bounds-relink-end-2
slice_bounds-relink-end-2 c =
    sym (length-take-le _ _ (omega (arith, c.requires.enough (passed c.args.table.now (sym c.in_ok-judge.ensures.number)).size, c.judge.auto.order)))

pub relink-requires-clause-map_len : goal.relink-requires-clause-map_len
relink-requires-clause-map_len c =
    length-take-le _ _ (omega (arith, c.if-map-n.false))
    ∙ sym (length-take-le _ _ (omega (arith, c.requires.enough (passed c.args.table.now (sym c.in_ok-judge.ensures.number)).size, c.judge.auto.order)))

pub returns : goal.returns
returns c =
    renumber_accepted _ _ _ (sym c.in_ok-judge.ensures.number) c.if-out-entries.false (omega (arith, c.if-map-n.false)) c.relink.new.out
    c.relink.new.map c.relink.ensures
