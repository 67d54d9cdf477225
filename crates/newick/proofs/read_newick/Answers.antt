-- The operation: a text that is refused, and one that is read. Assumes nothing.
use mathlib.Core.Path.{sym}
use native.Mathlib.Omega.{arith}
use lib.ListN.{length}
use Rattle.std.proofs.lemmas.Result.{err_from_is_err_and}
use Rattle.newick.proofs.Answer.{fits_told, refused_read, tree-here, accepted-read}
use Rattle.newick.proofs.read_newick.Goals as goal

pub returns-in_err-nodes : goal.returns-in_err-nodes
returns-in_err-nodes c =
    let a = c.args in
    let p = err_from_is_err_and c.from_residual.result c.from_residual.ensures.1 in
    rw (p.1, p.2) (refused_read a.text.now a.table.now a.tapes.now _ c.in_err-nodes.ensures.number)

pub list-requires : goal.list-requires
list-requires c =
    let a = c.args in
    tree-here a.text.now a.table.now a.tapes.now
    (fits_told a.text.now (length a.table.now) (length a.tapes.now) (sym c.in_ok-nodes.ensures.number))

pub overflow_cast-result : goal.overflow_cast-result
overflow_cast-result c =
    let a = c.args in
    let fits = fits_told a.text.now (length a.table.now) (length a.tapes.now) (sym c.in_ok-nodes.ensures.number) in
    record { fits = omega (arith, c.in_ok-nodes.ensures.nodes, fits.few) }

pub returns : goal.returns
returns c =
    let a = c.args in
    let accepted = sym c.in_ok-nodes.ensures.number in
    accepted-read a.text.now a.table.now a.tapes.now (fits_told a.text.now (length a.table.now) (length a.tapes.now) accepted) c.in_ok-nodes.ensures.nodes accepted c.list.ensures
