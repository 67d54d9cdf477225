-- The proof of the cycle of calls {list, subtree}. Assumes nothing.
use mathlib.Core.Path.{refl}
use native.Mathlib.Omega.{arith}
use lib.ListN.{length-set}
use Rattle.newick.proofs.Subtrees.{subtree-within, inner-list, inner-label, leaf-label, inner-read, leaf-read}
use Rattle.newick.proofs.Lists.{first-here, behind-within, next-few, not_back, list-last, next_turn}
use Rattle.newick.proofs.rows.+list_subtree.Goals as goal

pub list-subtree-read-requires : goal.list-subtree-read-requires
list-subtree-read-requires t c =
    let turn = c.loop-from.invariant in
    (omega (arith, c.decreases, turn.forward), first-here turn.here)

pub list-bounds-text-read : goal.list-bounds-text-read
list-bounds-text-read t c = behind-within c.loop-from.invariant.here c.subtree-read.ensures

pub list-returns-then-text-read-ne44 : goal.list-returns-then-text-read-ne44
list-returns-then-text-read-ne44 t c = c.loop-from.invariant.rest (list-last c.subtree-read.ensures c.if-text-read-ne44.true)

pub list-overflow_cast-table : goal.list-overflow_cast-table
list-overflow_cast-table t c = record { fits = omega (arith, next-few c.loop-from.invariant.here c.subtree-read.ensures) }

pub list-loop-from-smaller : goal.list-loop-from-smaller
list-loop-from-smaller t c =
    let here = c.loop-from.invariant.here in
    let read = c.subtree-read.ensures in
    omega (arith, not_back here read, behind-within here read)

pub list-loop-from-preserved : goal.list-loop-from-preserved
list-loop-from-preserved t c =
    let read = c.subtree-read in
    next_turn c.loop-from.invariant read.ensures (simp length-set read.auto.table) read.auto.tapes c.if-text-read-ne44.false refl

pub subtree-bounds-text-at : goal.subtree-bounds-text-at
subtree-bounds-text-at t c = subtree-within c.requires

pub subtree-list-inner-requires : goal.subtree-list-inner-requires
subtree-list-inner-requires t c =
    (omega (arith, c.decreases, subtree-within c.requires), inner-list c.requires c.if-text-at-eq40.true _ c.store_pair.auto.entries)

pub subtree-overflow_add-inner : goal.subtree-overflow_add-inner
subtree-overflow_add-inner t c =
    record { fits = omega (arith, (inner-label c.requires c.if-text-at-eq40.true c.list-inner.ensures).ends) }

pub subtree-read_label-end-requires-clause-label_here : goal.subtree-read_label-end-requires-clause-label_here
subtree-read_label-end-requires-clause-label_here t c = inner-label c.requires c.if-text-at-eq40.true c.list-inner.ensures

pub subtree-read_label-end-requires-else-text-at-eq40-clause-label_here : goal.subtree-read_label-end-requires-else-text-at-eq40-clause-label_here
subtree-read_label-end-requires-else-text-at-eq40-clause-label_here t c = leaf-label c.requires c.if-text-at-eq40.false

pub subtree-returns-then-text-at-eq40 : goal.subtree-returns-then-text-at-eq40
subtree-returns-then-text-at-eq40 t c =
    inner-read c.if-text-at-eq40.true c.store_pair.ensures c.list-inner.ensures c.read_label-end.ensures.0 c.read_label-end.ensures.1

pub subtree-returns-else-text-at-eq40 : goal.subtree-returns-else-text-at-eq40
subtree-returns-else-text-at-eq40 t c =
    leaf-read c.if-text-at-eq40.false c.store_pair-else-text-at-eq40.ensures c.read_label-end-else-text-at-eq40.ensures.0
    c.read_label-end-else-text-at-eq40.ensures.1
