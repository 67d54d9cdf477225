-- `second_walk::second_walk` meets its contract. Assumes nothing.
use Rattle.std.proofs.Common.{◌+◌, ap, arith}
use Rattle.tree.proofs.Stands.{accepted-numbers}
use Rattle.level_order.proofs.Fielded.{accepted-most}
use Rattle.level_order.proofs.Signed32.{told}
use Rattle.second_walk.proofs.SeenPosition.{level-number, level-fits}
use Rattle.second_walk.proofs.Descending.{descends}
use Rattle.second_walk.proofs.Settling.{settle-start, writes, pairs_with, settle-next, last-seen, settle-few, settle-end}
use Rattle.second_walk.proofs.second_walk.Goals as goal

pub slice_set_of-places : goal.slice_set_of-places
slice_set_of-places c = let n = accepted-numbers _ c.requires.accepted.accepted in omega arith

pub bounds-levels-0 : goal.bounds-levels-0
bounds-levels-0 c = let n = accepted-numbers _ c.requires.accepted.accepted in omega arith

pub put-requires : goal.put-requires
put-requires c = let n = accepted-numbers _ c.requires.accepted.accepted in omega arith

pub loop-p-init : goal.loop-p-init
loop-p-init c =
    let given = c.requires.accepted in
    settle-start given.accepted (accepted-most given) c.args.tree.now.little c.requires.lengths c.requires.ready c.put.ensures

-- ---- a turn, which descends to position p

pub descend-requires : goal.descend-requires
descend-requires c = descends c.loop-p.invariant.work (rw c.nodes-n.ensures at c.loop-p-test.true)

pub write-requires : goal.write-requires
write-requires c = writes c.loop-p.invariant (rw c.nodes-n.ensures at c.loop-p-test.true) c.descend.ensures

pub pair-pairs-requires : goal.pair-pairs-requires
pair-pairs-requires c = pairs_with c.loop-p.invariant (rw c.nodes-n.ensures at c.loop-p-test.true) c.descend.ensures

pub loop-p-preserved : goal.loop-p-preserved
loop-p-preserved c =
    settle-next c.loop-p.invariant (rw c.nodes-n.ensures at c.loop-p-test.true) c.descend.ensures c.write.ensures (told c.get-place.type_inv c.get-place.ensures)
    (told c.min-least.type_inv c.min-least.ensures.value) (told c.max-greatest.type_inv c.max-greatest.ensures.value)
    c.pair-pairs.ensures c.pair-pairs.auto.measured

-- ---- after the loop

pub overflow_cast-last : goal.overflow_cast-last
overflow_cast-last c = level-fits (last-seen c.loop-p.invariant (rw c.nodes-n.ensures at c.loop-p-test.false)) (rw c.nodes-n.ensures at c.get-last.ensures)

pub overflow_add-result : goal.overflow_add-result
overflow_add-result c =
    let last = last-seen c.loop-p.invariant (rw c.nodes-n.ensures at c.loop-p-test.false) in
    omega (arith, level-number last (rw c.nodes-n.ensures at c.get-last.ensures))

pub overflow_cast-result : goal.overflow_cast-result
overflow_cast-result c = omega (arith, settle-few c.loop-p.invariant)

pub returns : goal.returns
returns c =
    let last = last-seen c.loop-p.invariant (rw c.nodes-n.ensures at c.loop-p-test.false) in
    settle-end c.loop-p.invariant (rw c.nodes-n.ensures at c.loop-p-test.false) c.requires.ready c.put.ensures (ap (λ k. k + 1) (level-number last (rw c.nodes-n.ensures at c.get-last.ensures)))
