-- `level_order::number` meets its contract. Assumes nothing.
use native.Mathlib.Omega.{arith}
use Rattle.tree.proofs.Followed.{accepted-linked}
use Rattle.level_order.proofs.TableNumbering.{loop_start, loop_end, loop_next, taken}
use Rattle.level_order.proofs.number.Goals as goal

pub queue-requires-clause-room : goal.queue-requires-clause-room
queue-requires-clause-room c = omega (arith, c.requires.room, (accepted-linked _ c.requires.accepted.accepted).some)

pub loop-p-init : goal.loop-p-init
loop-p-init c = loop_start c.requires.accepted c.args.work.now c.queue.ensures c.requires.room

pub overflow_cast-v : goal.overflow_cast-v
overflow_cast-v c = (taken c.loop-p.invariant (omega (arith, c.loop-p-test.true, c.nodes-p-end.ensures)) c.get-v.ensures).fits

pub append-end-requires-clause-node : goal.append-end-requires-clause-node
append-end-requires-clause-node c = (taken c.loop-p.invariant (omega (arith, c.loop-p-test.true, c.nodes-p-end.ensures)) c.get-v.ensures).inside

pub append-end-requires-clause-children : goal.append-end-requires-clause-children
append-end-requires-clause-children c = (taken c.loop-p.invariant (omega (arith, c.loop-p-test.true, c.nodes-p-end.ensures)) c.get-v.ensures).children

pub bounds-tree-v : goal.bounds-tree-v
bounds-tree-v c = omega (arith, (taken c.loop-p.invariant (omega (arith, c.loop-p-test.true, c.nodes-p-end.ensures)) c.get-v.ensures).inside, c.requires.accepted.each)

pub settle-requires-clause-position : goal.settle-requires-clause-position
settle-requires-clause-position c = omega (arith, c.loop-p-test.true, c.nodes-p-end.ensures, (taken c.loop-p.invariant (omega (arith, c.loop-p-test.true, c.nodes-p-end.ensures)) c.get-v.ensures).few)

pub settle-requires-clause-first : goal.settle-requires-clause-first
settle-requires-clause-first c =
    let K = taken c.loop-p.invariant (omega (arith, c.loop-p-test.true, c.nodes-p-end.ensures)) c.get-v.ensures in
    omega (arith, K.children, K.few)

pub settle-requires-clause-count : goal.settle-requires-clause-count
settle-requires-clause-count c =
    let K = taken c.loop-p.invariant (omega (arith, c.loop-p-test.true, c.nodes-p-end.ensures)) c.get-v.ensures in
    omega (arith, c.append-end.ensures.end, K.children, K.few)

pub loop-p-preserved : goal.loop-p-preserved
loop-p-preserved c = loop_next c.loop-p.invariant (omega (arith, c.loop-p-test.true, c.nodes-p-end.ensures)) c.get-v.ensures c.append-end.ensures c.settle.ensures

pub returns : goal.returns
returns c = loop_end c.requires.accepted c.args.work.now c.queue.ensures c.requires.room c.loop-p.invariant (omega (arith, c.loop-p-test.false, c.nodes-p-end.ensures))
