-- `families::families` meets its contract. Assumes nothing.
use Rattle.families.proofs.FamiliesLoop.{loop-start, loop-end, root-inside, first-read, count-read, turn-ready, turn-leaf, turn-drawn}
use Rattle.families.proofs.families.Goals as goal

pub loop-p-init : goal.loop-p-init
loop-p-init c = rw c.nodes-p.ensures (loop-start c.args.tree.now c.requires.numbered c.requires.fresh)

-- ---- a turn

pub position-requires : goal.position-requires
position-requires c = first-read c.args.tree.now c.loop-p.invariant c.loop-p-test.true

pub past-requires-clause-first : goal.past-requires-clause-first
past-requires-clause-first c = first-read c.args.tree.now c.loop-p.invariant c.loop-p-test.true

pub past-requires-clause-count : goal.past-requires-clause-count
past-requires-clause-count c = count-read c.args.tree.now c.loop-p.invariant c.loop-p-test.true

pub family-requires : goal.family-requires
family-requires c =
    turn-ready c.args.tree.now c.loop-p.invariant c.loop-p-test.true c.position.ensures c.past.ensures c.if-position-past.true

pub loop-p-preserved-then-position-past : goal.loop-p-preserved-then-position-past
loop-p-preserved-then-position-past c = turn-drawn c.args.tree.now c.loop-p.invariant c.loop-p-test.true c.family.ensures

pub loop-p-preserved : goal.loop-p-preserved
loop-p-preserved c =
    turn-leaf c.args.tree.now c.loop-p.invariant c.loop-p-test.true c.position.ensures c.past.ensures c.if-position-past.false

-- ---- after the loop

pub put-requires : goal.put-requires
put-requires c = root-inside c.args.tree.now c.loop-p.invariant

pub returns : goal.returns
returns c = loop-end c.args.tree.now c.loop-p.invariant c.loop-p-test.false c.put.ensures
