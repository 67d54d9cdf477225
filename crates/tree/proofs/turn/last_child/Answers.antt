-- `tree::turn::last_child` meets its contract. The measure is how many nodes the next entry leads to. Assumes nothing.
use Rattle.tree.proofs.LastChild.{seek_start, seek_next, seek_less, seek_end}
use Rattle.tree.proofs.turn.last_child.Goals as goal

pub loop-next-init : goal.loop-next-init
loop-next-init c = seek_start c.args.tree.entries.now c.args.tree.well_formed c.args.v c.requires

pub loop-next-smaller : goal.loop-next-smaller
loop-next-smaller c =
    seek_less c.args.tree.entries.now c.args.tree.well_formed c.args.v c.loop-next.next c.loop-next.found c.loop-next.invariant c.loop-next-test.true

pub loop-next-preserved : goal.loop-next-preserved
loop-next-preserved c =
    seek_next c.args.tree.entries.now c.args.tree.well_formed c.args.v c.loop-next.next c.loop-next.found c.loop-next.invariant c.loop-next-test.true

pub returns : goal.returns
returns c =
    seek_end c.args.tree.entries.now c.args.tree.well_formed c.args.v c.loop-next.next c.loop-next.found c.loop-next.invariant c.loop-next-test.false
