-- `tree::relink::link` meets its contract. Assumes nothing.
use Rattle.tree.proofs.Followed.{first-inside, second-inside}
use Rattle.tree.proofs.Links.{link_row, link-end}
use Rattle.tree.proofs.relink.link.Goals as goal

pub bounds-table-row : goal.bounds-table-row
bounds-table-row c =
    first-inside c.args.tree.entries.now c.args.tree.well_formed _
    (link_row _ _ c.args.new.now c.args.tree.well_formed c.requires.value _ _ c.loop-k.invariant c.loop-k-test.true c.requires.table_in_bounds).node

pub rename-child-requires : goal.rename-child-requires
rename-child-requires c =
    (link_row _ _ _ c.args.tree.well_formed c.requires.value _ _ c.loop-k.invariant c.loop-k-test.true c.requires.table_in_bounds).child

pub bounds-table-row-in-loop-k : goal.bounds-table-row-in-loop-k
bounds-table-row-in-loop-k c =
    second-inside c.args.tree.entries.now c.args.tree.well_formed _
    (link_row _ _ c.args.new.now c.args.tree.well_formed c.requires.value _ _ c.loop-k.invariant c.loop-k-test.true c.requires.table_in_bounds).node

pub rename-sibling-requires : goal.rename-sibling-requires
rename-sibling-requires c =
    (link_row _ _ _ c.args.tree.well_formed c.requires.value _ _ c.loop-k.invariant c.loop-k-test.true c.requires.table_in_bounds).sibling

pub bounds-out-k : goal.bounds-out-k
bounds-out-k c =
    (link_row c.args.tree.entries.now _ c.args.new.now c.args.tree.well_formed c.requires.value _ _ c.loop-k.invariant c.loop-k-test.true
    c.requires.table_in_bounds).first-room

pub bounds-out-k-in-loop-k : goal.bounds-out-k-in-loop-k
bounds-out-k-in-loop-k c =
    (link_row c.args.tree.entries.now _ c.args.new.now c.args.tree.well_formed c.requires.value _ _ c.loop-k.invariant c.loop-k-test.true
    c.requires.table_in_bounds).second-room _

pub loop-k-preserved : goal.loop-k-preserved
loop-k-preserved c =
    (link_row _ _ _ c.args.tree.well_formed c.requires.value _ _ c.loop-k.invariant c.loop-k-test.true c.requires.table_in_bounds).next
    c.rename-child.result c.rename-sibling.result c.rename-child.ensures c.rename-sibling.ensures

pub returns : goal.returns
returns c =
    link-end c.args.tree.entries.now c.args.old.now c.args.new.now c.args.tree.well_formed c.requires.value c.requires.new_numbers c.loop-k.out
    c.loop-k.k c.loop-k.invariant c.loop-k-test.false
