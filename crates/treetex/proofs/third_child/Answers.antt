-- `treetex::third_child` meets its contract. Assumes nothing.
use Rattle.treetex.proofs.Children.{first-inside, next-inside, no-first, no_second, two}
use Rattle.treetex.proofs.third_child.Goals as goal

pub returns-in_err-first : goal.returns-in_err-first
returns-in_err-first c = rw c.from_residual.ensures (no-first _ c.args.tree.well_formed _ c.requires c.in_err-first.ensures)

pub next_sibling-requires : goal.next_sibling-requires
next_sibling-requires c = first-inside _ c.args.tree.well_formed _ c.requires _ c.in_ok-first.ensures

pub returns-in_err-second : goal.returns-in_err-second
returns-in_err-second c =
    rw c.from_residual-in_err-second.ensures (no_second _ c.args.tree.well_formed _ c.requires _ c.in_ok-first.ensures c.in_err-second.ensures)

pub next_sibling-requires-2 : goal.next_sibling-requires-2
next_sibling-requires-2 c =
    let first = first-inside _ c.args.tree.well_formed _ c.requires _ c.in_ok-first.ensures in
    next-inside _ c.args.tree.well_formed _ _ first c.in_ok-second.ensures

pub returns : goal.returns
returns c = let third = two _ c.args.tree.well_formed _ c.requires _ c.in_ok-first.ensures _ c.in_ok-second.ensures in cc
