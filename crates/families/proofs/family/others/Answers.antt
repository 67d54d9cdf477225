-- `families::family::others` meets its contract. Assumes nothing.
use Rattle.std.proofs.Common.{add-one, arith}
use Rattle.level_order.specs.Spaced.{table_of}
use Rattle.level_order.proofs.InOrder.{ordered}
use Rattle.families.proofs.Through.{through-next, waiting_kept}
use Rattle.families.proofs.family.others.Goals as goal

pub join-default-requires-clause-waiting : goal.join-default-requires-clause-waiting
join-default-requires-clause-waiting c =
    let row = c.loop-child.invariant.0.siblings in
    let O = ordered (table_of c.args.tree.now) c.args.tree.now.table.well_formed in
    waiting_kept (table_of c.args.tree.now) O _ _ row.some (omega arith) _ _ _ _ c.loop-child-test.true row c.loop-child.invariant.1
    (c.requires.others c.loop-child.child row.some c.loop-child-test.true)

pub loop-child-preserved : goal.loop-child-preserved
loop-child-preserved c =
    let row = c.loop-child.invariant.0.siblings in
    let O = ordered (table_of c.args.tree.now) c.args.tree.now.table.well_formed in
    rw add-one (
      c.join-default.ensures.rowed,
      through-next (table_of c.args.tree.now) O _ _ row.some (omega arith) _ _ _ c.loop-child.invariant.1 c.join-default.ensures.untouched,
    )
