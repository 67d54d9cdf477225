-- `families::family::family` meets its contract. Assumes nothing.
use Rattle.level_order.proofs.Signed32.{told}
use Rattle.families.proofs.FamilySteps.{first-read, count-read, first-inside, begun, ends, bounded, drawn}
use Rattle.families.proofs.family.family.Goals as goal

pub position-first-requires : goal.position-first-requires
position-first-requires c = first-read c.args.tree.now c.requires

pub past-end-requires-clause-first : goal.past-end-requires-clause-first
past-end-requires-clause-first c = first-read c.args.tree.now c.requires

pub past-end-requires-clause-count : goal.past-end-requires-clause-count
past-end-requires-clause-count c = count-read c.args.tree.now c.requires

pub put-requires : goal.put-requires
put-requires c = first-inside c.args.tree.now c.requires c.position-first.ensures c.past-end.ensures

pub others-requires : goal.others-requires
others-requires c = begun c.args.tree.now c.requires c.position-first.ensures c.past-end.ensures c.put.ensures

pub execute-requires-clause-root : goal.execute-requires-clause-root
execute-requires-clause-root c = (ends c.args.tree.now c.requires c.position-first.ensures c.past-end.ensures c.put.ensures c.others.ensures).0

pub execute-requires-clause-some : goal.execute-requires-clause-some
execute-requires-clause-some c = (ends c.args.tree.now c.requires c.position-first.ensures c.past-end.ensures c.put.ensures c.others.ensures).1

pub execute-requires-clause-few : goal.execute-requires-clause-few
execute-requires-clause-few c = (ends c.args.tree.now c.requires c.position-first.ensures c.past-end.ensures c.put.ensures c.others.ensures).2

pub execute-requires-clause-bounded : goal.execute-requires-clause-bounded
execute-requires-clause-bounded c = bounded c.args.tree.now c.requires c.position-first.ensures c.past-end.ensures c.put.ensures c.others.ensures

pub returns : goal.returns
returns c =
    drawn c.args.tree.now c.requires c.position-first.ensures c.past-end.ensures c.put.ensures c.others.ensures c.execute.ensures
    c.put-2.ensures (told c.get.type_inv c.get.ensures) c.put-3.ensures (told c.get-2.type_inv c.get-2.ensures)
