-- `tree::turn::turn` meets its contract. Assumes nothing.
use mathlib.Core.Path.{◌≡◌, subst}
use native.Mathlib.Omega.{arith}
use Rattle.tree.specs.Table.{nodes}
use Rattle.tree.proofs.Followed.{accepted-linked, first-inside}
use Rattle.tree.proofs.Turned.{Turning, first-room, second-room, turn_row, turn_end}
use Rattle.tree.proofs.turn.turn.Goals as goal

pub bounds-out-1 : goal.bounds-out-1
bounds-out-1 c =
    let t = c.args.tree.entries.now in
    let links = accepted-linked t c.args.tree.well_formed in
    omega (arith, first-inside t c.args.tree.well_formed 0 links.some, links.even)

pub point-requires : goal.point-requires
point-requires c =
    first-room c.args.tree.entries.now c.args.tree.well_formed c.loop-v.v c.loop-v.out c.loop-v.invariant (omega arith)
    c.last_child-last.result c.last_child-last.ensures

pub overflow_cast-v : goal.overflow_cast-v
overflow_cast-v c = omega (arith, (accepted-linked c.args.tree.entries.now c.args.tree.well_formed).few)

pub point-requires-in-loop-v : goal.point-requires-in-loop-v
point-requires-in-loop-v c =
    second-room c.args.tree.entries.now c.args.tree.well_formed c.loop-v.v c.loop-v.out c.loop-v.invariant (omega arith)
    c.last_child-last.result c.last_child-last.ensures c.point.new.out c.point.ensures

pub loop-v-preserved : goal.loop-v-preserved
loop-v-preserved c =
    turn_row c.args.tree.entries.now c.args.tree.well_formed c.loop-v.v c.loop-v.out c.loop-v.invariant (omega arith)
    c.last_child-last.result c.last_child-last.ensures c.point.new.out c.point.ensures
    c.point-in-loop-v.new.out c.point-in-loop-v.ensures

pub returns : goal.returns
returns c =
    let t = c.args.tree.entries.now in
    let all : c.loop-v.v ≡ nodes t = omega arith in
    turn_end t c.loop-v.out (subst (Turning t c.loop-v.out) all c.loop-v.invariant) c.args.tree.well_formed
