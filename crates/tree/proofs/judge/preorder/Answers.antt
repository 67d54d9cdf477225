-- `tree::judge::preorder` meets its contract. The measure of both loops is how many nodes are still to be placed. Assumes nothing.
use mathlib.Core.Path.{◌≡◌, sym, subst}
use Prim.Native.Nat.{ℕ, ◌-◌, ◌<◌}
use native.Mathlib.Omega.{arith}
use lib.ListN.{get_or, set}
use Rattle.tree.specs.Table.{none, nodes}
use Rattle.tree.proofs.Accepted.{linked}
use Rattle.tree.proofs.Stack.{node-one}
use Rattle.tree.proofs.Visit.{Visiting, visit_start, visit_end, visit_top, top-node, visit_sibling, visit_child}
use Rattle.tree.proofs.judge.preorder.Goals as goal

pub overflow_sub-order : goal.overflow_sub-order
overflow_sub-order c = omega (arith, (linked c.args.table.now c.requires.passed).some, c.requires.order_len)

pub bounds-order-n : goal.bounds-order-n
bounds-order-n c = omega (arith, (linked c.args.table.now c.requires.passed).some, c.requires.order_len)

pub overflow_sub-low : goal.overflow_sub-low
overflow_sub-low c = omega (arith, (linked c.args.table.now c.requires.passed).some, c.requires.order_len)

pub loop-low-init : goal.loop-low-init
loop-low-init c =
    let t = c.args.table.now in
    subst (λ (k : ℕ). Visiting t (set c.args.order.now (k - 1) 0) none (k - 1) 0) (sym c.requires.order_len)
    (visit_start t (linked t c.requires.passed) c.args.order.now c.requires.order_len)

pub loop-v-init : goal.loop-v-init
loop-v-init c =
    let t = c.args.table.now in
    let l = c.loop-low in
    let left : l.low < nodes t = below c.loop-low-test.true c.requires.order_len in (
      visit_top t (linked t c.requires.passed) l.order l.low l.count l.invariant left,
      omega (arith, node-one (get_or l.order l.low 0) (top-node t (linked t c.requires.passed) l.order l.low l.count l.invariant left)),
    )
  where
    below : {low size nodes : ℕ} → low < size → size ≡ nodes → low < nodes
    below h e = omega arith

pub loop-v-preserved-then-child : goal.loop-v-preserved-then-child
loop-v-preserved-then-child c =
    let t = c.args.table.now in
    let l = c.loop-v in (
      visit_sibling t (linked t c.requires.passed) l.order l.v l.low l.count l.invariant.0 c.loop-v-test.true c.if-child.true,
      omega (arith, l.invariant.1, node-one l.v c.loop-v-test.true),
    )

pub loop-v-preserved : goal.loop-v-preserved
loop-v-preserved c =
    let t = c.args.table.now in
    let l = c.loop-v in (
      visit_child t (linked t c.requires.passed) l.order l.v l.low l.count l.invariant.0 c.loop-v-test.true c.push-low.result
          c.push-low.new.order c.push-low.ensures c.if-child.false,
      omega (arith, l.invariant.1, node-one l.v c.loop-v-test.true),
    )

pub returns : goal.returns
returns c =
    let t = c.args.table.now in
    let p = c.loop-low in
    let e = visit_end t (linked t c.requires.passed) p.order p.low p.count p.invariant (omega (arith, c.loop-low-test.false, c.requires.order_len)) in
    record { reached = e.0; order = e.1 }
