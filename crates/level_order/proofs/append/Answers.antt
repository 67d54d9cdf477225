-- `level_order::append` meets its contract. Assumes nothing.
use mathlib.Core.Path.{sym, ap, subst}
use Prim.Native.Nat.{ℕ, ◌+◌}
use native.Mathlib.Omega.{arith}
use Rattle.std.specs.Prelude.{Option}
use Rattle.tree.specs.Forest.{size}
use Rattle.tree.proofs.Followed.{accepted-linked}
use Rattle.level_order.proofs.Appending.{Appending, follow, append-start, append-end, append-some, append-few, append-room, append-next, append-less}
use Rattle.level_order.proofs.append.Goals as goal

pub loop-next-init : goal.loop-next-init
loop-next-init c =
    let a = c.args in
    subst (λ (o : Option ℕ). Appending a.tree.entries.now a.p a.v a.tail a.work.now a.tail o a.work.now) (sym c.first_child-next.ensures)
    (append-start a.tree.well_formed c.requires.node)

pub queue-requires-clause-parent : goal.queue-requires-clause-parent
queue-requires-clause-parent c = omega (arith, c.requires.position, (accepted-linked _ c.args.tree.well_formed).few)

pub queue-requires-clause-node : goal.queue-requires-clause-node
queue-requires-clause-node c =
    append-few c.args.tree.well_formed (append-some c.args.tree.well_formed c.loop-next.invariant c.in-Some.is)

pub queue-requires-clause-room : goal.queue-requires-clause-room
queue-requires-clause-room c =
    let a = c.args in
    let S = append-some a.tree.well_formed c.loop-next.invariant c.in-Some.is in
    omega (arith, append-room a.tree.well_formed S c.requires.children, c.requires.room, S.size)

pub loop-next-smaller : goal.loop-next-smaller
loop-next-smaller c =
    let a = c.args in
    let S = append-some a.tree.well_formed c.loop-next.invariant c.in-Some.is in
    omega (
      arith,
      append-less a.tree.well_formed S,
      ap (λ (o : Option ℕ). size (follow a.tree.entries.now o)) c.in-Some.is,
      ap (λ (o : Option ℕ). size (follow a.tree.entries.now o)) c.next_sibling-next.ensures,
    )

pub loop-next-preserved : goal.loop-next-preserved
loop-next-preserved c =
    let a = c.args in
    let S = append-some a.tree.well_formed c.loop-next.invariant c.in-Some.is in
    subst (λ (o : Option ℕ). Appending a.tree.entries.now a.p a.v a.tail a.work.now (c.loop-next.end + 1) o c.queue.new.work)
    (sym c.next_sibling-next.ensures)
    (append-next a.tree.well_formed S c.queue.new.work c.queue.ensures)

pub returns : goal.returns
returns c =
    append-end c.args.tree.well_formed c.loop-next.invariant c.in_default.is
