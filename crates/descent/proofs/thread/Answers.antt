-- `descent::thread` meets its contract. Assumes nothing.
use mathlib.Core.Path.{◌≡◌, refl, ap, ◌∙◌}
use mathlib.Core.List.{List}
use Prim.Native.Nat.{ℕ, ◌-◌, ◌≤◌, ◌<◌}
use native.Mathlib.Omega.{arith}
use borrow.Author.Tests.{lt-ltb, le-ltb}
use lib.IntN.{ℤ, nat_abs, ◌+ℤ◌, ◌-ℤ◌}
use lib.Signed.{mag}
use Rattle.rule.proofs.Signed.{nat_abs_add, nat_abs_sub}
use Rattle.level_order.specs.Fields.{get, put, LEFT, RIGHT}
use Rattle.level_order.proofs.Signed32.{stored, Held, told, held, plus, minus}
use Rattle.descent.specs.declared.Stand.{Stand}
use Rattle.descent.specs.Descent.{Modest, Level, Threads, lower, first_of_children, past_children}
use Rattle.descent.proofs.thread.Goals as goal

modest-read : (z : ℤ) → Modest z → stored z ≡ z
modest-read z h = (held {z = z} refl (omega arith)).read

-- at the function's start
module _ (work : List ℤ) (stand : Stand) (f c default : ℕ) (level : Level work stand f c default) (threads : Threads work stand) where
  -- the first position of the row, of the child and past it, one level down
  abbrev next-a : ℕ
  next-a = first_of_children work stand.row

  abbrev next-b : ℕ
  next-b = first_of_children work stand.child

  abbrev next-e : ℕ
  next-e = past_children work (stand.end - 1)

  -- the level below
  abbrev down : Stand
  down = lower work stand

  moved-read : stored stand.moved ≡ stand.moved
  moved-read = modest-read stand.moved level.moved_modest

  -- the child's last node, as it has been moved
  last-small : nat_abs (stand.outer_right +ℤ stand.moved) ≤ 8388608
  last-small = omega (arith, nat_abs_add stand.outer_right stand.moved, level.outer_right_modest, level.moved_modest)

  last-held : Held (stored stand.outer_right +ℤ stored stand.moved) (stand.outer_right +ℤ stand.moved)
  last-held = plus (modest-read stand.outer_right level.outer_right_modest) moved-read (omega (arith, last-small))

  -- the row goes deeper: its next node, and the step to it from the child's last; z is what is read
  module _ (row-deeper : next-a < next-b) (z : ℤ) (fits : mag z < 2147483648) (is : z ≡ get work RIGHT (stand.child - 1)) where
    right-small : Modest down.right
    right-small = threads.row-deeper row-deeper

    right-held : Held (stored stand.right +ℤ stored z) down.right
    right-held = plus (modest-read stand.right level.right_modest) (told fits is) (omega (arith, right-small))

    right-step : Held (stored (stored stand.right +ℤ stored z) -ℤ stored (stored stand.outer_right +ℤ stored stand.moved))
        (down.right -ℤ (stand.outer_right +ℤ stand.moved))
    right-step =
        minus right-held.read last-held.read
        (omega (arith, nat_abs_sub down.right (stand.outer_right +ℤ stand.moved), right-small, last-small))

  -- the child goes deeper: its next node, as it has been moved, and the step to it from the row's first
  module _ (child-deeper : next-b < next-e) (z : ℤ) (fits : mag z < 2147483648) (is : z ≡ get work LEFT stand.child) where
    left-small : Modest down.left
    left-small = threads.child-deeper child-deeper

    left-held : Held (stored stand.left +ℤ stored z) down.left
    left-held = plus (modest-read stand.left level.left_modest) (told fits is) (omega (arith, left-small))

    moved-small : nat_abs (down.left +ℤ stand.moved) ≤ 8388608
    moved-small = omega (arith, nat_abs_add down.left stand.moved, left-small, level.moved_modest)

    moved-held : Held (stored (stored stand.left +ℤ stored z) +ℤ stored stand.moved) (down.left +ℤ stand.moved)
    moved-held = plus left-held.read moved-read (omega (arith, moved-small))

    left_step : Held (stored (stored (stored stand.left +ℤ stored z) +ℤ stored stand.moved) -ℤ stored stand.outer_left)
        ((down.left +ℤ stand.moved) -ℤ stand.outer_left)
    left_step =
        minus moved-held.read (modest-read stand.outer_left level.outer_left_modest)
        (omega (arith, nat_abs_sub (down.left +ℤ stand.moved) stand.outer_left, moved-small, level.outer_left_modest))

-- ---- the row goes deeper

pub overflow_sub-step : goal.overflow_sub-step
overflow_sub-step c =
    let a = c.args in
    (right-step a.work.now a.s a.elders.first a.elders.child a.elders.default c.requires.level c.requires.threads (omega arith) c.get.result c.get.type_inv c.get.ensures).fits

pub returns-then-position-next-clause-default : goal.returns-then-position-next-clause-default
returns-then-position-next-clause-default c =
    let a = c.args in
    rw (lt-ltb (first_of_children a.work.now a.s.row) (first_of_children a.work.now a.s.child) (omega arith))

pub returns-then-position-next-clause-threaded : goal.returns-then-position-next-clause-threaded
returns-then-position-next-clause-threaded c =
    let a = c.args in
    let deeper : first_of_children a.work.now a.s.row < first_of_children a.work.now a.s.child = omega arith in
    let step = right-step a.work.now a.s a.elders.first a.elders.child a.elders.default c.requires.level c.requires.threads deeper c.get.result c.get.type_inv c.get.ensures in
    let test = lt-ltb (first_of_children a.work.now a.s.row) (first_of_children a.work.now a.s.child) deeper in
    rw test (c.put.ensures ∙ ap (put a.work.now RIGHT (a.s.end - 1)) step.read)

-- ---- it does not

pub overflow_add-step-then-next-past-2 : goal.overflow_add-step-then-next-past-2
overflow_add-step-then-next-past-2 c =
    let a = c.args in
    let g = c.get-then-next-past in
    (moved-held a.work.now a.s a.elders.first a.elders.child a.elders.default c.requires.level c.requires.threads (omega arith) g.result g.type_inv g.ensures).fits

pub overflow_sub-step-then-next-past : goal.overflow_sub-step-then-next-past
overflow_sub-step-then-next-past c =
    let a = c.args in
    let g = c.get-then-next-past in
    (left_step a.work.now a.s a.elders.first a.elders.child a.elders.default c.requires.level c.requires.threads (omega arith) g.result g.type_inv g.ensures).fits

pub returns-then-next-past-clause-default : goal.returns-then-next-past-clause-default
returns-then-next-past-clause-default c =
    let a = c.args in
    rw (
      le-ltb (first_of_children a.work.now a.s.row) (first_of_children a.work.now a.s.child) (omega arith),
      lt-ltb (first_of_children a.work.now a.s.child) (past_children a.work.now (a.s.end - 1)) (omega arith),
    )

pub returns-then-next-past-clause-threaded : goal.returns-then-next-past-clause-threaded
returns-then-next-past-clause-threaded c =
    let a = c.args in
    let g = c.get-then-next-past in
    let deeper : first_of_children a.work.now a.s.child < past_children a.work.now (a.s.end - 1) = omega arith in
    let step = left_step a.work.now a.s a.elders.first a.elders.child a.elders.default c.requires.level c.requires.threads deeper g.result g.type_inv g.ensures in
    rw (
      le-ltb (first_of_children a.work.now a.s.row) (first_of_children a.work.now a.s.child) (omega arith),
      lt-ltb (first_of_children a.work.now a.s.child) (past_children a.work.now (a.s.end - 1)) deeper,
    )
    (c.put-then-next-past.ensures ∙ ap (put a.work.now LEFT a.s.row) step.read)
