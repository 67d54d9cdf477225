-- `descent::meet` meets its contract. Assumes nothing.
use mathlib.Core.Path.{◌≡◌, refl, sym, ap, ap₂, ◌∙◌}
use mathlib.Core.Bool.{true, false}
use mathlib.Core.List.{List}
use Prim.Native.Nat.{ℕ, ◌-◌, ◌≤◌, ◌<◌}
use native.Mathlib.Omega.{arith}
use borrow.Author.Tests.{ne_eqb}
use lib.IntN.{ℤ, pos, nat_abs, ◌+ℤ◌, ◌-ℤ◌}
use lib.Dec.{T}
use lib.Signed.{lt_z, non_neg, mag}
use mir.Syntax.{w64}
use mir.Val.{Fits}
use Rattle.rule.proofs.Signed.{nat_abs_add, nat_abs_sub}
use Rattle.level_order.specs.Fields.{get, put, NEED, ANCESTOR}
use Rattle.level_order.proofs.Signed32.{stored, Held, told, held, plus, minus, signed, unsigned-fits}
use Rattle.descent.specs.declared.Stand.{Stand}
use Rattle.descent.specs.declared.Elders.{Elders}
use Rattle.shifts.specs.Shifts.{shared}
use Rattle.descent.specs.Descent.{Modest, Level, too_close, owner_of, noted}
use Rattle.descent.proofs.Above.{not-above, is-above}
use Rattle.descent.proofs.OwnerOf.{owner_range}
use Rattle.descent.proofs.meet.Goals as goal
use Rattle.descent.proofs.meet.Goals.{then-close-gt0, else-close-gt0}

-- z is read as what the child's node on the level needs
module _ (work : List ℤ) (s : Stand) (h : Elders) (level : Level work s h.first h.child h.default) (modest : Modest (get work NEED s.child))
    (z : ℤ) (fits : mag z < 2147483648) (is : z ≡ get work NEED s.child) where
  abbrev need : ℤ
  need = get work NEED s.child

  -- where the child's node has to be, where it is, and by how much it is too close
  least : Held (stored s.right +ℤ stored z) (s.right +ℤ need)
  least =
      plus (held {z = s.right} refl (omega (arith, level.right_modest))).read (told fits is)
      (omega (arith, nat_abs_add s.right need, level.right_modest, modest))

  place : Held (stored s.left +ℤ stored s.moved) (s.left +ℤ s.moved)
  place =
      plus (held {z = s.left} refl (omega (arith, level.left_modest))).read (held {z = s.moved} refl (omega (arith, level.moved_modest))).read
      (omega (arith, nat_abs_add s.left s.moved, level.left_modest, level.moved_modest))

  abbrev difference : ℤ
  difference = stored (stored s.right +ℤ stored z) -ℤ stored (stored s.left +ℤ stored s.moved)

  abbrev gap : ℤ
  gap = (s.right +ℤ need) -ℤ (s.left +ℤ s.moved)

  close : Held difference gap
  close =
      minus least.read place.read
      (omega (
        arith,
        nat_abs_sub (s.right +ℤ need) (s.left +ℤ s.moved),
        nat_abs_add s.right need,
        nat_abs_add s.left s.moved,
        level.right_modest,
        level.left_modest,
        level.moved_modest,
        modest,
      ))

  -- a conflict
  module _ (some : lt_z (pos 0) (stored difference) ≡ true) where
    above : (gap ≡ pos (too_close work s)) × (0 < too_close work s)
    above = is-above gap (ap (lt_z (pos 0)) (sym close.read) ∙ some)

    castable : too_close work s ≤ 4194304 → T (non_neg (stored difference)) × Fits w64 (nat_abs (stored difference))
    castable h = unsigned-fits difference (too_close work s) (ap₂ ◌-ℤ◌ least.read place.read ∙ above.0) (omega arith)

    counted : stored difference ≡ pos (too_close work s)
    counted = close.read ∙ above.0

    amount : nat_abs (stored difference) ≡ too_close work s
    amount = ap nat_abs counted

    noted-some : (i : ℕ) → i ≡ owner_of (get work ANCESTOR (s.child - 1)) h.first h.child h.default
        → noted work s h.first h.child h.default (too_close work s) ≡ shared work i h.child (nat_abs (stored difference))
    noted-some i e = rw (ne_eqb (too_close work s) 0 (λ z. omega (arith, z, above.1)), e, amount)

  none : lt_z (pos 0) (stored difference) ≡ false → too_close work s ≡ 0
  none e = not-above gap (ap (lt_z (pos 0)) (sym close.read) ∙ e)

pub overflow_sub-close : goal.overflow_sub-close
overflow_sub-close c = (close c.args.work.now c.args.s c.args.elders c.requires.level c.requires.need c.get.result c.get.type_inv c.get.ensures).fits

pub overflow_cast-close : goal.overflow_cast-close
overflow_cast-close c =
    castable c.args.work.now c.args.s c.args.elders c.requires.level c.requires.need c.get.result c.get.type_inv c.get.ensures c.if-close-gt0.true
    c.requires.modest

pub share-requires-clause-order : goal.share-requires-clause-order
share-requires-clause-order c =
    let h = c.args.elders in
    let l = c.requires.level in
    omega (arith, c.owner-met.ensures, (owner_range (get c.args.work.now ANCESTOR (c.args.s.child - 1)) h.first h.child h.default l.low l.high).1)

pub share-requires-clause-amount : goal.share-requires-clause-amount
share-requires-clause-amount c =
    omega (
      arith,
      amount c.args.work.now c.args.s c.args.elders c.requires.level c.requires.need c.get.result c.get.type_inv c.get.ensures c.if-close-gt0.true,
      c.requires.modest,
    )

pub share-requires-clause-shift : goal.share-requires-clause-shift
share-requires-clause-shift c = (c.requires.level.gathered c.args.elders.child (omega (arith, c.requires.level.low, c.requires.level.high)) (omega arith)).0

pub share-requires-clause-changes : goal.share-requires-clause-changes
share-requires-clause-changes c =
    let h = c.args.elders in
    let l = c.requires.level in
    let own = owner_range (get c.args.work.now ANCESTOR (c.args.s.child - 1)) h.first h.child h.default l.low l.high in
    λ p low high. (l.gathered p (omega (arith, c.owner-met.ensures, own.0, low)) high).1

pub returns-clause-amount : goal.returns-clause-amount
returns-clause-amount c =
    let s = c.args.s in
    let h = c.args.elders in
    let l = c.requires.level in
    elim c.if-close-gt0.branch [
      | then-close-gt0 w ↦
          w.amount-is
          ∙ counted c.args.work.now s h l c.requires.need c.get.result c.get.type_inv c.get.ensures w.if-close-gt0.true
      | else-close-gt0 w ↦
          w.amount-is
          ∙ ap pos (sym (none c.args.work.now s h l c.requires.need c.get.result c.get.type_inv c.get.ensures w.if-close-gt0.false))
    ]

pub returns-clause-gathered : goal.returns-clause-gathered
returns-clause-gathered c =
    let s = c.args.s in
    let h = c.args.elders in
    let l = c.requires.level in
    let child = signed h.child (omega (arith, l.few.1)) in
    let gathered : c.if-close-gt0.work ≡ noted c.args.work.now s h.first h.child h.default (too_close c.args.work.now s) =
    elim c.if-close-gt0.branch [
      | then-close-gt0 w ↦
          w.work-is ∙ w.share.ensures
          ∙ sym (noted-some c.args.work.now s h l c.requires.need c.get.result c.get.type_inv c.get.ensures w.if-close-gt0.true w.owner-met.result w.owner-met.ensures)
      | else-close-gt0 w ↦
          rw (none c.args.work.now s h l c.requires.need c.get.result c.get.type_inv c.get.ensures w.if-close-gt0.false) w.work-is
    ] in
    c.put.ensures ∙ ap₂ (λ (w : List ℤ) (z : ℤ). put w ANCESTOR (s.end - 1) z) gathered child
