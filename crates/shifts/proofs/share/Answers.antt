-- `shifts::share` meets its contract. Assumes nothing.
use mathlib.Core.Path.{◌≡◌, ap, ap₂, ◌∙◌}
use mathlib.Core.List.{List}
use Prim.Native.Nat.{ℕ, ◌+◌, ◌-◌, ◌%◌, ◌≤◌, ◌<◌}
use native.Mathlib.Nat.{div-le_self}
use native.Mathlib.Omega.{arith}
use lib.IntN.{ℤ, pos, neg_ℤ, nat_abs, ◌-ℤ◌, +ℤ_idl}
use mir.Syntax.{w32}
use mir.Val.{to_z}
use Rattle.rule.specs.Join.{quotient, remainder}
use Rattle.rule.proofs.Signed.{nat_abs_neg}
use Rattle.level_order.specs.Fields.{get, SHIFT, CHANGE}
use Rattle.level_order.proofs.Signed32.{stored, held, signed}
use Rattle.shifts.specs.Shifts.{added, shifted, lessened, raised}
use Rattle.shifts.proofs.Shared.{shifted-size, lessened-size, raised-size}
use Rattle.shifts.proofs.share.Goals as goal

-- what the additions leave, one after the other
module _ (work : List ℤ) (i c s : ℕ) (order : i < c) (amount : s ≤ 4194304) where
  abbrev q : ℕ
  q = quotient (c - i) s

  small : q ≤ 4194304
  small = omega (arith, div-le_self s (c - i))

  module _ (l₁ : List ℤ) (e₁ : l₁ ≡ added work SHIFT c (to_z w32 s)) where
    now₁ : l₁ ≡ shifted work i c s
    now₁ = e₁ ∙ ap (added work SHIFT c) (signed s (omega arith))

    module _ (l₂ : List ℤ) (e₂ : l₂ ≡ added l₁ CHANGE c (stored (pos 0 -ℤ to_z w32 (q + 1)))) where
      now₂ : l₂ ≡ lessened work i c s
      now₂ =
          let one_more = ap (λ (z : ℤ). pos 0 -ℤ z) (signed (q + 1) (omega (arith, small))) in
          let less = held (one_more ∙ +ℤ_idl (neg_ℤ (pos (q + 1)))) (omega (arith, nat_abs_neg (pos (q + 1)), small)) in
          e₂ ∙ ap₂ (λ (l : List ℤ) (z : ℤ). added l CHANGE c z) now₁ less.read

      now₃ : (l₃ : List ℤ) → l₃ ≡ added l₂ CHANGE (c - s % (c - i)) (pos 1) → l₃ ≡ raised work i c s
      now₃ l₃ e₃ =
          let rest : s % (c - i) ≡ remainder (c - i) s = omega arith in
          e₃ ∙ ap₂ (λ (l : List ℤ) (r : ℕ). added l CHANGE (c - r) (pos 1)) now₂ rest

pub add-requires-2-clause-before : goal.add-requires-2-clause-before
add-requires-2-clause-before c =
    let a = c.args in
    let R = c.requires in
    let e = now₁ a.work.now a.i a.c a.s R.order R.amount c.add.new.work c.add.ensures in
    omega (arith, ap (λ (l : List ℤ). nat_abs (get l CHANGE a.c)) e, shifted-size a.work.now a.i a.c a.s R.order R.room a.c, R.changes a.c (omega arith) (omega arith))

pub add-requires-3-clause-before : goal.add-requires-3-clause-before
add-requires-3-clause-before c =
    let a = c.args in
    let R = c.requires in
    let e = now₂ a.work.now a.i a.c a.s R.order R.amount c.add.new.work c.add.ensures c.add-2.new.work c.add-2.ensures in
    let p : ℕ = a.c - a.s % (a.c - a.i) in
    omega (
      arith,
      ap (λ (l : List ℤ). nat_abs (get l CHANGE p)) e,
      lessened-size a.work.now a.i a.c a.s R.order R.room p,
      R.changes p (omega arith) (omega arith),
      small a.work.now a.i a.c a.s R.order R.amount,
    )

pub add-requires-4-clause-before : goal.add-requires-4-clause-before
add-requires-4-clause-before c =
    let a = c.args in
    let R = c.requires in
    let e =
    now₃ a.work.now a.i a.c a.s R.order R.amount c.add.new.work c.add.ensures c.add-2.new.work c.add-2.ensures c.add-3.new.work c.add-3.ensures in
    omega (
      arith,
      ap (λ (l : List ℤ). nat_abs (get l CHANGE a.i)) e,
      raised-size a.work.now a.i a.c a.s R.order R.room a.i,
      R.changes a.i (omega arith) (omega arith),
      small a.work.now a.i a.c a.s R.order R.amount,
    )
