-- One addition to a field of the working slice: what it leaves there, and that nothing else changes. Assumes nothing.
use mathlib.Core.Path.{◌≡◌, sym, ap, ap₂, ◌∙◌, subst}
use mathlib.Core.Logic.{◌⊎◌, inl, inr, ⊎_elim}
use mathlib.Core.List.{List}
use Prim.Native.Nat.{ℕ, ◌+◌, ◌*◌, ◌≤◌, ◌<◌}
use native.Mathlib.Omega.{arith}
use lib.IntN.{ℤ, pos, neg_ℤ, nat_abs, ◌+ℤ◌, +ℤ_idr, -ℤ-+ℤ_cancel}
use lib.ListN.{length, drop}
use Rattle.tree.specs.Numbers.{is}
use Rattle.tree.proofs.Counting.{is-cases}
use Rattle.rule.proofs.Signed.{nat_abs_add}
use Rattle.level_order.specs.Fields.{cell, get}
use Rattle.level_order.proofs.Cells.{put-length, put_same, put-field, put-position, put_rest}
use Rattle.contours.proofs.Gathered.{entry}
use Rattle.shifts.specs.Shifts.{added}

module _ (work : List ℤ) (field q : ℕ) (z : ℤ) where
  pub added-length : length (added work field q z) ≡ length work
  unfolding added
  added-length = put-length work field q (get work field q +ℤ z)

  module _ (small : field < 16) where
    -- another field, of the same position or of another
    pub added-field : (k p : ℕ) → k < 16 → (k ≡ field → ⊥) → get (added work field q z) k p ≡ get work k p
    unfolding added
    added-field k p h d = put-field work field q (get work field q +ℤ z) small k p h d

    -- any field of another position
    pub added-position : (k p : ℕ) → k < 16 → (p ≡ q → ⊥) → get (added work field q z) k p ≡ get work k p
    unfolding added
    added-position k p h d = put-position work field q (get work field q +ℤ z) small k p h d

    -- what is past the positions below n
    pub added-rest : (n : ℕ) → q < n → drop (16 * n) (added work field q z) ≡ drop (16 * n) work
    unfolding added
    added-rest n h = put_rest work field q (get work field q +ℤ z) small n h

    module _ (inside : cell q field < length work) where
      -- the position that is added to, or another
      added-cases : (p : ℕ)
          → ((is p q ≡ 1) × (get (added work field q z) field p ≡ get work field p +ℤ z)) ⊎ ((is p q ≡ 0) × (get (added work field q z) field p ≡ get work field p))
      unfolding added
      added-cases p =
          ⊎_elim (λ e. inl (e.1, subst (λ (r : ℕ). get (added work field q z) field r ≡ get work field r +ℤ z) (sym e.0) (put_same work field q (get work field q +ℤ z) inside)))
          (λ d. inr (d.1, added-position field p small d.0))
          (is-cases p q)

      pub added-size : (p : ℕ) → nat_abs (get (added work field q z) field p) ≤ nat_abs (get work field p) + nat_abs z
      added-size p =
          ⊎_elim (λ e. omega (arith, ap nat_abs e.1, nat_abs_add (get work field p) z)) (λ e. omega (arith, ap nat_abs e.1)) (added-cases p)

-- n more at one position, as an entry there
pub added_more : (work : List ℤ) (field q n : ℕ) → field < 16 → cell q field < length work → (p : ℕ)
    → get (added work field q (pos n)) field p ≡ get work field p +ℤ entry q n p
added_more work field q n small inside p =
    ⊎_elim (λ e. e.1 ∙ ap (λ (k : ℕ). get work field p +ℤ pos k) (omega (arith, ap (λ (k : ℕ). k * n) e.0)))
    (λ e. e.1 ∙ sym (+ℤ_idr (get work field p)) ∙ ap (λ (k : ℕ). get work field p +ℤ pos k) (omega (arith, ap (λ (k : ℕ). k * n) e.0)))
    (added-cases work field q (pos n) small inside p)

-- n less
pub added-less : (work : List ℤ) (field q n : ℕ) → field < 16 → cell q field < length work → (p : ℕ)
    → get (added work field q (neg_ℤ (pos n))) field p +ℤ entry q n p ≡ get work field p
added-less work field q n small inside p =
    ⊎_elim (λ e.
    ap₂ (λ (x : ℤ) (k : ℕ). x +ℤ pos k) e.1 (omega (arith, ap (λ (k : ℕ). k * n) e.0)) ∙ -ℤ-+ℤ_cancel (get work field p) (pos n))
    (λ e. ap₂ (λ (x : ℤ) (k : ℕ). x +ℤ pos k) e.1 (omega (arith, ap (λ (k : ℕ). k * n) e.0)) ∙ +ℤ_idr (get work field p))
    (added-cases work field q (neg_ℤ (pos n)) small inside p)
