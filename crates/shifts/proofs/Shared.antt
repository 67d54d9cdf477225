-- One meeting of children i and c in the working slice: the shifts and changes are those of a meeting, and nothing else changes. Assumes nothing.
use mathlib.Core.Path.{◌≡◌, ap, ◌∙◌}
use mathlib.Core.Logic.{◌⊎◌, ⊎_elim}
use mathlib.Core.List.{List}
use Prim.Native.Nat.{ℕ, ◌+◌, ◌-◌, ◌*◌, ◌≤◌, ◌<◌}
use native.Mathlib.Omega.{arith}
use lib.IntN.{ℤ, pos, neg_ℤ, nat_abs, ◌+ℤ◌}
use lib.ListN.{length, drop}
use Rattle.tree.proofs.Counting.{is-cases}
use Rattle.rule.specs.Join.{quotient, remainder}
use Rattle.rule.proofs.Signed.{nat_abs_neg, swap_last}
use Rattle.rule.proofs.Shares.{remainder-small}
use Rattle.level_order.specs.Fields.{cell, get, SHIFT, CHANGE}
use Rattle.contours.proofs.Gathered.{entry, Met, shift-grown, change-grown}
use Rattle.shifts.specs.Shifts.{shifted, lessened, raised, shared}
use Rattle.shifts.proofs.Added.{added-length, added-field, added-position, added-rest, added-size, added_more, added-less}

module _ (work : List ℤ) (i c s : ℕ) where
  abbrev q : ℕ
  q = quotient (c - i) s

  abbrev r : ℕ
  r = remainder (c - i) s

  pub shifted-length : length (shifted work i c s) ≡ length work
  shifted-length = added-length work SHIFT c _

  pub lessened-length : length (lessened work i c s) ≡ length work
  lessened-length = added-length (shifted work i c s) CHANGE c _ ∙ shifted-length

  pub raised-length : length (raised work i c s) ≡ length work
  raised-length = added-length (lessened work i c s) CHANGE _ _ ∙ lessened-length

  pub shared-length : length (shared work i c s) ≡ length work
  shared-length = added-length (raised work i c s) CHANGE i _ ∙ raised-length

  -- any field before the change
  from-shifted : (k p : ℕ) → k < CHANGE → get (shared work i c s) k p ≡ get (shifted work i c s) k p
  from-shifted k p h =
      added-field (raised work i c s) CHANGE i _ (omega arith) k p (omega arith) (λ e. omega arith)
      ∙ added-field (lessened work i c s) CHANGE _ _ (omega arith) k p (omega arith) (λ e. omega arith)
      ∙ added-field (shifted work i c s) CHANGE c _ (omega arith) k p (omega arith) (λ e. omega arith)

  -- any field but the shift, before the others are written
  shifted-field : (k p : ℕ) → k < 16 → (k ≡ SHIFT → ⊥) → get (shifted work i c s) k p ≡ get work k p
  shifted-field k p h d = added-field work SHIFT c _ (omega arith) k p h d

  module _ (order : i < c) (inside : cell c CHANGE < length work) where
    pub shared-met : Met (get work SHIFT) (get work CHANGE) (get (shared work i c s) SHIFT) (get (shared work i c s) CHANGE) i c s
    shared-met = record { shifts = λ w. from-shifted SHIFT w (omega arith) ∙ added_more work SHIFT c s (omega arith) (omega arith) w; changes = changes }
      where
        changes : (w : ℕ) → get (shared work i c s) CHANGE w +ℤ entry c (q + 1) w ≡ (get work CHANGE w +ℤ entry (c - r) 1 w) +ℤ entry i q w
        changes w =
            ap (λ (x : ℤ). x +ℤ entry c (q + 1) w)
            (added_more (raised work i c s) CHANGE i q (omega arith) (omega (arith, raised-length)) w
            ∙ ap (λ (x : ℤ). x +ℤ entry i q w)
            (added_more (lessened work i c s) CHANGE (c - r) 1 (omega arith) (omega (arith, lessened-length)) w))
            ∙ swap_last (get (lessened work i c s) CHANGE w +ℤ entry (c - r) 1 w) (entry i q w) (entry c (q + 1) w)
            ∙ ap (λ (x : ℤ). x +ℤ entry i q w) (swap_last (get (lessened work i c s) CHANGE w) (entry (c - r) 1 w) (entry c (q + 1) w))
            ∙ ap (λ (x : ℤ). (x +ℤ entry (c - r) 1 w) +ℤ entry i q w)
            (added-less (shifted work i c s) CHANGE c (q + 1) (omega arith) (omega (arith, shifted-length)) w
            ∙ shifted-field CHANGE w (omega arith) (λ e. omega arith))

    -- ---- how far the numbers can grow

    -- no shift and no change is more than s larger
    pub shared-grown : (k p : ℕ) → SHIFT ≤ k → k ≤ CHANGE → nat_abs (get (shared work i c s) k p) ≤ nat_abs (get work k p) + s
    shared-grown k p l h =
        ⊎_elim (λ e. rw e.0 (shift-grown shared-met order p)) (λ d. let last : k ≡ CHANGE = at_last d.0 in rw last (change-grown shared-met order p)) (is-cases k SHIFT)
      where
        at_last : (k ≡ SHIFT → ⊥) → k ≡ CHANGE
        at_last d = omega arith

    -- and no change much larger on the way
    pub shifted-size : (p : ℕ) → nat_abs (get (shifted work i c s) CHANGE p) ≤ nat_abs (get work CHANGE p)
    shifted-size p = omega (arith, ap nat_abs (shifted-field CHANGE p (omega arith) (λ e. omega arith)))

    pub lessened-size : (p : ℕ) → nat_abs (get (lessened work i c s) CHANGE p) ≤ nat_abs (get work CHANGE p) + (q + 1)
    lessened-size p =
        omega (
          arith,
          added-size (shifted work i c s) CHANGE c (neg_ℤ (pos (q + 1))) (omega arith) (omega (arith, shifted-length)) p,
          nat_abs_neg (pos (q + 1)),
          shifted-size p,
        )

    pub raised-size : (p : ℕ) → nat_abs (get (raised work i c s) CHANGE p) ≤ nat_abs (get work CHANGE p) + (q + 2)
    raised-size p =
        omega (arith, added-size (lessened work i c s) CHANGE (c - r) (pos 1) (omega arith) (omega (arith, lessened-length)) p, lessened-size p)

  -- ---- what stays

  -- any field before the shift
  pub shared-field : (k p : ℕ) → k < SHIFT → get (shared work i c s) k p ≡ get work k p
  shared-field k p h = from-shifted k p (omega arith) ∙ shifted-field k p (omega arith) (λ e. omega arith)

  module _ (order : i < c) where
    pub behind : i < c - r
    behind = let some : 0 < c - i = omega arith in omega (arith, remainder-small (c - i) s some)

    -- any field of a position outside
    pub shared-position : (k p : ℕ) → k < 16 → (p < i) ⊎ (c < p) → get (shared work i c s) k p ≡ get work k p
    shared-position k p h o =
        added-position (raised work i c s) CHANGE i _ (omega arith) k p h (off i (omega arith) (omega arith))
        ∙ added-position (lessened work i c s) CHANGE (c - r) _ (omega arith) k p h (off (c - r) (omega (arith, behind)) (omega arith))
        ∙ added-position (shifted work i c s) CHANGE c _ (omega arith) k p h (off c (omega arith) (omega arith))
        ∙ added-position work SHIFT c _ (omega arith) k p h (off c (omega arith) (omega arith))
      where
        off : (x : ℕ) → i ≤ x → x ≤ c → p ≡ x → ⊥
        off x l g e = ⊎_elim (λ b. omega arith) (λ a. omega arith) o

    -- what is past the positions below n
    pub shared-rest : (n : ℕ) → c < n → drop (16 * n) (shared work i c s) ≡ drop (16 * n) work
    shared-rest n h =
        added-rest (raised work i c s) CHANGE i _ (omega arith) n (omega arith)
        ∙ added-rest (lessened work i c s) CHANGE (c - r) _ (omega arith) n (omega arith)
        ∙ added-rest (shifted work i c s) CHANGE c _ (omega arith) n h
        ∙ added-rest work SHIFT c _ (omega arith) n h
