-- Gathered moves: what one meeting adds to the shifts and changes moves each child between the two by its share, and no other. A pass adds
-- up, so it is known from passes over single entries. Assumes nothing.
use mathlib.Core.Path.{◌≡◌, refl, sym, ap, ap₂, ◌∙◌, fun_ext}
use mathlib.Core.Logic.{⊎_elim}
use mathlib.Core.Bool.{Bool, cond}
use Prim.Native.Nat.{ℕ, zero, suc, ◌+◌, ◌-◌, ◌*◌, ◌≤◌, ◌<◌}
use native.Mathlib.Nat.{mul-le-mul_right, eq-zero-or-pos}
use native.Mathlib.Omega.{arith}
use lib.Dec.{ltb}
use borrow.Author.Tests.{lt-ltb, le-ltb}
use lib.IntN.{ℤ, pos, nat_abs, ◌+ℤ◌, +ℤ_assoc}
use Rattle.tree.specs.Numbers.{is}
use Rattle.tree.proofs.Counting.{is-other, is-cases, below_or_not}
use Rattle.rule.specs.Join.{above0, quotient, remainder, evenly}
use Rattle.rule.proofs.Signed.{below0, one-part, parts_add, parts_eq, swap_last, nat_abs_parts, nat_abs_add}
use Rattle.rule.proofs.Shares.{whole_shared, remainder-small}
use Rattle.contours.specs.Gather.{Carried, carry, gather, pending}

-- one entry, of the amount s at position a
abbrev pub entry : ℕ → ℕ → ℕ → ℤ
entry a s w = pos (is w a * s)

-- The shifts and changes after a meeting of the children at i and j with the amount s, of which every gap between them gets q, and the r
-- rightmost one more: the shift at j has grown by s, and the change by q at i, by 1 at r children before j, and by -(q + 1) at j.
pub record Met (shift change shift' change' : ℕ → ℤ) (i j s : ℕ) : Type 0 where
  pub shifts : (w : ℕ) → shift' w ≡ shift w +ℤ entry j s w
  pub changes : (w : ℕ)
      → change' w +ℤ entry j (quotient (j - i) s + 1) w ≡ (change w +ℤ entry (j - remainder (j - i) s) 1 w) +ℤ entry i (quotient (j - i) s) w

-- the share of the child at position p
abbrev pub share_at : ℕ → ℕ → ℕ → ℕ → ℕ
share_at i j s p = cond (ltb p j) (evenly (j - i) s (p - i)) 0

pub share-right : (i j s p : ℕ) → j ≤ p → share_at i j s p ≡ 0
share-right i j s p h = ap (λ (b : Bool). cond b (evenly (j - i) s (p - i)) 0) (le-ltb p j h)

pub share-left : (i j s p : ℕ) → p < j → share_at i j s p ≡ evenly (j - i) s (p - i)
share-left i j s p h = ap (λ (b : Bool). cond b (evenly (j - i) s (p - i)) 0) (lt-ltb p j h)

-- ---- a pass over sums is the sum of two passes

abbrev carried : ℤ → ℤ → Carried
carried z r = record { sum = z; rate = r }

abbrev both : Carried → Carried → Carried
both g h = carried (g.sum +ℤ h.sum) (g.rate +ℤ h.rate)

swap_middle : (a b c d : ℤ) → (a +ℤ b) +ℤ (c +ℤ d) ≡ (a +ℤ c) +ℤ (b +ℤ d)
swap_middle a b c d = sym (+ℤ_assoc (a +ℤ b) c d) ∙ ap (λ (z : ℤ). z +ℤ d) (swap_last a b c) ∙ +ℤ_assoc (a +ℤ c) b d

carry-both : (s t c d : ℤ) (g h : Carried) → carry (s +ℤ t) (c +ℤ d) (both g h) ≡ both (carry s c g) (carry t d h)
carry-both s t c d g h =
    let rate = swap_middle g.rate h.rate c d in
    ap₂ carried (ap₂ ◌+ℤ◌ (swap_middle g.sum h.sum s t) rate ∙ swap_middle (g.sum +ℤ s) (h.sum +ℤ t) (g.rate +ℤ c) (h.rate +ℤ d)) rate

gather-both : (s t c d : ℕ → ℤ) (end m : ℕ) → gather (λ w. s w +ℤ t w) (λ w. c w +ℤ d w) end m ≡ both (gather s c end m) (gather t d end m)
gather-both s t c d end zero = refl
gather-both s t c d end (suc m) = ap (carry _ _) (gather-both s t c d end m) ∙ carry-both (s _) (t _) (c _) (d _) (gather s c end m) (gather t d end m)

pub pending-both : (s t c d : ℕ → ℤ) (end p : ℕ) → pending (λ w. s w +ℤ t w) (λ w. c w +ℤ d w) end p ≡ pending s c end p +ℤ pending t d end p
pending-both s t c d end p = ap (λ (g : Carried). g.sum) (gather-both s t c d end (end - suc p))

-- ---- a pass over one shift and one change

-- 1 where position w is before a, else 0
abbrev pub ahead : ℕ → ℕ → ℕ
ahead w a = 1 - (suc w - a)

-- before position w: the shift moves all before it by s, the change each before it by q more than the next
abbrev passed : ℕ → ℕ → ℕ → ℕ → ℕ → Carried
passed a s b q w = carried (pos (ahead w a * s + (b - w) * q)) (pos (ahead w b * q))

ahead-next : (a p : ℕ) → ahead p a ≡ ahead (suc p) a + is (suc p) a
ahead-next a p = ⊎_elim (λ h. omega (arith, h.0, h.1)) (λ h. let differ = h.0 in omega (arith, h.1)) (is-cases (suc p) a)

passed-next : (a s b q p : ℕ) → carry (entry a s (suc p)) (entry b q (suc p)) (passed a s b q (suc p)) ≡ passed a s b q p
passed-next a s b q p =
    let more : b - p ≡ (b - suc p) + ahead p b = omega arith in
    let far = ap (λ (k : ℕ). k * s) (ahead-next a p) in
    let near = ap (λ (k : ℕ). k * q) (ahead-next b p) in
    ap₂ carried (ap pos (omega (arith, ap (λ (k : ℕ). k * q) more))) (ap pos (omega arith))

gather-entries : (a s b q end m : ℕ) → a < end → b < end → m < end → gather (entry a s) (entry b q) end m ≡ passed a s b q (end - suc m)
gather-entries a s b q end zero ha hb h =
    let far : ahead (end - 1) a ≡ 0 = omega arith in
    let near : ahead (end - 1) b ≡ 0 = omega arith in
    let none : b - (end - 1) ≡ 0 = omega arith in
    ap₂ carried (ap pos (omega (arith, ap (λ (k : ℕ). k * s) far, ap (λ (k : ℕ). k * q) none))) (ap pos (omega (arith, ap (λ (k : ℕ). k * q) near)))
gather-entries a s b q end (suc m) ha hb h =
    let next : end - suc m ≡ suc (end - suc (suc m)) = omega arith in
    ap (carry _ _) (gather-entries a s b q end m ha hb (omega arith))
    ∙ ap (λ (w : ℕ). carry (entry a s w) (entry b q w) (passed a s b q w)) next ∙ passed-next a s b q (end - suc (suc m))

pub pending-entries : (a s b q end p : ℕ) → a < end → b < end → p < end → pending (entry a s) (entry b q) end p ≡ pos (ahead p a * s + (b - p) * q)
pending-entries a s b q end p ha hb h =
    let back : end - suc (end - suc p) ≡ p = omega arith in
    ap (λ (g : Carried). g.sum) (gather-entries a s b q end (end - suc p) ha hb (omega arith) ∙ ap (passed a s b q) back)

-- ---- a meeting

-- the r rightmost of k gaps get an odd unit: of those left of p (p - i) - (k - r), and of the j - p right of it all but j - r - p
odd_units : (i j k r p : ℕ) → i + k ≡ j → r < k → p < j → r + (j - r - p) ≡ ((p - i) - (k - r)) + (j - p)
odd_units i j k r p e h l = omega arith

-- k gaps of q and r more make s, seen from a child with a gaps on its left and b on its right
add-up : (k q r s a b c d e : ℕ) → k * q + r ≡ s → k + c ≡ a + b → r + d ≡ e + b → (1 * s + d * 1) + c * q ≡ (a * q + e) + b * (q + 1)
add-up k q r s a b c d e whole sums odd = omega (arith, ap (λ (x : ℕ). x * q) sums)

-- what each child moves by, from the entries that the meeting adds on either side
shares-met : (i j s p : ℕ) → i < j
    → (ahead p j * s + (j - remainder (j - i) s - p) * 1) + (i - p) * quotient (j - i) s ≡ share_at i j s p + (j - p) * (quotient (j - i) s + 1)
unfolding evenly
shares-met i j s p h =
    let gaps : i + (j - i) ≡ j = omega arith in
    let some : 0 < j - i = omega arith in
    ⊎_elim (λ l.
    let one : ahead p j ≡ 1 = omega (arith, l.0) in
    ap (λ (x : ℕ). (x * s + (j - r - p) * 1) + (i - p) * q) one
    ∙ add-up (j - i) q r s (p - i) (j - p) (i - p) (j - r - p) _ (whole_shared (j - i) s) (omega (arith, l.0))
    (odd_units i j (j - i) r p gaps (remainder-small (j - i) s some) l.0)
    ∙ ap (λ (x : ℕ). x + (j - p) * (q + 1)) (sym (share-left i j s p l.0)))
    (λ l.
    let none : ahead p j ≡ 0 = omega (arith, l.0) in
    let left : i - p ≡ 0 = omega (arith, l.0) in
    let right : j - p ≡ 0 = omega (arith, l.0) in
    rw (none, left, right, past r l.0, share-right i j s p l.0) (omega arith))
    (below_or_not p j)
  where
    q : ℕ
    q = quotient (j - i) s

    r : ℕ
    r = remainder (j - i) s

    past : (x : ℕ) → j ≤ p → j - x - p ≡ 0
    past x h = omega arith

cancel : (y z : ℤ) (k l m n : ℕ) → y +ℤ pos k ≡ (z +ℤ pos l) +ℤ pos m → l + m ≡ n + k → y ≡ z +ℤ pos n
cancel y z k l m n e h =
    parts_eq y (z +ℤ pos n)
    (omega (arith, ap above0 e, ap below0 e, parts_add y (pos k), parts_add z (pos l), parts_add (z +ℤ pos l) (pos m), parts_add z (pos n)))

module _ {shift change shift' change' : ℕ → ℤ} {i j s : ℕ} (end : ℕ) (M : Met shift change shift' change' i j s) (before : i < j) (inside : j < end) where
  abbrev q : ℕ
  q = quotient (j - i) s

  abbrev raised : ℕ
  raised = j - remainder (j - i) s

  -- every child moves by its share more than before
  pub pending-met : (p : ℕ) → p < end → pending shift' change' end p ≡ pending shift change end p +ℤ pos (share_at i j s p)
  pending-met p h =
      cancel (pending shift' change' end p) (pending shift change end p) _ _ _ _
      (ap (λ (z : ℤ). pending shift' change' end p +ℤ z) (sym (pending-entries j 0 j (q + 1) end p inside inside h))
      ∙ sym (pending-both shift' (entry j 0) change' (entry j (q + 1)) end p)
      ∙ ap₂ (λ (u v : ℕ → ℤ). pending u v end p) (fun_ext (λ w. ap (λ (z : ℤ). z +ℤ entry j 0 w) (M.shifts w))) (fun_ext M.changes)
      ∙ pending-both (λ w. shift w +ℤ entry j s w) (entry j 0) (λ w. change w +ℤ entry raised 1 w) (entry i q) end p
      ∙ ap₂ ◌+ℤ◌ (pending-both shift (entry j s) change (entry raised 1) end p) (pending-entries j 0 i q end p inside (omega arith) h)
      ∙ ap (λ (z : ℤ). (pending shift change end p +ℤ z) +ℤ pos (ahead p j * 0 + (i - p) * q)) (pending-entries j s raised 1 end p inside (omega arith) h))
      (omega (arith, shares-met i j s p before))

-- ---- how far the numbers can grow

-- an entry is at most its amount
entry-most : (w a s : ℕ) → is w a * s ≤ s
entry-most w a s = ⊎_elim (λ h. rw h.1 (omega arith)) (λ h. rw h.1 (omega arith)) (is-cases w a)

-- at no position do q at i, 1 at r before j and -(q + 1) at j make more than s
entries-small : (i j k q r s w : ℕ) → i + k ≡ j → r < k → k * q + r ≡ s
    → (is w (j - r) * 1 + is w i * q ≤ s + is w j * (q + 1)) × (is w j * (q + 1) ≤ s + (is w (j - r) * 1 + is w i * q))
entries-small i j k q r s w e h whole =
    let some : 1 ≤ k = omega arith in
    let most : q + r ≤ s = omega (arith, mul-le-mul_right q some) in
    ⊎_elim (λ (none : r ≡ 0). let same : j - r ≡ j = omega arith in rw same (omega (arith, entry-most w i q, entry-most w j q)))
    (λ (odd : 0 < r).
    ⊎_elim (λ met. rw (met.1, is-other w (j - r) (λ x. omega (arith, met.0))) (omega (arith, entry-most w j (q + 1))))
    (λ other. rw other.1 (omega (arith, entry-most w (j - r) 1, entry-most w j (q + 1))))
    (is-cases w i))
    (eq-zero-or-pos r)

module _ {shift change shift' change' : ℕ → ℤ} {i j s : ℕ} (M : Met shift change shift' change' i j s) (before : i < j) where
  pub shift-grown : (w : ℕ) → nat_abs (shift' w) ≤ nat_abs (shift w) + s
  shift-grown w = omega (arith, ap nat_abs (M.shifts w), nat_abs_add (shift w) (entry j s w), entry-most w j s)

  pub change-grown : (w : ℕ) → nat_abs (change' w) ≤ nat_abs (change w) + s
  change-grown w =
      let gaps : i + (j - i) ≡ j = omega arith in
      let some : 0 < j - i = omega arith in
      let b = entries-small i j (j - i) (quotient (j - i) s) (remainder (j - i) s) s w gaps (remainder-small (j - i) s some) (whole_shared (j - i) s) in
      grown (change' w) (change w) _ _ _ s (M.changes w) b.0 b.1
    where
      grown : (y z : ℤ) (a b d s : ℕ) → y +ℤ pos a ≡ (z +ℤ pos b) +ℤ pos d → b + d ≤ s + a → a ≤ s + (b + d) → nat_abs y ≤ nat_abs z + s
      grown y z a b d s e h g =
          let left = parts_add y (pos a) in
          let right = parts_add (z +ℤ pos b) (pos d) in
          let inner = parts_add z (pos b) in
          ⊎_elim (λ p. omega (arith, nat_abs_parts y, nat_abs_parts z, ap above0 e, ap below0 e)) (λ p. omega (arith, nat_abs_parts y, nat_abs_parts z, ap above0 e, ap below0 e)) (one-part y)
