-- The greatest half-width of the first nodes, and when half-widths are refused. Assumes nothing.
use mathlib.Core.Path.{◌≡◌, refl, sym, ap, ap₂, ◌∙◌}
use mathlib.Core.Logic.{inl, ⊎_elim}
use mathlib.Core.Bool.{Bool, true, false, ◌||◌}
use mathlib.Core.List.{List}
use Prim.Native.Nat.{ℕ, zero, suc, ◌+◌, ◌*◌, ◌≤◌, ◌<◌, max}
use native.Mathlib.Nat.{le_refl, le_of_suc-le-suc, eq-or-lt_of_le}
use native.Mathlib.Omega.{arith}
use lib.Dec.{ltb}
use lib.ListN.{length, take, get_or-eq_default}
use lib.Seq.{length-take-le, get_or-take}
use borrow.Author.Tests.{ltb-true, ltb-false, lt-ltb, le-ltb}
use Rattle.refusal.proofs.Truth.{true-or-false, or-false-left, or-false-right, or-true}
use Rattle.distance.specs.Needed.{half_width, needed, widest, bad_half_widths}

module _ (hs : List ℕ) where
  -- no half-width of the first n nodes is above the greatest
  pub at_most-widest : (n v : ℕ) → v < n → half_width hs v ≤ widest n hs
  at_most-widest zero v h = absurd (omega arith)
  at_most-widest (suc n) v h =
      ⊎_elim (λ (e : v ≡ n). omega (arith, ap (half_width hs) e)) (λ (k : v < n). omega (arith, at_most-widest n v k))
      (eq-or-lt_of_le (le_of_suc-le-suc h))

  -- so no two of them need more than the separation and twice the greatest
  pub needed-at_most : (D n a b : ℕ) → a < n → b < n → needed D hs a b ≤ D + 2 * widest n hs
  needed-at_most D n a b h k = omega (arith, at_most-widest n a h, at_most-widest n b k)

  -- the first n half-widths alone: those of the n nodes as they were, and 0 past them
  module _ (n : ℕ) where
    pub first-widths : (v : ℕ) → v < n → half_width (take n hs) v ≡ half_width hs v
    first-widths v h = get_or-take n hs v 0 h

    pub first-narrow : n ≤ length hs → widest n hs ≤ 256 → (v : ℕ) → half_width (take n hs) v ≤ 256
    first-narrow enough narrow v =
        ⊎_elim (λ e. omega (arith, first-widths v (ltb-true v n e), at_most-widest n v (ltb-true v n e)))
        (λ e.
        let past : length (take n hs) ≤ v = omega (arith, length-take-le n hs enough, ltb-false v n e) in
        omega (arith, get_or-eq_default (take n hs) 0 past))
        (true-or-false (ltb v n))

  widest-first : (m n : ℕ) → n ≤ m → widest n (take m hs) ≡ widest n hs
  widest-first m zero fits = refl
  widest-first m (suc n) fits = ap₂ max (widest-first m n (omega arith)) (first-widths m n fits)

  pub widest-most : (most n : ℕ) → ((v : ℕ) → v < n → half_width hs v ≤ most) → widest n hs ≤ most
  widest-most most zero each = omega arith
  widest-most most (suc n) each = omega (arith, widest-most most n (λ v h. each v (omega arith)), each n (le_refl (suc n)))

  -- ---- what is refused

  module _ (n : ℕ) where
    pub widths_short : length hs < n → bad_half_widths n hs ≡ true
    unfolding bad_half_widths
    widths_short h = or-true (inl (lt-ltb (length hs) n h))

    -- where there are n of them, the greatest decides
    pub widths-tested : n ≤ length hs → bad_half_widths n hs ≡ ltb 256 (widest n hs)
    unfolding bad_half_widths
    widths-tested h = ap (λ (b : Bool). b || ltb 256 (widest n hs)) (le-ltb (length hs) n h)

    pub good-widths : bad_half_widths n hs ≡ false → (n ≤ length hs) × (widest n hs ≤ 256)
    unfolding bad_half_widths
    good-widths e = (
      ltb-false (length hs) n (or-false-left (ltb (length hs) n) (ltb 256 (widest n hs)) e),
      ltb-false 256 (widest n hs) (or-false-right (ltb (length hs) n) (ltb 256 (widest n hs)) e),
    )

    -- n half-widths that are each at most 256 are taken
    pub narrow_good : n ≤ length hs → ((v : ℕ) → v < n → half_width hs v ≤ 256) → bad_half_widths n hs ≡ false
    narrow_good enough each = widths-tested enough ∙ le-ltb 256 (widest n hs) (widest-most 256 n each)

-- half-widths past the first n are not looked at
pub first_alike : (n : ℕ) (hs others : List ℕ) → n ≤ length hs → n ≤ length others → take n hs ≡ take n others
    → bad_half_widths n hs ≡ bad_half_widths n others
first_alike n hs others enough others-enough same =
    widths-tested hs n enough
    ∙ ap (ltb 256) (sym (widest-first hs n n (le_refl n)) ∙ ap (widest n) same ∙ widest-first others n n (le_refl n))
    ∙ sym (widths-tested others n others-enough)
