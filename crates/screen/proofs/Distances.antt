-- The distances of an accepted view: what the float operations give is the whole number of eighths, and the tests of the edges are tests of
-- it. Assumes nothing.
use mathlib.Core.Path.{◌≡◌, refl, sym, ap, ap₂, ◌∙◌}
use Rattle.std.specs.Bool.{then_some}
use mathlib.Core.Bool.{Bool, true, false, ◌&&◌}
use Prim.Native.Nat.{ℕ, ◌*◌, ◌^◌, ◌≤◌, ◌<◌}
use native.Mathlib.Nat.{mul_assoc, mul-le-mul, mul-le-mul_right, le_of_mul-le-mul_right, lt_of_not-le, not-le_of_lt}
use native.Mathlib.Omega.{arith}
use lib.Dec.{leb, lit<, lit≤}
use lib.IntN.{ℤ, pos, nat_abs, ◌-ℤ◌, ◌*ℤ◌}
use lib.Ieee.{Float, nan, inf, fin, binary64, up, down, sub, mul, of_int}
use lib.Ieee.Fits.{down_pos}
use lib.Ieee.Exact.{HasValue}
use borrow.Author.Tests.{leb-true, leb-false, le-leb, lt-leb}
use Rattle.rule.proofs.Signed.{nat_abs_sub}
use Rattle.screen.specs.Fraction.{signed, whole_part, negative, nearest}
use Rattle.screen.specs.Screen.{units_down, eightfold, eight_across, eight_down, at, seen_at, distance, screen_number}
use Rattle.screen.specs.declared.View.{View}
use Rattle.screen.proofs.Compared.{within, within-size}
use Rattle.screen.proofs.Signed.{size-signed, size-times}
use Rattle.screen.proofs.Exact.{of_whole, value_of, sub-nearest, mul-eighths}
use Rattle.screen.proofs.Conditions.{part_of, ZoomIs, CentreIs, Accepted, accepted}

-- ---- one distance

module _ (unit : ℤ) (centre zoom : Float) (moderate : nat_abs unit ≤ 4194304) (C : CentreIs centre) (Z : ZoomIs zoom) where
  -- unit place less centre
  abbrev less : ℤ
  less = unit -ℤ whole_part 1 centre

  centre-part : whole_part 1 centre ≡ signed C.sign C.size
  centre-part = part_of centre C.sign C.size 1 C.value

  eightfold-is : less *ℤ pos Z.eighths ≡ eightfold unit centre zoom
  eightfold-is = ap (λ (z : ℤ). less *ℤ z) (sym (part_of zoom false Z.eighths 8 Z.value))

  less-most : nat_abs less ≤ 6291456
  less-most = omega (arith, nat_abs_sub unit (whole_part 1 centre), ap nat_abs centre-part, size-signed C.sign C.size, C.most)

  pub less-small : nat_abs less < 2 ^ 53
  less-small = omega (arith, less-most)

  pub eightfold-small : nat_abs (eightfold unit centre zoom) < 2 ^ 53
  eightfold-small = rw (← eightfold-is) (small less less-most)
    where
      small : (k : ℤ) → nat_abs k ≤ 6291456 → nat_abs (k *ℤ pos Z.eighths) < 2 ^ 53
      small k most = rw size-times (omega (arith, mul-le-mul most Z.most))

  pub difference-is : sub binary64 (of_int binary64 unit) centre ≡ nearest less 1
  difference-is =
      ap (λ (x : Float). sub binary64 x centre) (of_whole unit)
      ∙ sub-nearest unit centre C.sign C.size (omega arith) C.value
      ∙ ap (λ (c : ℤ). nearest (unit -ℤ c) 1) (sym centre-part)

  pub distance_is : distance (of_int binary64 unit) centre zoom ≡ nearest (eightfold unit centre zoom) 8
  distance_is =
      ap (λ (x : Float). mul binary64 x zoom) difference-is
      ∙ mul-eighths less zoom Z.eighths less-small Z.some Z.value
      ∙ ap (λ (k : ℤ). nearest k 8) eightfold-is

-- ---- the edges

leb-both : (a b c d : ℕ) → (a ≤ b → c ≤ d) → (c ≤ d → a ≤ b) → leb a b ≡ leb c d
leb-both a b c d there back = go (leb a b) refl
  where
    go : (t : Bool) → leb a b ≡ t → t ≡ leb c d
    go true e = sym (le-leb c d (there (leb-true a b e)))
    go false e = sym (lt-leb c d (lt_of_not-le (λ h. not-le_of_lt (leb-false a b e) (back h))))

-- a / 8 in size, and n * 2 ^ j
within-eighths : (x : Float) (s : Bool) (a n j : ℕ) → 0 < n → HasValue x s a 8
    → within x (fin false n (pos j)) ≡ leb a (8 * (n * 2 ^ j))
within-eighths nan s a n j some x-is = elim x-is [ ]
within-eighths (inf _) s a n j some x-is = elim x-is [ ]
within-eighths (fin t m e) s a n j some x-is =
    let c = down e in
    let y = n * 2 ^ j in
    let eight : 8 * y * c ≡ 8 * (y * c) = mul_assoc 8 y c in
    within-size n (pos j) some t m e
    ∙ leb-both (m * up e * 1) (y * c) a (8 * y) (λ h. le_of_mul-le-mul_right (omega (arith, x-is.1)) (down_pos e))
    (λ h. omega (arith, x-is.1, mul-le-mul_right c h))

-- k / 8, at most 960 or 540 in size
within-nearest : (k : ℤ) (n j : ℕ) → 0 < n → nat_abs k < 2 ^ 53
    → within (nearest k 8) (fin false n (pos j)) ≡ leb (nat_abs k) (8 * (n * 2 ^ j))
within-nearest k n j some small = within-eighths (nearest k 8) (negative k) (nat_abs k) n j some (value_of 3 k (lit≤ tt) small)

-- ---- a node

module _ (view : View) (level : ℕ) (place : ℤ) (fits : level < 2 ^ 16) (none : screen_number view place ≡ 0) where
  A : Accepted view place
  A = accepted view place none

  place_moderate : nat_abs place ≤ 4194304
  place_moderate = omega (arith, A.place-most)

  level_moderate : nat_abs (units_down level) ≤ 4194304
  level_moderate = omega arith

  pub across-small : nat_abs (eight_across view place) < 2 ^ 53
  across-small = eightfold-small place view.across view.zoom place_moderate A.across A.zoom

  pub down-small : nat_abs (eight_down view level) < 2 ^ 53
  down-small = eightfold-small (units_down level) view.down view.zoom level_moderate A.down A.zoom

  pub across-is : distance (of_int binary64 place) view.across view.zoom ≡ nearest (eight_across view place) 8
  across-is = distance_is place view.across view.zoom place_moderate A.across A.zoom

  pub down_is : distance (of_int binary64 (units_down level)) view.down view.zoom ≡ nearest (eight_down view level) 8
  down_is = distance_is (units_down level) view.down view.zoom level_moderate A.down A.zoom

  -- from the two distances and the tests of the edges to where the node is seen
  pub seen-is : (x y : Float) (u v t : Bool) → x ≡ distance (of_int binary64 place) view.across view.zoom
      → y ≡ distance (of_int binary64 (units_down level)) view.down view.zoom
      → u ≡ within x (fin false 15 (pos 6))
      → v ≡ within y (fin false 135 (pos 2))
      → (u && v) ≡ t → then_some t (at x y) ≡ seen_at view level place
  unfolding seen_at
  seen-is x y u v t x-is y-is u-is v-is e =
      let at_x : x ≡ nearest (eight_across view place) 8 = x-is ∙ across-is in
      let at_y : y ≡ nearest (eight_down view level) 8 = y-is ∙ down_is in
      let in-width : u ≡ leb (nat_abs (eight_across view place)) (8 * 960) =
      u-is ∙ ap (λ (z : Float). within z (fin false 15 (pos 6))) at_x ∙ within-nearest (eight_across view place) 15 6 (lit< tt) across-small
      in
      let in-height : v ≡ leb (nat_abs (eight_down view level)) (8 * 540) =
      v-is ∙ ap (λ (z : Float). within z (fin false 135 (pos 2))) at_y ∙ within-nearest (eight_down view level) 135 2 (lit< tt) down-small
      in
      ap₂ then_some (sym e ∙ ap₂ ◌&&◌ in-width in-height) (ap₂ at at_x at_y)
