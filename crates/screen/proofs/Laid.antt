-- No place that a layout gives is refused, plain or with an extra space: it is at most 1,569,792 and 511 times the extra space in size, which is
-- 2,093,056 at most. Assumes nothing.
use mathlib.Core.Path.{◌≡◌, refl, sym, ◌∙◌}
use mathlib.Core.Bool.{Bool, true, false, not, cond}
use mathlib.Core.List.{List}
use Prim.Native.Nat.{ℕ, ◌<◌}
use native.Mathlib.Omega.{arith}
use lib.IntN.{nat_abs}
use borrow.Author.Tests.{le-leb}
use Rattle.tree.specs.Table.{nodes}
use Rattle.rule.specs.Result.{Slices, Answer}
use Rattle.layout.proofs.Returned.{Call, place_of, near-returned}
use Rattle.screen.specs.Screen.{is_zoom, is_centre, in_range, screen_number, OnScreenValues}
use Rattle.screen.specs.declared.View.{View}
use Rattle.screen.specs.declared.Values.{Values}
use Rattle.screen.proofs.Conditions.{number_is}
use Rattle.screen.proofs.Returned.{number-returned}

module _ {t : List ℕ} {D : ℕ} {hs : List ℕ} {extra : ℕ} {s : Slices} {a : Answer} {u : Slices} (C : Call t D hs extra s a u) where
  pub laid-in_range : (v : ℕ) → v < nodes t → in_range (place_of u v) ≡ true
  unfolding in_range
  laid-in_range v h = le-leb (nat_abs (place_of u v)) _ (omega (arith, near-returned C v h, C.given.little))

  -- by a view whose centres pass, such a place does not give 19
  module _ (view : View) (across : is_centre view.across ≡ true) (down : is_centre view.down ≡ true) (v : ℕ) (h : v < nodes t) where
    laid-number : screen_number view (place_of u v) ≡ 19 → ⊥
    laid-number e =
        other (is_zoom view.zoom)
        (number_is view (place_of u v) (is_zoom view.zoom) true true true refl (sym across) (sym down) (sym (laid-in_range v h)) ∙ e)
      where
        other : (z : Bool) → ◌≡◌ {A = ℕ} (cond (not z) 18 0) 19 → ⊥
        other true e = omega arith
        other false e = omega arith

    -- of a call, in the values that it gives
    pub never_nineteen : (level : ℕ) (w : Values) → OnScreenValues view level (place_of u v) w → w.number ≡ 19 → ⊥
    never_nineteen level w S e = laid-number (sym (number-returned view level (place_of u v) w S) ∙ e)
