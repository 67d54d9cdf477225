-- What the conditions say: of an accepted view the centres are whole numbers and the zoom is a whole number of eighths. Assumes nothing.
use mathlib.Core.Path.{◌≡◌, refl, sym, ap, ap₂, ◌∙◌}
use mathlib.Core.Bool.{Bool, true, false, not, ◌&&◌, ◌||◌, cond, false≢true}
use mathlib.Core.List.{[], ◌∷◌}
use Prim.Native.Nat.{ℕ, ◌*◌, ◌/◌, ◌%◌, ◌≤◌, ◌<◌}
use native.Mathlib.Nat.{mul_assoc, mul_right_comm, mul-div_cancel}
use native.Mathlib.Omega.{arith}
use lib.Dec.{leb, eqb, lit<, lit≤}
use lib.IntN.{ℤ, nat_abs}
use lib.Ieee.{Float, nan, inf, fin, up, down}
use lib.Ieee.Fits.{down_pos}
use lib.Ieee.Exact.{HasValue}
use borrow.Author.Tests.{leb-true, eqb-true, not-true, not-false}
use Rattle.refusal.specs.First.{◌⇐◌}
use Rattle.refusal.proofs.Truth.{and_left, and_right}
use Rattle.refusal.proofs.Laws.{first-none}
use Rattle.screen.specs.Fraction.{signed, equals, whole_part}
use Rattle.screen.specs.Screen.{is_zoom, is_centre, in_range, screen_number}
use Rattle.screen.specs.declared.View.{View}
use Rattle.screen.proofs.Whole.{whole-value, whole-most}

-- the part before the point, of a float that is a / d in size
pub part_of : (x : Float) (s : Bool) (a d : ℕ) → HasValue x s a d → whole_part d x ≡ signed s a
part_of nan s a d x-is = elim x-is [ ]
part_of (inf _) s a d x-is = elim x-is [ ]
part_of (fin t m e) s a d x-is = ap₂ (λ (t : Bool) (p : ℕ). signed t (p / down e)) x-is.0 x-is.1 ∙ ap (signed s) (mul-div_cancel a (down_pos e))

-- ---- the zoom

pub record ZoomIs (z : Float) : Type 0 where
  pub eighths : ℕ
  pub some : 0 < eighths
  pub most : eighths ≤ 64
  pub value : HasValue z false eighths 8

-- a / b is a * k eighths, where k * b is 8
in_eighths : (z : Float) (a b k : ℕ) → b * k ≡ 8 → 0 < a * k → a * k ≤ 64 → equals z a b ≡ true → ZoomIs z
in_eighths nan a b k whole some most e = absurd (false≢true e)
in_eighths (inf s) a b k whole some most e = absurd (false≢true e)
in_eighths (fin s m d) a b k whole some most e =
    record {
      eighths = a * k;
      some = some;
      most = most;
      value = (
        not-true s (and_left (not s) (eqb (m * up d * b) (a * down d)) e),
        ap (λ (n : ℕ). m * up d * n) (sym whole)
            ∙ sym (mul_assoc (m * up d) b k)
            ∙ ap (λ (n : ℕ). n * k) (eqb-true (m * up d * b) (a * down d) (and_right (not s) (eqb (m * up d * b) (a * down d)) e))
            ∙ mul_right_comm a (down d) k,
      );
    }

either : {A : Type 0} {a b : Bool} → (a ≡ true → A) → (b ≡ true → A) → (a || b) ≡ true → A
either {a = true} f g e = f refl
either {a = false} f g e = g e

pub zoom-is : (z : Float) → is_zoom z ≡ true → ZoomIs z
unfolding is_zoom
zoom-is z =
    either
    (either
    (either
    (either
    (either (either (in_eighths z 1 8 1 refl (lit< tt) (lit≤ tt)) (in_eighths z 1 4 2 refl (lit< tt) (lit≤ tt))) (in_eighths z 1 2 4 refl (lit< tt) (lit≤ tt)))
    (in_eighths z 1 1 8 refl (lit< tt) (lit≤ tt)))
    (in_eighths z 2 1 8 refl (lit< tt) (lit≤ tt)))
    (in_eighths z 4 1 8 refl (lit< tt) (lit≤ tt)))
    (in_eighths z 8 1 8 refl (lit< tt) (lit≤ tt))

-- ---- a centre

pub record CentreIs (x : Float) : Type 0 where
  pub sign : Bool
  pub size : ℕ
  pub most : size ≤ 2097152
  pub value : HasValue x sign size 1

pub centre-is : (x : Float) → is_centre x ≡ true → CentreIs x
unfolding is_centre
centre-is nan e = absurd (false≢true e)
centre-is (inf s) e = absurd (false≢true e)
centre-is (fin s m d) e =
    record {
      sign = s;
      size = m * up d / down d;
      most = whole-most m d 2097152 (leb-true (m * up d) (2097152 * down d) (and_left (leb (m * up d) (2097152 * down d)) (eqb (m * up d % down d) 0) e));
      value = whole-value s m d (eqb-true (m * up d % down d) 0 (and_right (leb (m * up d) (2097152 * down d)) (eqb (m * up d % down d) 0) e));
    }

-- ---- the number

module _ (view : View) (place : ℤ) where
  -- from the four tests
  pub number_is : (z a d p : Bool) → z ≡ is_zoom view.zoom → a ≡ is_centre view.across → d ≡ is_centre view.down → p ≡ in_range place
      → cond (not z) 18 (cond (not (a && d && p)) 19 0) ≡ screen_number view place
  unfolding screen_number
  number_is z a d p ez ea ed ep = cc

  pub record Accepted : Type 0 where
    pub zoom : ZoomIs view.zoom
    pub across : CentreIs view.across
    pub down : CentreIs view.down
    pub place-most : nat_abs place ≤ 2097152

  pub accepted : screen_number view place ≡ 0 → Accepted
  unfolding screen_number in_range
  accepted e =
      let none = first-none (18 ⇐ not (is_zoom view.zoom) ∷ 19 ⇐ not (is_centre view.across && is_centre view.down && in_range place) ∷ [])
      ((λ z. omega arith), ((λ z. omega arith), tt)) e
      in
      let all = not-false (is_centre view.across && is_centre view.down && in_range place) none.1.0 in
      let centres = and_left (is_centre view.across && is_centre view.down) (in_range place) all in
      record {
        zoom = zoom-is view.zoom (not-false (is_zoom view.zoom) none.0);
        across = centre-is view.across (and_left (is_centre view.across) (is_centre view.down) centres);
        down = centre-is view.down (and_right (is_centre view.across) (is_centre view.down) centres);
        place-most = omega (arith, leb-true (nat_abs place) _ (and_right (is_centre view.across && is_centre view.down) (in_range place) all));
      }
