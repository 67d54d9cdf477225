-- What a call returns: of an accepted one, which numbers the distances are and when a node is on screen; of a refused one, off. Assumes
-- nothing.
use mathlib.Core.Path.{◌≡◌, refl, sym, ap, ap₂, ◌∙◌}
use mathlib.Core.Logic.{⊎_elim}
use Rattle.std.specs.Prelude.{Option, Some, None}
use Rattle.std.specs.Bool.{then_some}
use mathlib.Core.Bool.{Bool, true, false, ◌&&◌}
use Prim.Native.Nat.{ℕ, ◌*◌, ◌^◌, ◌≤◌, ◌<◌}
use native.Mathlib.Omega.{arith}
use lib.Dec.{leb, lit≤}
use lib.IntN.{ℤ, nat_abs, ◌-ℤ◌}
use lib.Ieee.{Float, binary64, of_int}
use borrow.Author.Tests.{leb-true, le-leb}
use Rattle.refusal.proofs.After.{granted-accepted, granted-refused}
use Rattle.refusal.proofs.Truth.{true-or-false, and_left, and_right}
use Rattle.screen.specs.Fraction.{whole_part, nearest}
use Rattle.screen.specs.Screen.{screen_number, units_down, eightfold, eight_across, eight_down, at, seen_at, answer, Judged, OnScreen, OnScreenValues, values_of, distance, Exactly}
use Rattle.screen.specs.declared.View.{View}
use Rattle.screen.specs.declared.Seen.{Seen}
use Rattle.screen.specs.declared.Values.{Values}
use Rattle.screen.proofs.Exact.{of_whole, mul-eight, equals_of, equals-nearest}
use Rattle.screen.proofs.Conditions.{part_of, ZoomIs, CentreIs, Accepted, accepted}
use Rattle.screen.proofs.Distances.{less-small, eightfold-small, difference-is, distance_is, across-is, down_is}

-- ---- one distance

module _ (unit : ℤ) (centre zoom : Float) (moderate : nat_abs unit ≤ 4194304) (C : CentreIs centre) (Z : ZoomIs zoom) where
  pub exactly : Exactly unit centre zoom
  exactly =
      let less = unit -ℤ whole_part 1 centre in
      let eights = eightfold unit centre zoom in
      let small = eightfold-small unit centre zoom moderate C Z in
      let at = distance_is unit centre zoom moderate C Z in
      record {
        unit_is = rw (of_whole unit) (equals-nearest 0 unit (lit≤ tt) (omega arith));
        centre-is = rw (part_of centre C.sign C.size 1 C.value) (equals_of centre C.sign C.size 1 C.value);
        zoom-is = rw (part_of zoom false Z.eighths 8 Z.value) (equals_of zoom false Z.eighths 8 Z.value);
        difference-is = rw (difference-is unit centre zoom moderate C Z) (equals-nearest 0 less (lit≤ tt) (less-small unit centre zoom moderate C Z));
        distance_is = rw at (equals-nearest 3 eights (lit≤ tt) small);
        eight-times-is = rw (at, mul-eight eights small) (equals-nearest 0 eights (lit≤ tt) small);
      }

-- ---- a call

-- at most 960 across and 540 down, in eighths
pub record Inside (x y : ℤ) : Type 0 where
  pub across : nat_abs x ≤ 8 * 960
  pub down : nat_abs y ≤ 8 * 540

-- what `on_screen` answers, in its values
pub told : (view : View) (level : ℕ) (place : ℤ) (r : Judged) → OnScreen view level place r → OnScreenValues view level place (values_of r.number r.seen)
told view level place r S = record { values = ap₂ values_of S.number S.seen }

module _ (view : View) (level : ℕ) (place : ℤ) (v : Values) (S : OnScreenValues view level place v) where
  number-kept : (k : ℕ) (s : Option Seen) → (values_of k s).number ≡ k
  number-kept k (Some s) = refl
  number-kept k None = refl

  pub number-returned : v.number ≡ screen_number view place
  number-returned = ap (λ (w : Values). w.number) S.values ∙ number-kept (screen_number view place) (answer view level place)

  -- a refusal carries off
  pub refused-returned : (v.number ≡ 0 → ⊥) → v ≡ values_of v.number None
  refused-returned not-0 =
      S.values ∙ ap₂ values_of (sym number-returned) (granted-refused (screen_number view place) (seen_at view level place) None (λ e. not-0 (number-returned ∙ e)))

  module _ (fits : level < 2 ^ 16) (accepted-call : v.number ≡ 0) where
    none : screen_number view place ≡ 0
    none = sym number-returned ∙ accepted-call

    A : Accepted view place
    A = accepted view place none

    -- on screen or off, the distances are exactly these
    pub across-exact : Exactly place view.across view.zoom
    across-exact = exactly place view.across view.zoom (omega (arith, A.place-most)) A.across A.zoom

    pub down-exact : Exactly (units_down level) view.down view.zoom
    down-exact = exactly (units_down level) view.down view.zoom (omega arith) A.down A.zoom

    abbrev pub X : ℤ
    X = eight_across view place

    abbrev pub Y : ℤ
    Y = eight_down view level

    -- the two edges decide
    tested : (t : Bool) → (leb (nat_abs X) (8 * 960) && leb (nat_abs Y) (8 * 540)) ≡ t → v ≡ values_of 0 (then_some t (at (nearest X 8) (nearest Y 8)))
    unfolding seen_at
    tested t e =
        S.values
        ∙ ap₂ values_of none (granted-accepted (screen_number view place) (seen_at view level place) None none ∙ ap (λ (b : Bool). then_some b (at (nearest X 8) (nearest Y 8))) e)

    -- on where they are inside the edges, with the distances as values
    pub on-returned : Inside X Y
        → v ≡ values_of 0 (Some (at (distance (of_int binary64 place) view.across view.zoom) (distance (of_int binary64 (units_down level)) view.down view.zoom)))
    on-returned inside =
        tested true (ap₂ ◌&&◌ (le-leb (nat_abs X) (8 * 960) inside.across) (le-leb (nat_abs Y) (8 * 540) inside.down))
        ∙ ap₂ (λ (x y : Float). values_of 0 (Some (at x y))) (sym (across-is view level place fits none)) (sym (down_is view level place fits none))

    inside_edges_lem : (leb (nat_abs X) (8 * 960) && leb (nat_abs Y) (8 * 540)) ≡ true → Inside X Y
    inside_edges_lem e =
        record {
          across = leb-true (nat_abs X) (8 * 960) (and_left (leb (nat_abs X) (8 * 960)) (leb (nat_abs Y) (8 * 540)) e);
          down = leb-true (nat_abs Y) (8 * 540) (and_right (leb (nat_abs X) (8 * 960)) (leb (nat_abs Y) (8 * 540)) e);
        }

    -- and off where they are not
    pub off-returned : (Inside X Y → ⊥) → v ≡ values_of 0 None
    off-returned outside =
        ⊎_elim (λ e. absurd (outside (inside_edges_lem e))) (λ e. tested false e) (true-or-false (leb (nat_abs X) (8 * 960) && leb (nat_abs Y) (8 * 540)))
