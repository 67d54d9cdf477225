-- A view of the studio screen, and where it shows a node.
use Rattle.std.specs.Prelude.{◌≡◌, Bool, false, not, ◌&&◌, ◌||◌, [], ◌∷◌, ℕ, ◌*◌, leb, ℤ, pos, ◌-ℤ◌, ◌*ℤ◌, nat_abs, Float, Option, Some, None, Result}
use Rattle.std.specs.Bool.{then_some}
use Rattle.std.specs.Float.{fin, binary64}
use Rattle.std.specs.Float.Ieee.{sub, mul, of_int}
use Rattle.refusal.specs.First.{◌⇐◌, first}
use Rattle.refusal.specs.After.{granted}
use Rattle.refusal.specs.Number.{number_of, given}
use Rattle.refusal.specs.declared.Refusal.{Refusal}
use Rattle.screen.specs.Fraction.{Equals, equals, is_whole, whole_part, nearest}
use Rattle.screen.specs.declared.View.{View}
use Rattle.screen.specs.declared.Seen.{Seen}
use Rattle.screen.specs.declared.Values.{Values}

-- ---- what is refused

unfoldable pub is_zoom : Float → Bool
is_zoom z = equals z 1 8 || equals z 1 4 || equals z 1 2 || equals z 1 1 || equals z 2 1 || equals z 4 1 || equals z 8 1

-- a centre is a whole number of at most 2,097,152 in size, and so is a place
unfoldable pub is_centre : Float → Bool
is_centre = is_whole 2097152

unfoldable pub in_range : ℤ → Bool
in_range place = leb (nat_abs place) 2097152

-- 18: the zoom is none of the seven; 19: a centre or the place is out of range
unfoldable pub screen_number : View → ℤ → ℕ
screen_number view place =
    first (18 ⇐ not (is_zoom view.zoom) ∷ 19 ⇐ not (is_centre view.across && is_centre view.down && in_range place) ∷ [])

-- ---- where a node is seen

-- the root stands at 0 down, each level 64 units under the one above
abbrev pub units_down : ℕ → ℤ
units_down level = pos (64 * level)

-- eight times a distance from the middle: unit place less centre, times zoom
abbrev pub eightfold : ℤ → Float → Float → ℤ
eightfold unit centre zoom = (unit -ℤ whole_part 1 centre) *ℤ whole_part 8 zoom

abbrev pub eight_across : View → ℤ → ℤ
eight_across view place = eightfold place view.across view.zoom

abbrev pub eight_down : View → ℕ → ℤ
eight_down view level = eightfold (units_down level) view.down view.zoom

-- at most 960 across and 540 down, either way from the middle
unfoldable pub inside_edges : View → ℕ → ℤ → Bool
inside_edges view level place = leb (nat_abs (eight_across view place)) (8 * 960) && leb (nat_abs (eight_down view level)) (8 * 540)

-- at these distances from the middle
abbrev pub at : Float → Float → Seen
at x y = record { across = x; down = y }

-- None: off
unfoldable pub seen_at : View → ℕ → ℤ → Option Seen
unfolding inside_edges
seen_at view level place = then_some (inside_edges view level place) (at (nearest (eight_across view place) 8) (nearest (eight_down view level) 8))

-- a refusal carries off
abbrev pub answer : View → ℕ → ℤ → Option Seen
answer view level place = granted (screen_number view place) (seen_at view level place) None

pub record Judged : Type 0 where
  pub number : ℕ
  pub seen : Option Seen

abbrev pub answer_of : Result (Option Seen) Refusal → Judged
answer_of result = record { number = number_of result; seen = given None result }

-- what a call gives
pub record OnScreen (view : View) (level : ℕ) (place : ℤ) (r : Judged) : Type 0 where
  pub number : r.number ≡ screen_number view place
  pub seen : r.seen ≡ answer view level place

-- the number and the values of each case of the answer: 1 and the two distances, or 0, 0.0 and 0.0
abbrev pub values_of : ℕ → Option Seen → Values
values_of number (Some seen) = record { number = number; on = 1; across = seen.across; down = seen.down }
values_of number None = record { number = number; on = 0; across = fin false 0 (pos 0); down = fin false 0 (pos 0) }

-- what a call gives, in these
pub record OnScreenValues (view : View) (level : ℕ) (place : ℤ) (v : Values) : Type 0 where
  pub values : v ≡ values_of (screen_number view place) (answer view level place)

-- ---- a distance as it is taken, in f64

abbrev pub distance : Float → Float → Float → Float
distance unit centre zoom = mul binary64 (sub binary64 unit centre) zoom

-- On the way to a distance nothing is rounded: unit place, centre and zoom are these numbers, difference and distance are theirs, and eight
-- times the distance is a whole number.
pub record Exactly (unit : ℤ) (centre zoom : Float) : Type 0 where
  pub unit_is : Equals (of_int binary64 unit) unit 1
  pub centre-is : Equals centre (whole_part 1 centre) 1
  pub zoom-is : Equals zoom (whole_part 8 zoom) 8
  pub difference-is : Equals (sub binary64 (of_int binary64 unit) centre) (unit -ℤ whole_part 1 centre) 1
  pub distance_is : Equals (distance (of_int binary64 unit) centre zoom) (eightfold unit centre zoom) 8
  pub eight-times-is : Equals (mul binary64 (distance (of_int binary64 unit) centre zoom) (fin false 1 (pos 3))) (eightfold unit centre zoom) 1
