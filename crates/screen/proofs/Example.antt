-- Floats of every kind by their bit patterns, as zoom and as centre, and calls at the edges. By computation. Assumes nothing.
use mathlib.Core.Path.{◌≡◌, refl}
use Rattle.std.specs.Prelude.{Some, None}
use mathlib.Core.Bool.{Bool, true, false}
use mathlib.Core.List.{List, [], ◌∷◌, map}
use Prim.Native.Nat.{ℕ}
use lib.IntN.{ℤ, pos, negsuc}
use lib.Ieee.{Float, nan, fin, binary64, of_bits, round}
use Rattle.screen.specs.Fraction.{nearest}
use Rattle.screen.specs.Screen.{is_zoom, is_centre, in_range, screen_number, at, seen_at, answer, values_of}
use Rattle.screen.specs.declared.View.{View}
use Rattle.screen.specs.declared.Values.{Values}

-- ---- floats by their bits, and whether they are taken

pub record Tried : Type 0 where
  pub bits : ℕ
  pub taken : Bool

infix 70 ◌is◌
abbrev ◌is◌ : ℕ → Bool → Tried
b is t = record { bits = b; taken = t }

abbrev Told : (Float → Bool) → List Tried → Type 0
Told test cs = map (λ c. test (of_bits binary64 c.bits)) cs ≡ map (λ c. c.taken) cs

-- the seven; 1/16, 16, 3, -1 and 0; the floats beside 1; two NaNs, and infinity
pub zooms : Told is_zoom
    (0x3fc0_0000_0000_0000 is true
    ∷ 0x3fd0_0000_0000_0000 is true
    ∷ 0x3fe0_0000_0000_0000 is true
    ∷ 0x3ff0_0000_0000_0000 is true
    ∷ 0x4000_0000_0000_0000 is true
    ∷ 0x4010_0000_0000_0000 is true
    ∷ 0x4020_0000_0000_0000 is true
    ∷ 0x3fb0_0000_0000_0000 is false
    ∷ 0x4030_0000_0000_0000 is false
    ∷ 0x4008_0000_0000_0000 is false
    ∷ 0xbff0_0000_0000_0000 is false
    ∷ 0x0000_0000_0000_0000 is false
    ∷ 0x3fef_ffff_ffff_ffff is false
    ∷ 0x3ff0_0000_0000_0001 is false
    ∷ 0x7ff8_0000_0000_0000 is false
    ∷ 0x7ff0_0000_0000_0001 is false
    ∷ 0x7ff0_0000_0000_0000 is false
    ∷ [])
unfolding is_zoom of_bits
zooms = refl

-- 0, -0, 1, 2,097,152 and -2,097,152; 1/2; the floats beside 1; the floats beside 2,097,152, the next one still a fraction; 2,097,153 and
-- -2,097,153; the smallest and the largest float; two NaNs, and both infinities
pub centres : Told is_centre
    (0x0000_0000_0000_0000 is true
    ∷ 0x8000_0000_0000_0000 is true
    ∷ 0x3ff0_0000_0000_0000 is true
    ∷ 0x4140_0000_0000_0000 is true
    ∷ 0xc140_0000_0000_0000 is true
    ∷ 0x3fe0_0000_0000_0000 is false
    ∷ 0x3fef_ffff_ffff_ffff is false
    ∷ 0x3ff0_0000_0000_0001 is false
    ∷ 0x413f_ffff_ffff_ffff is false
    ∷ 0x4140_0000_0000_0001 is false
    ∷ 0x4140_0000_8000_0000 is false
    ∷ 0xc140_0000_8000_0000 is false
    ∷ 0x0000_0000_0000_0001 is false
    ∷ 0x7fef_ffff_ffff_ffff is false
    ∷ 0x7ff8_0000_0000_0000 is false
    ∷ 0xfff0_0000_0000_0001 is false
    ∷ 0x7ff0_0000_0000_0000 is false
    ∷ 0xfff0_0000_0000_0000 is false
    ∷ [])
unfolding is_centre of_bits
centres = refl

-- ---- calls: both centres, zoom, level and place; and what they give

pub record Call : Type 0 where
  pub view : View
  pub level : ℕ
  pub place : ℤ
  pub values : Values

abbrev call : Float → Float → Float → ℕ → ℤ → Values → Call
call x y z l p v = record { view = record { across = x; down = y; zoom = z }; level = l; place = p; values = v }

abbrev Given : List Call → Type 0
Given cs =
    map (λ c. values_of (screen_number c.view c.place) (answer c.view c.level c.place)) cs ≡ map (λ c. c.values) cs

abbrev whole : ℤ → Float
whole k = nearest k 1

abbrev minus_zero : Float
minus_zero = fin true 0 (pos 0)

abbrev half : Float
half = fin false 1 (negsuc 0)

abbrev eighth : Float
eighth = fin false 1 (negsuc 2)

abbrev one : Float
one = fin false 1 (pos 0)

abbrev eight : Float
eight = fin false 1 (pos 3)

abbrev sixteen : Float
sixteen = fin false 1 (pos 4)

-- on screen, so many eighths from the middle; and off
abbrev on : ℤ → ℤ → Values
on x y = values_of 0 (Some (at (nearest x 8) (nearest y 8)))

abbrev off : ℕ → Values
off k = values_of k None

-- the edges across, and one unit past them; the edges down; an eighth past the edge, and a unit of eight; seven eighths left of the middle and
-- above it, and centres that are -0, of which no distance is -0; the farthest centres, places and levels; 18 first, and then 19
pub calls : Given
    (call (whole (pos 0)) (whole (pos 0)) one 0 (pos 960) (on (pos 7680) (pos 0))
    ∷ call (whole (pos 0)) (whole (pos 0)) one 0 (pos 961) (off 0)
    ∷ call (whole (pos 0)) (whole (pos 0)) one 0 (negsuc 959) (on (negsuc 7679) (pos 0))
    ∷ call (whole (pos 0)) (whole (pos 0)) one 0 (negsuc 960) (off 0)
    ∷ call (whole (pos 0)) (whole (pos 36)) one 9 (pos 0) (on (pos 0) (pos 4320))
    ∷ call (whole (pos 0)) (whole (pos 35)) one 9 (pos 0) (off 0)
    ∷ call (whole (pos 0)) (whole (pos 540)) one 0 (pos 0) (on (pos 0) (negsuc 4319))
    ∷ call (whole (pos 0)) (whole (pos 541)) one 0 (pos 0) (off 0)
    ∷ call (whole (pos 0)) (whole (pos 0)) eighth 0 (pos 7680) (on (pos 7680) (pos 0))
    ∷ call (whole (pos 0)) (whole (pos 0)) eighth 0 (pos 7681) (off 0)
    ∷ call (whole (pos 0)) (whole (pos 0)) eight 0 (pos 120) (on (pos 7680) (pos 0))
    ∷ call (whole (pos 0)) (whole (pos 0)) eight 0 (pos 121) (off 0)
    ∷ call (whole (pos 4)) (whole (pos 7)) eighth 0 (negsuc 2) (on (negsuc 6) (negsuc 6))
    ∷ call minus_zero minus_zero one 0 (pos 0) (on (pos 0) (pos 0))
    ∷ call (whole (pos 2097152)) (whole (pos 0)) eight 0 (pos 2097152) (on (pos 0) (pos 0))
    ∷ call (whole (negsuc 2097151)) (whole (pos 0)) eight 0 (negsuc 2097151) (on (pos 0) (pos 0))
    ∷ call (whole (pos 2097152)) (whole (pos 0)) eighth 0 (negsuc 2097151) (off 0)
    ∷ call (whole (pos 0)) (whole (pos 2097152)) one 32768 (pos 0) (on (pos 0) (pos 0))
    ∷ call (whole (pos 0)) (whole (pos 0)) one 65535 (pos 0) (off 0)
    ∷ call half (whole (pos 0)) sixteen 0 (pos 2097153) (off 18)
    ∷ call (whole (pos 0)) (whole (pos 0)) nan 0 (pos 0) (off 18)
    ∷ call (whole (pos 0)) (whole (pos 0)) one 0 (pos 2097153) (off 19)
    ∷ call (whole (pos 0)) (whole (pos 0)) one 0 (negsuc 2097152) (off 19)
    ∷ call half (whole (pos 0)) one 0 (pos 0) (off 19)
    ∷ call (whole (pos 0)) nan one 0 (pos 0) (off 19)
    ∷ [])
unfolding is_zoom is_centre in_range screen_number seen_at round
calls = refl
