-- The paper's listing, a refusal, and numbers at the ends of their ranges, all by computation. Assumes nothing.
use mathlib.Core.Path.{◌≡◌, refl}
use Prim.Native.Nat.{ℕ}
use mathlib.Core.List.{List, [], ◌∷◌, ◌++◌}
use lib.IntN.{ℤ, pos, negsuc}
use Rattle.lines.specs.Decimal.{decimal_within, decimal, signed_decimal}
use Rattle.lines.specs.Listing.{sheet_line, node_line, node_lines, listing, refused_line}

-- the root with tape 500 and its leaves 501 and 502, D = 3: levels, places, and tape numbers as low word and high word
abbrev pub levels : List ℕ
levels = 0 ∷ 1 ∷ 1 ∷ []

abbrev pub places : List ℤ
places = pos 0 ∷ negsuc 0 ∷ pos 2 ∷ []

abbrev pub tapes : List ℕ
tapes = 500 ∷ 0 ∷ 501 ∷ 0 ∷ 502 ∷ 0 ∷ []

-- `sheet 3 2 3 -1 2`
abbrev pub first_line : List ℕ
first_line = 115 ∷ 104 ∷ 101 ∷ 101 ∷ 116 ∷ 32 ∷ 51 ∷ 32 ∷ 50 ∷ 32 ∷ 51 ∷ 32 ∷ 45 ∷ 49 ∷ 32 ∷ 50 ∷ 10 ∷ []

-- `0 0 0 500`
abbrev pub root_line : List ℕ
root_line = 48 ∷ 32 ∷ 48 ∷ 32 ∷ 48 ∷ 32 ∷ 53 ∷ 48 ∷ 48 ∷ 10 ∷ []

-- `1 1 -1 501`
abbrev pub left_line : List ℕ
left_line = 49 ∷ 32 ∷ 49 ∷ 32 ∷ 45 ∷ 49 ∷ 32 ∷ 53 ∷ 48 ∷ 49 ∷ 10 ∷ []

-- `2 1 2 502`
abbrev pub right_line : List ℕ
right_line = 50 ∷ 32 ∷ 49 ∷ 32 ∷ 50 ∷ 32 ∷ 53 ∷ 48 ∷ 50 ∷ 10 ∷ []

pub example_listing : listing 3 2 3 (negsuc 0) (pos 2) levels places tapes ≡ first_line ++ (root_line ++ (left_line ++ right_line))
unfolding decimal_within decimal signed_decimal sheet_line node_line node_lines
example_listing = refl

-- `refused 12`
pub example_refusal : refused_line 12 ≡ 114 ∷ 101 ∷ 102 ∷ 117 ∷ 115 ∷ 101 ∷ 100 ∷ 32 ∷ 49 ∷ 50 ∷ 10 ∷ []
unfolding decimal_within decimal refused_line
example_refusal = refl

-- `0`, `4294967295`, `2147483647` and `-2147483648`
pub range_ends : (decimal 0 ≡ 48 ∷ [])
    × (decimal 4294967295 ≡ 52 ∷ 50 ∷ 57 ∷ 52 ∷ 57 ∷ 54 ∷ 55 ∷ 50 ∷ 57 ∷ 53 ∷ [])
    × (signed_decimal (pos 2147483647) ≡ 50 ∷ 49 ∷ 52 ∷ 55 ∷ 52 ∷ 56 ∷ 51 ∷ 54 ∷ 52 ∷ 55 ∷ [])
    × (signed_decimal (negsuc 2147483647) ≡ 45 ∷ 50 ∷ 49 ∷ 52 ∷ 55 ∷ 52 ∷ 56 ∷ 51 ∷ 54 ∷ 52 ∷ 56 ∷ [])
unfolding decimal_within decimal signed_decimal
range_ends = (refl, refl, refl, refl)
