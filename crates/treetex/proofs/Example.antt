-- Binary trees of seven and of fifteen nodes with an extra space, by computation; a node that is not significant; and the order of the numbers.
-- Assumes nothing.
use mathlib.Core.Path.{◌≡◌, refl}
use mathlib.Core.List.{List, [], ◌∷◌}
use Prim.Native.Nat.{ℕ, ◌*◌}
use lib.IntN.{ℤ, pos, negsuc}
use lib.ListN.{replicate}
use Rattle.distance.specs.Needed.{needed, bad_separation, bad_half_widths}
use Rattle.tree.specs.Table.{none}
use Rattle.tree.specs.Forest.{forest, tree_of}
use Rattle.tree.specs.Levels.{children_of}
use Rattle.tree.specs.WellFormed.{bad_length, bad_entry, root_has_sibling, named_twice, unnamed, not_reached, table_conditions}
use Rattle.rule.specs.Join.{evenly, added, spaced}
use Rattle.rule.specs.Rule.{drawn}
use Rattle.rule.specs.Result.{Slices, place, places_of, short_results, short_work}
use Rattle.treetex.specs.TreeTeX.{three_children, bad_extra, treetex_number}

-- the root, two children, and two leaves below each, numbered as by Renumber
unfoldable pub seven : List ℕ
seven = 1 ∷ none ∷ 2 ∷ 4 ∷ none ∷ 3 ∷ none ∷ none ∷ 5 ∷ none ∷ none ∷ 6 ∷ none ∷ none ∷ []

-- the places under a separation of 2, with half-widths 0
abbrev places : List ℕ → ℕ → List ℤ
places t extra = places_of (spaced (needed 2 []) extra) t

-- The leaves 3 and 5 meet: a conflict of 2 below the children's own level. So the root is significant, and node 4 stands 4 + E right of node 1.
-- Nodes 1 and 4 are not: their leaves have no level below.
pub plain-places : places seven 0 ≡ pos 0 ∷ negsuc 1 ∷ negsuc 2 ∷ negsuc 0 ∷ pos 2 ∷ pos 1 ∷ pos 3 ∷ []
unfolding seven forest tree_of evenly added drawn place places_of
plain-places = refl

pub spaced-places : places seven 3 ≡ pos 0 ∷ negsuc 2 ∷ negsuc 3 ∷ negsuc 1 ∷ pos 4 ∷ pos 3 ∷ pos 5 ∷ []
unfolding seven forest tree_of evenly added drawn place places_of
spaced-places = refl

-- Two such trees below one root meet on two levels, by 7 and by 2: E is added once, and node 8 stands 2 + 7 + 2 + E right of node 1.
pub fifteen : List ℕ
fifteen =
    1 ∷ none ∷ 2 ∷ 8 ∷ 3 ∷ 5 ∷ none ∷ 4 ∷ none ∷ none ∷ 6 ∷ none ∷ none ∷ 7 ∷ none ∷ none
    ∷ 9 ∷ none ∷ 10 ∷ 12 ∷ none ∷ 11 ∷ none ∷ none ∷ 13 ∷ none ∷ none ∷ 14 ∷ none ∷ none ∷ []

pub added-once : places fifteen 3
    ≡ pos 0 ∷ negsuc 6 ∷ negsuc 9 ∷ negsuc 10 ∷ negsuc 8 ∷ negsuc 2 ∷ negsuc 3 ∷ negsuc 1 ∷ pos 7 ∷ pos 4 ∷ pos 3 ∷ pos 5 ∷ pos 11 ∷ pos 10 ∷ pos 12 ∷ []
unfolding fifteen forest tree_of evenly added drawn place places_of
added-once = refl

-- Two chains side by side do not meet: nothing is added.
pub chains : List ℕ
chains = 1 ∷ none ∷ 2 ∷ 3 ∷ none ∷ none ∷ 4 ∷ none ∷ none ∷ none ∷ []

pub chains-places : places chains 3 ≡ places chains 0
unfolding chains forest tree_of evenly added drawn place places_of
chains-places = refl

-- ---- the order of the numbers

-- results for m nodes, and w working entries
pub room : ℕ → ℕ → Slices
room m w = record { places = replicate m (pos 9); levels = replicate m 9; the_record = replicate (2 * m) 9; work = replicate w (pos 9) }

-- a root with two leaves, and with three
pub two : List ℕ
two = 1 ∷ none ∷ none ∷ 2 ∷ none ∷ none ∷ []

pub three : List ℕ
three = 1 ∷ none ∷ none ∷ 2 ∷ none ∷ 3 ∷ none ∷ none ∷ []

-- each of 23, 6, 17, 24, 7 and 8 with all that come after it, then none: E = 1,024 is taken, and three children are not
pub numbers : (treetex_number three 0 [] 1025 (room 0 0) ≡ 23) × (treetex_number two 0 [] 1025 (room 0 0) ≡ 6) × (treetex_number two 1 [] 1025 (room 0 0) ≡ 17)
    × (treetex_number two 1 (256 ∷ 256 ∷ 256 ∷ []) 1025 (room 0 0) ≡ 24) × (treetex_number two 1 (256 ∷ 256 ∷ 256 ∷ []) 1024 (room 0 0) ≡ 7)
    × (treetex_number two 1 (256 ∷ 256 ∷ 256 ∷ []) 1024 (room 3 47) ≡ 8) × (treetex_number two 1 (256 ∷ 256 ∷ 256 ∷ []) 1024 (room 3 48) ≡ 0)
    × (treetex_number three 1 (0 ∷ 0 ∷ 0 ∷ 0 ∷ []) 0 (room 4 64) ≡ 23)
unfolding room two three forest tree_of children_of bad_length bad_entry root_has_sibling named_twice unnamed not_reached table_conditions three_children bad_separation bad_half_widths bad_extra short_results short_work treetex_number
numbers = (refl, refl, refl, refl, refl, refl, refl, refl)
