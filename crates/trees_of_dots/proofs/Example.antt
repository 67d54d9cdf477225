-- Plots that more than one tree fits, one that none fits, and calls at the bounds, by computation. Assumes nothing.
use mathlib.Core.Path.{◌≡◌, refl}
use mathlib.Core.List.{[], ◌∷◌}
use lib.IntN.{pos, negsuc}
use Rattle.distance.specs.Needed.{bad_separation}
use Rattle.tree.specs.Forest.{forest, tree_of, table_of}
use Rattle.tree.specs.Levels.{level}
use Rattle.rule.specs.Join.{evenly, added}
use Rattle.rule.specs.Rule.{drawn}
use Rattle.rule.specs.Result.{place}
use Rattle.small_trees.specs.Sequence.{tree_of_levels}
use Rattle.small_trees.specs.SmallTrees.{further, sequences, tree_count, sequence_at, tree_at}
use Rattle.plots.specs.Points.{points_of, same_set, laid_out, table_fits}
use Rattle.plots.specs.Dots.{dots_wrong}
use Rattle.trees_of_dots.specs.TreesOfDots.{fits, fitting_places, refusal}

-- 0 1 2 1 2 and 0 1 2 2 1, with neighbours one unit apart
pub narrow : fitting_places 5 1 (points_of (pos 0 ∷ pos 0 ∷ pos 1 ∷ pos 0 ∷ pos 1 ∷ pos 1 ∷ pos 2 ∷ pos 0 ∷ pos 2 ∷ pos 1 ∷ [])) ≡ 6 ∷ 7 ∷ []
unfolding fitting_places fits table_fits same_set laid_out tree_count table_of tree_at tree_of_levels sequence_at sequences further forest tree_of level evenly added drawn place
narrow = refl

-- 0 1 1 2 2 2 1 and 0 1 2 1 2 1 2, two units apart: the only two of seven nodes
pub shared : fitting_places 7 2
    (points_of
    (pos 0 ∷ pos 0 ∷ pos 1 ∷ negsuc 1 ∷ pos 1 ∷ pos 0 ∷ pos 1 ∷ pos 2 ∷ pos 2 ∷ negsuc 1 ∷ pos 2 ∷ pos 0 ∷ pos 2 ∷ pos 2 ∷ []))
    ≡ 21 ∷ 48 ∷ []
unfolding fitting_places fits table_fits same_set laid_out tree_count table_of tree_at tree_of_levels sequence_at sequences further forest tree_of level evenly added drawn place
shared = refl

-- a child that does not stand under its parent
pub nobody : fitting_places 2 5 (points_of (pos 0 ∷ pos 0 ∷ pos 1 ∷ pos 1 ∷ [])) ≡ []
unfolding fitting_places fits table_fits same_set laid_out tree_count table_of tree_at tree_of_levels sequence_at sequences further forest tree_of level evenly added drawn place
nobody = refl

-- 20 first, then 22, and 6 last
pub numbers : (refusal 0 [] 0 ∷ refusal 9 [] 0 ∷ refusal 1 [] 0 ∷ refusal 1 (pos 0 ∷ pos 0 ∷ []) 0 ∷ refusal 1 (pos 0 ∷ pos 0 ∷ []) 1025
    ∷ refusal 1 (pos 0 ∷ pos 0 ∷ []) 1024
    ∷ refusal 1 (pos 0 ∷ pos 0 ∷ pos 1 ∷ []) 1
    ∷ refusal 1 (pos 7 ∷ negsuc 0 ∷ []) 1
    ∷ refusal 1 (pos 8 ∷ pos 0 ∷ []) 1
    ∷ refusal 1 (negsuc 0 ∷ pos 0 ∷ []) 1
    ∷ [])
    ≡ 20 ∷ 20 ∷ 22 ∷ 6 ∷ 6 ∷ 0 ∷ 22 ∷ 0 ∷ 22 ∷ 22 ∷ []
unfolding refusal dots_wrong bad_separation
numbers = refl

-- two dots: rising by place, equal, falling by place, rising by level, falling by level
pub orders : (refusal 2 (pos 0 ∷ negsuc 0 ∷ pos 0 ∷ pos 0 ∷ []) 1 ∷ refusal 2 (pos 0 ∷ pos 0 ∷ pos 0 ∷ pos 0 ∷ []) 1
    ∷ refusal 2 (pos 0 ∷ pos 0 ∷ pos 0 ∷ negsuc 0 ∷ []) 1
    ∷ refusal 2 (pos 0 ∷ pos 0 ∷ pos 1 ∷ negsuc 0 ∷ []) 1
    ∷ refusal 2 (pos 1 ∷ negsuc 0 ∷ pos 0 ∷ pos 0 ∷ []) 1
    ∷ [])
    ≡ 0 ∷ 22 ∷ 22 ∷ 0 ∷ 22 ∷ []
unfolding refusal dots_wrong bad_separation
orders = refl
