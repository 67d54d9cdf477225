-- The list of five nodes, the tables of four, and calls at the bounds, by computation. Assumes nothing.
use mathlib.Core.Path.{◌≡◌, refl}
use mathlib.Core.List.{[], ◌∷◌, map}
use Rattle.tree.specs.Numbers.{up_to}
use Rattle.tree.specs.Table.{none}
use Rattle.tree.specs.Forest.{table_of}
use Rattle.small_trees.specs.Sequence.{tree_of_levels}
use Rattle.small_trees.specs.SmallTrees.{further, sequences, tree_count, sequence_at, tree_at, refusal}

pub five : sequences 5
    ≡ (0 ∷ 1 ∷ 1 ∷ 1 ∷ 1 ∷ [])
    ∷ (0 ∷ 1 ∷ 1 ∷ 1 ∷ 2 ∷ [])
    ∷ (0 ∷ 1 ∷ 1 ∷ 2 ∷ 1 ∷ [])
    ∷ (0 ∷ 1 ∷ 1 ∷ 2 ∷ 2 ∷ [])
    ∷ (0 ∷ 1 ∷ 1 ∷ 2 ∷ 3 ∷ [])
    ∷ (0 ∷ 1 ∷ 2 ∷ 1 ∷ 1 ∷ [])
    ∷ (0 ∷ 1 ∷ 2 ∷ 1 ∷ 2 ∷ [])
    ∷ (0 ∷ 1 ∷ 2 ∷ 2 ∷ 1 ∷ [])
    ∷ (0 ∷ 1 ∷ 2 ∷ 2 ∷ 2 ∷ [])
    ∷ (0 ∷ 1 ∷ 2 ∷ 2 ∷ 3 ∷ [])
    ∷ (0 ∷ 1 ∷ 2 ∷ 3 ∷ 1 ∷ [])
    ∷ (0 ∷ 1 ∷ 2 ∷ 3 ∷ 2 ∷ [])
    ∷ (0 ∷ 1 ∷ 2 ∷ 3 ∷ 3 ∷ [])
    ∷ (0 ∷ 1 ∷ 2 ∷ 3 ∷ 4 ∷ [])
    ∷ []
unfolding sequences further
five = refl

pub four : map (λ place. table_of 4 (tree_at 4 place)) (up_to 5)
    ≡ (1 ∷ none ∷ none ∷ 2 ∷ none ∷ 3 ∷ none ∷ none ∷ [])
    ∷ (1 ∷ none ∷ none ∷ 2 ∷ 3 ∷ none ∷ none ∷ none ∷ [])
    ∷ (1 ∷ none ∷ 2 ∷ 3 ∷ none ∷ none ∷ none ∷ none ∷ [])
    ∷ (1 ∷ none ∷ 2 ∷ none ∷ none ∷ 3 ∷ none ∷ none ∷ [])
    ∷ (1 ∷ none ∷ 2 ∷ none ∷ 3 ∷ none ∷ none ∷ none ∷ [])
    ∷ []
unfolding table_of tree_at tree_of_levels sequence_at sequences further
four = refl

-- n, the place and the output's length: 20 first, then 21, and 7 last
pub numbers : (refusal 0 0 0 ∷ refusal 9 0 18 ∷ refusal 9 1430 0 ∷ refusal 65535 0 16 ∷ refusal 1 0 2 ∷ refusal 1 1 2 ∷ refusal 1 0 1 ∷ refusal 8 428 16
    ∷ refusal 8 429 16
    ∷ refusal 8 429 0
    ∷ refusal 8 428 15
    ∷ [])
    ≡ 20 ∷ 20 ∷ 20 ∷ 20 ∷ 0 ∷ 21 ∷ 7 ∷ 0 ∷ 21 ∷ 21 ∷ 7 ∷ []
unfolding refusal tree_count sequences further
numbers = refl
