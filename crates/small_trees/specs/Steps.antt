-- What the inner steps promise.
use Rattle.std.specs.Prelude.{ℕ, suc, ◌+◌, ◌*◌, ◌≤◌, ◌<◌, ◌≡◌, true, List, ◌∷◌, ◌++◌, map, length, get_or, drop}
use Rattle.small_trees.specs.Sequence.{is_sequence}
use Rattle.small_trees.specs.SmallTrees.{further, tree_count, most_nodes}
use Rattle.small_trees.specs.declared.levels.Branch.{Branch}

-- ---- the levels at a place

-- how many ways there are to go on for m levels behind level l, at 8m + l, where m + l is at most 7
pub record Ways (counts : List ℕ) : Type 0 where
  pub size : length counts ≡ 64
  pub count : (m l : ℕ) → m + l < most_nodes → get_or counts (8 * m + l) 0 ≡ length (further m l)

-- a place among the ways to go on for more + 1 levels behind a level, of a sequence of at most 8
pub record Choice (more behind place : ℕ) : Type 0 where
  pub few : suc (more + behind) < most_nodes
  pub within : place < length (further (suc more) behind)

-- The next level there, and the place among the ways to go on from it. From the place on, the list has first what is left of the ways with
-- that level.
pub record Chosen (more behind place : ℕ) (b : Branch) : Type 0 where
  pub after : List (List ℕ)
  pub ahead : drop place (further (suc more) behind) ≡ map (λ s. b.level ∷ s) (drop b.place (further more b.level)) ++ after
  pub within : b.place < length (further more b.level)
  pub some : 1 ≤ b.level
  pub deep : b.level ≤ suc behind

-- a place of the list of so many levels, at most 8
pub record InList (place : ℕ) (levels : List ℕ) : Type 0 where
  pub few : length levels ≤ most_nodes
  pub within : place < tree_count (length levels)

-- ---- the links of a tree

-- the sequence of at most 8 nodes, and a table for them
pub record Linkable (levels table : List ℕ) : Type 0 where
  pub sequence : is_sequence levels ≡ true
  pub few : length levels ≤ most_nodes
  pub room : length table ≡ 2 * length levels
