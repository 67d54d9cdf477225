-- Any accepted table of 1 to 8 nodes fits just where the tree at its place of the list does. Assumes nothing.
use mathlib.Core.Path.{◌≡◌, ap, ◌∙◌}
use mathlib.Core.List.{List}
use Prim.Native.Nat.{ℕ, ◌≤◌, ◌<◌}
use Rattle.tree.specs.Table.{nodes}
use Rattle.tree.specs.WellFormed.{table_number}
use Rattle.small_trees.specs.SmallTrees.{tree_count, most_nodes}
use Rattle.small_trees.proofs.Tables.{one_table}
use Rattle.plots.specs.Points.{table_fits}
use Rattle.plots.specs.declared.Point.{Point}
use Rattle.plots.proofs.Shapes.{fits-renumbered}
use Rattle.trees_of_dots.specs.TreesOfDots.{fits}

module _ (t : List ℕ) (accepted : table_number t ≡ 0) (few : nodes t ≤ most_nodes) where
  -- its place in the list
  abbrev pub place_of : ℕ
  place_of = (one_table t accepted few).place

  pub place-within : place_of < tree_count (nodes t)
  place-within = (one_table t accepted few).within

  pub fits-place : (D : ℕ) (points : List Point) → fits (nodes t) D points place_of ≡ table_fits D points t
  unfolding fits
  fits-place D points = ap (table_fits D points) (one_table t accepted few).table ∙ fits-renumbered D t accepted points
