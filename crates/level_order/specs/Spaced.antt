-- What a spaced tree says of its nodes.
use Rattle.std.specs.Prelude.{ℕ, List}
use Rattle.distance.specs.Needed.{Distance}
use Rattle.level_order.specs.Numbered.{apart}
use Rattle.level_order.specs.declared.spaced_tree.SpacedTree.{SpacedTree}

abbrev pub table_of : SpacedTree → List ℕ
table_of s = s.table.entries.now

-- what two positions need
abbrev pub apart_of : SpacedTree → Distance
apart_of s = apart s.table.entries.now s.separation s.widths.now
