-- Where the walk over the rows of a file stands.
use Rattle.std.specs.Prelude.{◌≡◌}
use Rattle.sheet.specs.Layout.{node_block, node_word}
use Rattle.sheet.specs.declared.walk.RowPlace.{RowPlace}

-- the walk stands at a node: its block and its word are those of the node's row in the file's layout
pub record OnRow (at : RowPlace) : Type 0 where
  pub block : at.block ≡ node_block at.node
  pub word : at.word ≡ node_word at.node
