-- The levels at the place, and then their links. Assumes nothing.
use Rattle.small_trees.proofs.Answer.{stored_linkable, stored-table}
use Rattle.small_trees.proofs.write_tree.Goals as goal

pub link-requires : goal.link-requires
link-requires c = stored_linkable _ _ _ c.requires.in_list c.requires.table_len _ c.levels_at.ensures

pub returns : goal.returns
returns c = stored-table _ _ _ c.requires.in_list c.requires.table_len _ _ c.levels_at.ensures c.link.ensures
