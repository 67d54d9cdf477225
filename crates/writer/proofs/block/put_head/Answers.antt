-- `block::put_head` stores a block's first two words. Assumes nothing.
use Rattle.std.proofs.Common.{[], ◌∷◌, refl}
use Rattle.writer.proofs.Stored.{stored_next}
use Rattle.writer.proofs.block.put_head.Goals as goal

pub returns : goal.returns
returns c =
    let a = c.args in
    stored_next a.block.now 0 (a.place ∷ []) (a.count ∷ []) _ _ 1 refl c.put.ensures c.put-2.ensures
