-- `block::put_pair` stores two entries one after the other. Assumes nothing.
use Rattle.std.proofs.Common.{◌+◌, ◌*◌, [], ◌∷◌, get_or, refl}
use Rattle.writer.proofs.Stored.{stored_next}
use Rattle.writer.proofs.block.put_pair.Goals as goal

pub returns : goal.returns
returns c =
    let a = c.args in
    let entries = a.entries.now in
    stored_next a.block.now a.place (get_or entries (2 * a.pair) 0 ∷ []) (get_or entries (2 * a.pair + 1) 0 ∷ []) _ _ (a.place + 1) refl
    c.put.ensures c.put-2.ensures
