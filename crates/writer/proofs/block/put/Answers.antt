-- `block::put` stores a word's two bytes. Assumes nothing.
use Rattle.std.proofs.Common.{◌≡◌, ◌/◌, ◌%◌, arith}
use Rattle.writer.proofs.Stored.{store_bytes}
use Rattle.writer.proofs.block.put.Goals as goal

pub returns : goal.returns
returns c =
    let a = c.args in
    let high : a.word / 256 % 256 ≡ a.word / 256 = omega arith in
    rw (c.to_le_bytes.ensures, high) (store_bytes a.block.now a.place a.word)
