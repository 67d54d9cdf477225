-- `rows::copy_pair` stores two words of a block as a pair. Assumes nothing.
use native.Mathlib.Numerals.{add-one}
use Rattle.sheet.proofs.rows.copy_pair.Goals as goal

pub returns : goal.returns
returns c = rw (← c.word-first.ensures, ← c.word-second.ensures, add-one)
