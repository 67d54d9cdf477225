-- `buffer::Text::write` copies bytes behind the text so far. Assumes nothing.
use Rattle.std.proofs.Common.{refl}
use Rattle.lines.proofs.Written.{written_copy}
use Rattle.lines.proofs.buffer.Text.write.Goals as goal

pub returns : goal.returns
returns c = written_copy c.args.bytes.now _ c.requires c.copy_from_slice.ensures.after refl refl refl
