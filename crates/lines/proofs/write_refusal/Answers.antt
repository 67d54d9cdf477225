-- `write_refusal` keeps its promise: nothing where the buffer is too short, and else the line. Assumes nothing.
use Rattle.std.proofs.Common.{rules, le_refl, arith}
use borrow.Author.Tests.{lt-leb, le-leb}
use Rattle.lines.specs.Listing.{refused_line}
use Rattle.lines.proofs.Answer.{not-printed, printed}
use Rattle.lines.proofs.Standard.{decimal_standard}
use Rattle.lines.proofs.Written.{written_as, written_then}
use Rattle.lines.proofs.write_refusal.Goals as goal

pub returns-then-out-lt-REFUSAL_ROOM-clause-printed : goal.returns-then-out-lt-REFUSAL_ROOM-clause-printed
returns-then-out-lt-REFUSAL_ROOM-clause-printed c = not-printed _ (lt-leb _ _ c.if-out-lt-REFUSAL_ROOM.true)

pub returns-clause-printed : goal.returns-clause-printed
unfolding refused_line
returns-clause-printed c =
    printed (le-leb _ _ c.if-out-lt-REFUSAL_ROOM.false) (omega arith) c.new-text.ensures.same_bytes c.new-text.ensures.empty
    (written_as (le_refl _) (rw (decimal_standard c.args.number (omega arith))) (written_then c.write.ensures c.write_number.ensures))
    c.len.ensures (search rules)
