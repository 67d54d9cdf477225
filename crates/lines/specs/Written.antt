-- What is promised of a text that grows in a buffer.
use Rattle.std.specs.Prelude.{ℕ, List, ◌≡◌, length}
use Rattle.lines.specs.Steps.{PutWithin}
use Rattle.lines.specs.declared.buffer.Text.{Text}

-- a piece is stored behind the text so far, in the same buffer, and it is no longer than the room for it
pub record Written (room : ℕ) (piece : List ℕ) (before after : Text) : Type 0 where
  pub same_reference : after.out.ghost_name ≡ before.out.ghost_name
  pub same_length : length after.out.now ≡ length before.out.now
  pub put : PutWithin room before.end piece before.out.now after.end after.out.now
