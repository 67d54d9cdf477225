-- What the inner steps promise.
use Rattle.std.specs.Prelude.{ℕ, zero, suc, ◌+◌, ◌/◌, ◌%◌, ◌≤◌, ◌≡◌, List, [], ◌∷◌, ◌++◌, length}
use Rattle.std.proofs.lemmas.List.Edits.{sets}
use Rattle.lines.specs.Decimal.{digit}

-- the last `count` decimal digits of n
unfoldable pub digits : ℕ → ℕ → List ℕ
digits zero n = []
digits (suc count) n = digits count (n / 10) ++ digit (n % 10) ∷ []

-- the buffer has room for a text from the place `at` on
pub record Room (at : ℕ) (text old : List ℕ) : Type 0 where
  pub fits : at + length text ≤ length old

-- a text is stored from the place `at` on, and `next` is the place after it
pub record Put (at : ℕ) (text old : List ℕ) (next : ℕ) (new : List ℕ) : Type 0 where
  pub place : next ≡ at + length text
  pub buffer : new ≡ sets old at text

-- and the text is no longer than the room for it
pub record PutWithin (room at : ℕ) (text old : List ℕ) (next : ℕ) (new : List ℕ) : Type 0 where
  pub put : Put at text old next new
  pub within : next ≤ at + room
