-- Moves that are gathered: a meeting of two children leaves a shift and changes behind, and one pass over the row from right to left finds
-- how far every child between them moves.
use Rattle.std.specs.Prelude.{ℕ, zero, suc, ◌-◌, ℤ, pos, ◌+ℤ◌}

-- what the pass carries: how far the next child moves, and by how much that grows from child to child
pub record Carried : Type 0 where
  pub sum : ℤ
  pub rate : ℤ

-- past one child
abbrev pub carry : ℤ → ℤ → Carried → Carried
carry shift change g = record { sum = (g.sum +ℤ shift) +ℤ (g.rate +ℤ change); rate = g.rate +ℤ change }

-- past m children, from the one before `end` to the left
abbrev pub gather : (ℕ → ℤ) → (ℕ → ℤ) → ℕ → ℕ → Carried
gather shift change end zero = record { sum = pos 0; rate = pos 0 }
gather shift change end (suc m) = carry (shift (end - suc m)) (change (end - suc m)) (gather shift change end m)

-- how far the child at position p moves
abbrev pub pending : (ℕ → ℤ) → (ℕ → ℤ) → ℕ → ℕ → ℤ
pending shift change end p = (gather shift change end (end - suc p)).sum
