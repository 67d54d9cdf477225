-- Refusals. An operation has a list of conditions in the paper's order, each with its number; the first that holds decides,
-- and where none holds the number is 0: accepted.
use Rattle.std.specs.Prelude.{ℕ, Bool, cond, List, [], ◌∷◌}

infix 70 ◌⇐◌
pub record Condition : Type 0 where
  pub number : ℕ
  pub holds : Bool

-- `k ⇐ b`: the operation is refused with the number k where b holds
abbrev pub ◌⇐◌ : ℕ → Bool → Condition
k ⇐ b = record { number = k; holds = b }

-- the number of the first condition that holds, or 0
abbrev pub first : List Condition → ℕ
first [] = 0
first (c ∷ cs) = cond c.holds c.number (first cs)
