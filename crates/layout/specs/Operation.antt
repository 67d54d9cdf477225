-- The operation's answer and its slices, as the written result has them, and the steps that every layout takes: conditions 6 and 17, conditions
-- 7 and 8, and the drawing of what is not refused.
use Rattle.std.specs.Prelude.{ℕ, ◌*◌, ◌≤◌, ◌≡◌, List, [], ◌∷◌, ℤ, pos, length, Result, Ok, Err}
use Rattle.refusal.specs.First.{Condition, ◌⇐◌}
use Rattle.refusal.specs.Number.{number}
use Rattle.refusal.specs.declared.Refusal.{Refusal}
use Rattle.distance.specs.Needed.{widest, bad_separation, bad_half_widths}
use Rattle.tree.specs.Table.{nodes}
use Rattle.tree.specs.WellFormed.{table_number}
use Rattle.rule.specs.Result.{Slices, Answer, short_results, short_work}
use Rattle.layout.specs.declared.Drawn.{Drawn}

abbrev pub slices : List ℤ → List ℕ → List ℕ → List ℤ → Slices
slices places levels measured work = record { places = places; levels = levels; the_record = measured; work = work }

abbrev pub answer : ℕ → ℕ → ℕ → ℤ → ℤ → ℕ → Answer
answer number nodes levels least greatest pairs =
    record { number = number; nodes = nodes; levels = levels; least = least; greatest = greatest; pairs = pairs }

-- what a call answers
abbrev pub answer_of : Result Drawn Refusal → Answer
answer_of (Ok drawn) = answer 0 drawn.nodes drawn.levels drawn.least drawn.greatest drawn.pairs
answer_of (Err refusal) = answer (number refusal) 0 0 (pos 0) (pos 0) 0

-- what can be wrong with the distances of a table's nodes, and with the slices that are lent
abbrev pub distance_conditions : List ℕ → ℕ → List ℕ → List Condition
distance_conditions t separation half_widths = 6 ⇐ bad_separation separation ∷ 17 ⇐ bad_half_widths (nodes t) half_widths ∷ []

abbrev pub room_conditions : List ℕ → Slices → List Condition
room_conditions t s = 7 ⇐ short_results t s ∷ 8 ⇐ short_work t s ∷ []

-- what is given where nothing is wrong
pub record Taken (t : List ℕ) (separation : ℕ) (half_widths : List ℕ) (extra : ℕ) (s : Slices) : Type 0 where
  pub table : table_number t ≡ 0
  pub some : 1 ≤ separation
  pub small : separation ≤ 1024
  pub wide : nodes t ≤ length half_widths
  pub narrow : widest (nodes t) half_widths ≤ 256
  pub little : extra ≤ 1024
  pub places : nodes t ≤ length s.places
  pub levels : nodes t ≤ length s.levels
  pub measured : 2 * nodes t ≤ length s.the_record
  pub work : 16 * nodes t ≤ length s.work
