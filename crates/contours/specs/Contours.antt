-- Contours as the engine stores them: for each node of a contour the step in place to the next one.
use Rattle.std.specs.Prelude.{ℕ, ◌≡◌, List, [], ◌∷◌, ℤ, ◌-ℤ◌}
use Rattle.rule.specs.Drawing.{Dot, first_of, last_of}

abbrev pub LeftSteps : (ℕ → ℤ) → List (List Dot) → Type 0
LeftSteps left [] = Unit {0}
LeftSteps left (x ∷ []) = Unit {0}
LeftSteps left (x ∷ y ∷ zs) = (left (first_of x).node ≡ (first_of y).place -ℤ (first_of x).place) × LeftSteps left (y ∷ zs)

abbrev pub RightSteps : (ℕ → ℤ) → List (List Dot) → Type 0
RightSteps right [] = Unit {0}
RightSteps right (x ∷ []) = Unit {0}
RightSteps right (x ∷ y ∷ zs) = (right (last_of x).node ≡ (last_of y).place -ℤ (last_of x).place) × RightSteps right (y ∷ zs)
