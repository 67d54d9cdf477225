-- Two sheets on which a single pair is exact, by computation: one whose root has two children, and one where the pair is that of the first child and
-- the last. Assumes nothing.
use mathlib.Core.Path.{◌≡◌, refl}
use mathlib.Core.Bool.{cond}
use mathlib.Core.List.{List, [], ◌∷◌}
use Prim.Native.Nat.{ℕ}
use lib.IntN.{ℤ, pos, ◌-ℤ◌}
use Rattle.distance.specs.Needed.{needed}
use Rattle.tree.specs.Numbers.{flat_map}
use Rattle.tree.specs.Table.{none}
use Rattle.tree.specs.Forest.{forest, tree_of}
use Rattle.tree.specs.Levels.{Pair, children_of, neighbours}
use Rattle.tree.specs.Shape.{under}
use Rattle.rule.specs.Join.{Spacing, spaced, evenly, added}
use Rattle.rule.specs.Rule.{drawn}
use Rattle.rule.specs.Result.{place}
use Rattle.treetex.proofs.Example.{seven}
use Rattle.slack.specs.Slack.{between}

-- how much further apart two nodes stand than they need
abbrev slack_of : Spacing → List ℕ → Pair → ℤ
slack_of N t p = (place N t p.1 -ℤ place N t p.0) -ℤ pos (N.need p.0 p.1)

-- the neighbours between the last child's subtree of node v and those before it, each pair with its slack
abbrev slacks : Spacing → List ℕ → ℕ → List (Pair × ℤ)
slacks N t v = flat_map (λ p. cond (between t v p.0 p.1) ((p, slack_of N t p) ∷ []) []) (neighbours t)

-- the separation is 2, and all half-widths 0: the leaves 3 and 5 alone stand exactly at what they need
pub single_pair : slacks (spaced (needed 2 []) 0) seven 0 ≡ ((1, 4), pos 2) ∷ ((3, 5), pos 0) ∷ []
unfolding seven forest tree_of children_of neighbours under evenly added drawn place
single_pair = refl

-- with an extra space of 3 these stand 3 further apart, and no pair is closer
pub spaced_pair : slacks (spaced (needed 2 []) 3) seven 0 ≡ ((1, 4), pos 5) ∷ ((3, 5), pos 3) ∷ []
unfolding seven forest tree_of children_of neighbours under evenly added drawn place
spaced_pair = refl

-- a root with four children, of which the first and the last have five leaves each; the separation is 4: the last child stands 3 further from the one
-- before it than the two need, and its first leaf exactly at what it needs from the first child's last
pub fifteen : List ℕ
fifteen =
    1 ∷ none ∷ 2 ∷ 7 ∷ none ∷ 3 ∷ none ∷ 4 ∷ none ∷ 5 ∷ none ∷ 6 ∷ none ∷ none ∷ none ∷ 8 ∷ none ∷ 9 ∷ 10 ∷ none ∷ none ∷ 11 ∷ none ∷ 12 ∷ none ∷ 13 ∷ none ∷ 14 ∷ none ∷ none ∷ []

pub first-and-last : slacks (spaced (needed 4 []) 0) fifteen 0 ≡ ((8, 9), pos 3) ∷ ((6, 10), pos 0) ∷ []
unfolding fifteen forest tree_of children_of neighbours under evenly added drawn place
first-and-last = refl
