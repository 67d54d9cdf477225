-- The layout of a sheet that is set with TreeTeX: no node has more than two children, and an extra space stands between the subtrees of every
-- significant node. What a significant node is, and where the space is added, stands in rule/specs/Join.antt.
use Rattle.std.specs.Prelude.{ℕ, Bool, List, [], ◌∷◌, ◌++◌, leb, ltb, length}
use Rattle.refusal.specs.First.{◌⇐◌, first}
use Rattle.distance.specs.Needed.{needed, bad_separation, bad_half_widths}
use Rattle.tree.specs.Numbers.{up_to, any}
use Rattle.tree.specs.Table.{nodes}
use Rattle.tree.specs.Levels.{children_of}
use Rattle.tree.specs.WellFormed.{table_conditions}
use Rattle.rule.specs.Join.{spaced}
use Rattle.rule.specs.Result.{Slices, Answer, LaidOut, short_results, short_work}

-- node v has three or more children
abbrev pub has_three : List ℕ → ℕ → Bool
has_three t v = leb 3 (length (children_of t v))

-- 23: some node has
unfoldable pub three_children : List ℕ → Bool
three_children t = any (has_three t) (up_to (nodes t))

-- 24: the extra space is above 1,024
unfoldable pub bad_extra : ℕ → Bool
bad_extra extra = ltb 1024 extra

unfoldable pub treetex_number : List ℕ → ℕ → List ℕ → ℕ → Slices → ℕ
treetex_number t separation half_widths extra s =
    first
    (table_conditions t
    ++ (23 ⇐ three_children t
    ∷ 6 ⇐ bad_separation separation
    ∷ 17 ⇐ bad_half_widths (nodes t) half_widths
    ∷ 24 ⇐ bad_extra extra
    ∷ 7 ⇐ short_results t s
    ∷ 8 ⇐ short_work t s
    ∷ []))

-- what a call gives: the answer `a`, and the slices `u` where they held `s`
abbrev pub TreeTeX : List ℕ → ℕ → List ℕ → ℕ → Slices → Answer → Slices → Type 0
TreeTeX t separation half_widths extra s a u =
    LaidOut (treetex_number t separation half_widths extra s) (spaced (needed separation half_widths) extra) t s a u
