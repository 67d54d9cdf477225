-- What the layout of a table gives, for every input.
use Rattle.std.specs.Prelude.{ℕ, ◌*◌, ◌≡◌, Bool, cond, ◌||◌, List, [], ◌∷◌, ◌++◌, map, eqb, ltb, ℤ, pos, length, replicate}
use Rattle.std.specs.Int.Signed.{le_z}
use Rattle.refusal.specs.First.{◌⇐◌, first}
use Rattle.refusal.specs.After.{granted, after}
use Rattle.distance.specs.Needed.{needed, bad_separation, bad_half_widths}
use Rattle.tree.specs.Numbers.{up_to}
use Rattle.tree.specs.Table
use Rattle.tree.specs.Levels
use Rattle.tree.specs.Table.{nodes}
use Rattle.tree.specs.Levels.{together, level, level_count, neighbours}
use Rattle.tree.specs.WellFormed.{table_conditions}
use Rattle.rule.specs.Drawing.{Dot}
use Rattle.rule.specs.Join.{Spacing, plain}
use Rattle.rule.specs.Rule.{drawn}
use Rattle.rule.specs.Record.{flat}

-- ---- places and extremes

-- the place of node v among dots
abbrev pub place_in : List Dot → ℕ → ℤ
place_in [] v = pos 0
place_in (e ∷ l) v = cond (eqb v e.node) e.place (place_in l v)

-- the place of node v in a table's drawing
unfoldable pub place : Spacing → List ℕ → ℕ → ℤ
place spacing t v = place_in (together (drawn spacing t)) v

-- places and levels by node number
unfoldable pub places_of : Spacing → List ℕ → List ℤ
places_of spacing t = map (place spacing t) (up_to (nodes t))

unfoldable pub levels_of : List ℕ → List ℕ
levels_of t = map (level t) (up_to (nodes t))

abbrev pub lesser : ℤ → ℤ → ℤ
lesser x y = cond (le_z x y) x y

abbrev pub greater : ℤ → ℤ → ℤ
greater x y = cond (le_z x y) y x

-- the least and the greatest of a list
abbrev pub least_of : List ℤ → ℤ
least_of [] = pos 0
least_of (x ∷ []) = x
least_of (x ∷ y ∷ l) = lesser x (least_of (y ∷ l))

abbrev pub greatest_of : List ℤ → ℤ
greatest_of [] = pos 0
greatest_of (x ∷ []) = x
greatest_of (x ∷ y ∷ l) = greater x (greatest_of (y ∷ l))

-- ---- the operation

-- the slices that are lent
pub record Slices : Type 0 where
  pub places : List ℤ
  pub levels : List ℕ
  pub the_record : List ℕ
  pub work : List ℤ

-- 7: a slice of results is too short
unfoldable pub short_results : List ℕ → Slices → Bool
short_results t s = ltb (length s.places) (nodes t) || ltb (length s.levels) (nodes t) || ltb (length s.the_record) (2 * nodes t)

-- 8: the working slice is too short
unfoldable pub short_work : List ℕ → Slices → Bool
short_work t s = ltb (length s.work) (16 * nodes t)

unfoldable pub layout_number : List ℕ → ℕ → List ℕ → Slices → ℕ
layout_number t separation half_widths s =
    first
    (table_conditions t
    ++ (6 ⇐ bad_separation separation ∷ 17 ⇐ bad_half_widths (nodes t) half_widths ∷ 7 ⇐ short_results t s ∷ 8 ⇐ short_work t s ∷ []))

-- the result fields
pub record Answer : Type 0 where
  pub number : ℕ
  pub nodes : ℕ
  pub levels : ℕ
  pub least : ℤ
  pub greatest : ℤ
  pub pairs : ℕ

-- what a call with the number k gives: the answer `a`, and the slices `u` where they held `s`
pub record LaidOut (k : ℕ) (spacing : Spacing) (t : List ℕ) (s : Slices) (a : Answer) (u : Slices) : Type 0 where
  pub number : a.number ≡ k
  pub nodes : a.nodes ≡ granted k (Table.nodes t) 0
  pub level_count : a.levels ≡ granted k (Levels.level_count t) 0
  pub least : a.least ≡ granted k (least_of (places_of spacing t)) (pos 0)
  pub greatest : a.greatest ≡ granted k (greatest_of (places_of spacing t)) (pos 0)
  pub pairs : a.pairs ≡ granted k (length (neighbours t)) 0
  pub places : u.places ≡ after k (places_of spacing t) s.places
  pub levels : u.levels ≡ after k (levels_of t) s.levels
  pub the_record : u.the_record ≡ after k (flat (neighbours t)) s.the_record
  pub work : u.work ≡ after k (replicate (16 * Table.nodes t) (pos 0)) s.work

-- what a call of the layout gives
abbrev pub Layout : List ℕ → ℕ → List ℕ → Slices → Answer → Slices → Type 0
Layout t separation half_widths s a u = LaidOut (layout_number t separation half_widths s) (plain (needed separation half_widths)) t s a u
