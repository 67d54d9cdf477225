-- What the join of one child asks of the working slice, and what it leaves.
use Rattle.std.specs.Prelude.{ℕ, suc, ◌*◌, ◌≤◌, ◌<◌, ◌≡◌, ◌⊎◌, List, ℤ, pos, nat_abs, length, drop}
use Rattle.tree.specs.Numbers.{count}
use Rattle.tree.specs.Table.{nodes}
use Rattle.tree.specs.Forest.{tree_of, preorder}
use Rattle.tree.specs.WellFormed.{table_number}
use Rattle.rule.specs.Drawing.{last_place}
use Rattle.rule.specs.Join.{Spacing, spaced}
use Rattle.level_order.specs.LevelOrder.{first_at, positions}
use Rattle.level_order.specs.Fields.{get, PLACE, LEFT, RIGHT, ANCESTOR, SHIFT, CHANGE}
use Rattle.level_order.specs.Numbered.{Numbered}
use Rattle.level_order.specs.Spaced.{apart_of}
use Rattle.level_order.specs.declared.spaced_tree.SpacedTree.{SpacedTree}
use Rattle.contours.specs.Rows.{Columns, Outside, Subtree, Row, row_drawn}

-- what keeps the positions of a spaced tree apart
abbrev pub spacing_of : SpacedTree → Spacing
spacing_of s = spaced (apart_of s) s.extra

-- the fields of a family
abbrev pub columns_of : List ℤ → Columns
columns_of work =
    record {
      place = get work PLACE;
      left = get work LEFT;
      right = get work RIGHT;
      ancestor = get work ANCESTOR;
      shift = get work SHIFT;
      change = get work CHANGE;
    }

-- how often position z stands in the forest of the positions from a to b
abbrev pub occurs : List ℕ → ℕ → ℕ → ℕ → ℕ
occurs t a b z = count z (preorder (positions (nodes t) (first_at (tree_of t)) a b))

-- the table, what two of its positions need at most, and what is added at most
pub record Given (t : List ℕ) (D : Spacing) : Type 0 where
  pub accepted : table_number t ≡ 0
  pub high : (p q : ℕ) → D.need p q ≤ 1536
  pub little : D.extra ≤ 1024

-- children f to end of one node, of which those before c are joined
pub record Siblings (t : List ℕ) (f c end : ℕ) : Type 0 where
  pub some : f < c
  pub more : c ≤ end
  pub fits : end ≤ nodes t
  pub one_level : end ≤ first_at (tree_of t) f
  pub alone : (z : ℕ) → occurs t f end z ≤ 1

-- what has been gathered is no more than the row is wide
abbrev pub Small : List ℕ → Spacing → ℕ → ℕ → ℕ → List ℤ → Type 0
Small t D f c end work =
    (g p : ℕ) → SHIFT ≤ g → g ≤ CHANGE → f ≤ p → p < end → nat_abs (get work g p) ≤ last_place (row_drawn (first_at (tree_of t)) (nodes t) D f c)

-- the row from f to c
pub record Rowed (t : List ℕ) (D : Spacing) (f c end default : ℕ) (work : List ℤ) : Type 0 where
  pub numbered : Numbered (tree_of t) D.need (nodes t) work
  pub siblings : Siblings t f c end
  pub default-low : f ≤ default
  pub default-high : default < c
  pub row : Row (first_at (tree_of t)) (nodes t) D f c end default (columns_of work)
  pub stood : (p : ℕ) → f ≤ p → p < c → (k : ℕ) × (k ≤ last_place (row_drawn (first_at (tree_of t)) (nodes t) D f c)) × (get work PLACE p ≡ pos k)
  pub small : Small t D f c end work

-- the subtree at position c, which is not joined yet: its contours are stored, its root is its own ancestor, and the ancestors below are out of date
pub record Waiting (t : List ℕ) (D : Spacing) (f end c : ℕ) (work : List ℤ) : Type 0 where
  pub subtree : Subtree (first_at (tree_of t)) (nodes t) D c (get work LEFT) (get work RIGHT)
  pub own : get work ANCESTOR c ≡ pos c
  pub stale : (z : ℕ) → 1 ≤ occurs t (first_at (tree_of t) c) (first_at (tree_of t) (suc c)) z → Outside f end (get work ANCESTOR z)

-- what the join of child c leaves as it was; the fields before PLACE are those of the numbering
pub record Untouched (t : List ℕ) (f c : ℕ) (before after : List ℤ) : Type 0 where
  pub size : length after ≡ length before
  pub rest : drop (16 * nodes t) after ≡ drop (16 * nodes t) before
  pub numbering : (g p : ℕ) → g < PLACE → get after g p ≡ get before g p
  pub place : (p : ℕ) → (p ≡ c → ⊥) → get after PLACE p ≡ get before PLACE p
  pub steps : (g z : ℕ) → LEFT ≤ g → g ≤ RIGHT → occurs t f (suc c) z ≡ 0 → get after g z ≡ get before g z
  pub ancestor : (z : ℕ) → (get after ANCESTOR z ≡ get before ANCESTOR z) ⊎ ((get after ANCESTOR z ≡ pos c) × (1 ≤ occurs t f (suc c) z))
  pub gathered : (g p : ℕ) → SHIFT ≤ g → g ≤ CHANGE → (p < f) ⊎ (c < p) → get after g p ≡ get before g p

pub record Joined (t : List ℕ) (D : Spacing) (f c end default : ℕ) (before after : List ℤ) : Type 0 where
  pub rowed : Rowed t D f (suc c) end default after
  pub untouched : Untouched t f c before after
