-- What the numbering leaves in the working slice.
use Rattle.std.specs.Prelude.{ℕ, suc, ◌-◌, ◌*◌, ◌≤◌, ◌<◌, ◌≡◌, List, ℤ, pos, length, drop}
use Rattle.distance.specs.Needed.{Distance, half_width, needed}
use Rattle.tree.specs.Forest.{Forest, tree_of}
use Rattle.tree.specs.Table.{nodes}
use Rattle.tree.specs.WellFormed.{table_number}
use Rattle.level_order.specs.LevelOrder.{node_at, first_at}
use Rattle.level_order.specs.Fields.{get, NODE, FIRST, COUNT, PARENT, NEED, ANCESTOR, SHIFT, CHANGE}

-- a table, a separation, and a half-width for each node, that are accepted
pub record Accepted (t : List ℕ) (separation : ℕ) (half_widths : List ℕ) : Type 0 where
  pub accepted : table_number t ≡ 0
  pub high : separation ≤ 1024
  pub each : length half_widths ≡ nodes t
  pub narrow : (v : ℕ) → half_width half_widths v ≤ 256

-- what two positions need: what their nodes do
abbrev pub apart : List ℕ → ℕ → List ℕ → Distance
apart t separation half_widths p q = needed separation half_widths (node_at (tree_of t) p) (node_at (tree_of t) q)

-- the positions of a tree f of n nodes, of which two need what D says
pub record Numbered (f : Forest) (D : Distance) (n : ℕ) (work : List ℤ) : Type 0 where
  pub size : 16 * n ≤ length work
  pub node : (p : ℕ) → p < n → get work NODE p ≡ pos (node_at f p)
  pub first : (p : ℕ) → p < n → get work FIRST p ≡ pos (first_at f p)
  pub count : (p : ℕ) → p < n → get work COUNT p ≡ pos (first_at f (suc p) - first_at f p)
  pub need : (p : ℕ) → suc p < n → get work NEED (suc p) ≡ pos (D p (suc p))

-- the parent of every position but the root's
pub record Parents (f : Forest) (n : ℕ) (work : List ℤ) : Type 0 where
  pub parent : (p : ℕ) → 0 < p → p < n → (q : ℕ) × (q < p) × (first_at f q ≤ p) × (p < first_at f (suc q)) × (get work PARENT p ≡ pos q)

-- nothing has been moved yet, and every node is its own ancestor
pub record Fresh (n : ℕ) (work : List ℤ) : Type 0 where
  pub ancestor : (p : ℕ) → p < n → get work ANCESTOR p ≡ pos p
  pub gathered : (g p : ℕ) → SHIFT ≤ g → g ≤ CHANGE → p < n → get work g p ≡ pos 0

-- the working slice of a table, and past its sixteen entries a node as it was
pub record NumberedFrom (t : List ℕ) (separation : ℕ) (half_widths : List ℕ) (before after : List ℤ) : Type 0 where
  pub numbered : Numbered (tree_of t) (apart t separation half_widths) (nodes t) after
  pub parents : Parents (tree_of t) (nodes t) after
  pub fresh : Fresh (nodes t) after
  pub rest : drop (16 * nodes t) after ≡ drop (16 * nodes t) before
  pub size : length after ≡ length before
