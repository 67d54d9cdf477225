-- What the inner steps promise.
use Rattle.std.specs.Prelude.{ℕ, ◌+◌, ◌≤◌, ◌<◌, ◌≡◌, false, List, ℤ, Option, Some, None, length, get_or}
use Rattle.distance.specs.Needed.{bad_separation}
use Rattle.tree.specs.Numbers.{count}
use Rattle.tree.specs.Table.{nodes}
use Rattle.tree.specs.WellFormed.{table_number}
use Rattle.small_trees.specs.SmallTrees.{tree_count, sequence_at, most_nodes}
use Rattle.plots.specs.declared.Point.{Point}
use Rattle.plots.specs.Dots.{dots_wrong}
use Rattle.trees_of_dots.specs.TreesOfDots.{fits}
use Rattle.trees_of_dots.specs.declared.Trees.{Trees}
use Rattle.trees_of_dots.specs.declared.search.Tried.{Tried}

-- a plot of n dots and a separation that are not refused
pub record Plot (n : ℕ) (dots : List ℤ) (D : ℕ) : Type 0 where
  pub some : 1 ≤ n
  pub few : n ≤ most_nodes
  pub right : dots_wrong n dots ≡ false
  pub apart : bad_separation D ≡ false

-- ---- one layout

-- an accepted table of as many nodes as there are dots, with a plot that is not refused
pub record Drawable (table : List ℕ) (dots : List ℤ) (D : ℕ) : Type 0 where
  pub accepted : table_number table ≡ 0
  pub plot : Plot (nodes table) dots D

-- ---- one place

-- a sequence has more nodes on some level than the profile
abbrev pub Exceeds : List ℕ → List ℕ → Type 0
Exceeds profile s = (l : ℕ) × (l < 8) × (get_or profile l 0 < count l s)

-- a place of the list of as many nodes as there are levels, at most 8; and a profile
pub record Descends (place : ℕ) (profile levels : List ℕ) : Type 0 where
  pub few : length levels ≤ most_nodes
  pub within : place < tree_count (length levels)
  pub size : length profile ≡ 8

-- from a place on, as many sequences as are said have more nodes on some level than the profile
pub record Passed (n place : ℕ) (profile : List ℕ) (skip : ℕ) : Type 0 where
  pub onward : 1 ≤ skip
  pub inside : place + skip ≤ tree_count n
  pub skipped : (q : ℕ) → place ≤ q → q < place + skip → Exceeds profile (sequence_at n q)

-- the levels at a place are stored; or, from that place on, so many sequences are passed
abbrev pub Descended : ℕ → ℕ → List ℕ → Option ℕ → List ℕ → Type 0
Descended n place profile None levels = levels ≡ sequence_at n place
Descended n place profile (Some skip) levels = Passed n place profile skip

-- whether the tree at a place fits, and how far on the next place is that may have a tree that fits
pub record TriedAt (n D : ℕ) (points : List Point) (place : ℕ) (r : Tried) : Type 0 where
  pub here : fits n D points place ≡ r.fits
  pub onward : 1 ≤ r.step
  pub inside : place + r.step ≤ tree_count n
  pub between : (q : ℕ) → place < q → q < place + r.step → fits n D points q ≡ false

-- one place more
abbrev pub with_place : Option Trees → ℕ → Option Trees
with_place None p = Some (record { lowest = p; count = 1 })
with_place (Some trees) p = Some (record { lowest = trees.lowest; count = trees.count + 1 })

abbrev pub count_of : Option Trees → ℕ
count_of None = 0
count_of (Some trees) = trees.count
