-- The second walk: what its steps ask and give.
use Rattle.std.specs.Prelude.{ℕ, suc, ◌+◌, ◌*◌, ◌^◌, ◌≤◌, ◌<◌, ◌≡◌, cond, List, eqb, ℤ, pos, ◌+ℤ◌, length, set, drop}
use Rattle.std.specs.Int.Signed.{mag}
use Rattle.refusal.specs.After.{overwrite}
use Rattle.distance.specs.Needed.{needed}
use Rattle.tree.specs.Table.{nodes}
use Rattle.tree.specs.Forest.{tree_of}
use Rattle.tree.specs.Levels
use Rattle.tree.specs.Levels.{neighbours}
use Rattle.rule.specs.Join.{Spacing, spaced}
use Rattle.rule.specs.Record.{flat}
use Rattle.rule.specs.Result
use Rattle.rule.specs.Result.{places_of, levels_of, least_of, greatest_of}
use Rattle.level_order.specs.LevelOrder.{node_at}
use Rattle.level_order.specs.Fields.{get, put, NODE, PARENT, PLACE, LEVEL}
use Rattle.level_order.specs.declared.spaced_tree.SpacedTree.{SpacedTree}

-- what keeps the nodes of a spaced tree apart
abbrev pub spacing_of : SpacedTree → Spacing
spacing_of s = spaced (needed s.separation s.widths.now) s.extra

-- ---- before the pass

-- position p stands at its offset from its parent, one level below it
pub record FromParent (D : Spacing) (t : List ℕ) (work : List ℤ) (p : ℕ) : Type 0 where
  pub parent : ℕ
  pub before : parent < p
  pub named : get work PARENT p ≡ pos parent
  pub place : Result.place D t (node_at (tree_of t) p) ≡ Result.place D t (node_at (tree_of t) parent) +ℤ get work PLACE p
  pub level : Levels.level t (node_at (tree_of t) p) ≡ suc (Levels.level t (node_at (tree_of t) parent))

pub record Ready (D : Spacing) (t : List ℕ) (work : List ℤ) : Type 0 where
  pub size : 16 * nodes t ≤ length work
  pub node : (p : ℕ) → p < nodes t → get work NODE p ≡ pos (node_at (tree_of t) p)
  pub root : get work PLACE 0 ≡ pos 0
  pub others : (p : ℕ) → 0 < p → p < nodes t → FromParent D t work p

-- ---- one position

-- position p has a parent before it, and what it adds to the parent's place and level fits
pub record Descends (work : List ℤ) (p : ℕ) : Type 0 where
  pub small : p < 1024
  pub inside : 16 * p + 15 < length work
  pub parent : ℕ
  pub before : parent < p
  pub named : get work PARENT p ≡ pos parent
  pub place-fits : mag (get work PLACE parent +ℤ get work PLACE p) < 2 ^ 31
  pub level-fits : mag (get work LEVEL parent +ℤ pos 1) < 2 ^ 31

-- its place and its level, from those of its parent q
abbrev pub descended : List ℤ → ℕ → ℕ → List ℤ
descended work p q = put (put work PLACE p (get work PLACE q +ℤ get work PLACE p)) LEVEL p (get work LEVEL q +ℤ pos 1)

-- position p is node v, on level l
pub record Seen (work : List ℤ) (p v l : ℕ) : Type 0 where
  pub inside : 16 * p + 15 < length work
  pub node : get work NODE p ≡ pos v
  pub level : get work LEVEL p ≡ pos l
  pub small : v < 1024
  pub near : l < 1024

-- the place and the level are written by the node's number
pub record Writes (work : List ℤ) (p : ℕ) (places : List ℤ) (levels : List ℕ) : Type 0 where
  pub number : ℕ
  pub depth : ℕ
  pub seen : Seen work p number depth
  pub place_inside : number < length places
  pub level-inside : number < length levels

pub record Written (work : List ℤ) (p : ℕ) (ps : List ℤ) (ls : List ℕ) (ps' : List ℤ) (ls' : List ℕ) : Type 0 where
  pub places : (v l : ℕ) → Seen work p v l → ps' ≡ set ps v (get work PLACE p)
  pub levels : (v l : ℕ) → Seen work p v l → ls' ≡ set ls v l

-- two positions of one level are a pair, which is written behind the pairs so far
pub record Pairs (work : List ℤ) (left right : ℕ) (measured : List ℕ) (pairs : ℕ) : Type 0 where
  pub left_number : ℕ
  pub left_depth : ℕ
  pub left_seen : Seen work left left_number left_depth
  pub right_number : ℕ
  pub right_depth : ℕ
  pub right_seen : Seen work right right_number right_depth
  pub few : pairs < 1024
  pub inside : 2 * pairs + 1 < length measured

abbrev pub paired : ℕ → ℕ → ℕ → ℕ → ℕ → List ℕ → List ℕ
paired a k b l pairs measured = cond (eqb k l) (set (set measured (2 * pairs) a) (2 * pairs + 1) b) measured

pub record Paired (work : List ℤ) (left right : ℕ) (measured : List ℕ) (pairs r : ℕ) (measuredAfter : List ℕ) : Type 0 where
  pub count : (a k b l : ℕ) → Seen work left a k → Seen work right b l → r ≡ cond (eqb k l) (pairs + 1) pairs
  pub written : (a k b l : ℕ) → Seen work left a k → Seen work right b l → measuredAfter ≡ paired a k b l pairs measured

-- ---- the whole pass, over slices of just n, n and 2n entries

pub record Lengths (t : List ℕ) (ps : List ℤ) (ls rs : List ℕ) : Type 0 where
  pub places : length ps ≡ nodes t
  pub levels : length ls ≡ nodes t
  pub measured : length rs ≡ 2 * nodes t

-- what the slices hold afterwards, of which the record held rs and the working slice ws, and the four results
pub record Settled (t : List ℕ) (D : Spacing) (ps : List ℤ) (ls rs rs' : List ℕ) (ws ws' : List ℤ) (k : ℕ) (low high : ℤ) (many : ℕ) : Type 0 where
  pub places : ps ≡ places_of D t
  pub levels : ls ≡ levels_of t
  pub measured : rs' ≡ overwrite (flat (neighbours t)) rs
  pub rest : drop (16 * nodes t) ws' ≡ drop (16 * nodes t) ws
  pub level_count : k ≡ Levels.level_count t
  pub least : low ≡ least_of (places_of D t)
  pub greatest : high ≡ greatest_of (places_of D t)
  pub pairs : many ≡ length (neighbours t)
