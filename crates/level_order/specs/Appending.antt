-- What the inner functions of the numbering write, in the code's own shape.
use Rattle.std.specs.Prelude.{ℕ, ◌+◌, ◌≡◌, List, [], ◌∷◌, ℤ, pos, length}
use Rattle.tree.specs.Levels.{children_of}
use Rattle.level_order.specs.Fields.{put, NODE, FIRST, COUNT, PARENT, NEED, ANCESTOR, SHIFT, CHANGE}

-- node c, a child of position p, at position tail
abbrev pub queued : List ℤ → ℕ → ℕ → ℕ → List ℤ
queued work p tail c = put (put work NODE tail (pos c)) PARENT tail (pos p)

-- nodes of a row, children of position p, at the positions from tail on
abbrev pub appended : List ℤ → ℕ → ℕ → List ℕ → List ℤ
appended work p tail [] = work
appended work p tail (c ∷ cs) = appended (queued work p tail c) p (tail + 1) cs

-- the children of node v at the positions from tail up to, and without, r
pub record Appended (t : List ℕ) (p v tail : ℕ) (before : List ℤ) (r : ℕ) (after : List ℤ) : Type 0 where
  pub end : r ≡ tail + length (children_of t v)
  pub work : after ≡ appended before p tail (children_of t v)

-- position p with its count children from position first on, what it needs from the position before it, its own ancestor, and not moved
abbrev pub settled : List ℤ → ℕ → ℕ → ℕ → ℕ → List ℤ
settled work p first count need =
    put (put (put (put (put (put work FIRST p (pos first)) COUNT p (pos count)) NEED p (pos need)) ANCESTOR p (pos p)) SHIFT p (pos 0)) CHANGE p (pos 0)
