-- The steps of the contour walk, in the code's own shape.
use Rattle.std.specs.Prelude.{ℕ, ◌+◌, ◌-◌, ◌*◌, ◌≤◌, ◌<◌, ◌≡◌, Bool, cond, ◌||◌, List, eqb, ltb, ℤ, pos, negsuc, nat_abs, ◌+ℤ◌, ◌-ℤ◌, length}
use Rattle.rule.specs.Join.{above0}
use Rattle.level_order.specs.Fields.{cell, get, put, FIRST, COUNT, NEED, PLACE, LEFT, RIGHT, ANCESTOR, SHIFT, CHANGE}
use Rattle.shifts.specs.Shifts.{shared}
use Rattle.descent.specs.declared.Stand.{Stand}

-- the field is inside the slice and holds a small number that is not negative
pub record Reads (work : List ℤ) (field p : ℕ) : Type 0 where
  pub inside : cell p field < length work
  pub small : (k : ℕ) × (k ≤ 1024) × (get work field p ≡ pos k)

-- the position of the first child of p, and the position past its children
abbrev pub first_of_children : List ℤ → ℕ → ℕ
first_of_children work p = above0 (get work FIRST p)

abbrev pub past_children : List ℤ → ℕ → ℕ
past_children work p = above0 (get work FIRST p) + above0 (get work COUNT p)

-- a number whose sums with a few like it fit 32 bits
abbrev pub Modest : ℤ → Type 0
Modest z = nat_abs z ≤ 4194304

-- ---- where the walk stands

-- the top level: the first child, which stands at 0, the last child joined, and the new child, which starts after it at the distance that it needs
abbrev pub top_level : List ℤ → ℕ → ℕ → Stand
top_level work f c =
    record {
      row = f;
      child = c;
      end = c + 1;
      right = get work PLACE (c - 1);
      left = get work PLACE (c - 1) +ℤ get work NEED c;
      outer_left = pos 0;
      outer_right = get work PLACE (c - 1) +ℤ get work NEED c;
      moved = pos 0;
    }

-- one level down
abbrev pub lower : List ℤ → Stand → Stand
lower work s =
    record {
      row = first_of_children work s.row;
      child = first_of_children work s.child;
      end = past_children work (s.end - 1);
      right = s.right +ℤ get work RIGHT (s.child - 1);
      left = s.left +ℤ get work LEFT s.child;
      outer_left = s.outer_left +ℤ get work LEFT s.row;
      outer_right = s.outer_right +ℤ get work RIGHT (s.end - 1);
      moved = s.moved;
    }

-- the positions whose children are looked at
pub record Looked (work : List ℤ) (s : Stand) : Type 0 where
  pub first-a : Reads work FIRST s.row
  pub first-b : Reads work FIRST s.child
  pub first-e : Reads work FIRST (s.end - 1)
  pub count-e : Reads work COUNT (s.end - 1)
  pub some : 1 ≤ s.end

-- a level that can be worked on
pub record Level (work : List ℤ) (s : Stand) (f c default : ℕ) : Type 0 where
  pub row : s.row < s.child
  pub child : s.child < s.end
  pub low : f ≤ default
  pub high : default < c
  pub few : (s.end ≤ 1024) × (c < 1024)
  pub inside : (16 * s.end ≤ length work) × (16 * (c + 1) ≤ length work)
  pub right_modest : Modest s.right
  pub left_modest : Modest s.left
  pub outer_left_modest : Modest s.outer_left
  pub outer_right_modest : Modest s.outer_right
  pub moved_modest : Modest s.moved
  pub gathered : (p : ℕ) → f ≤ p → p ≤ c → Modest (get work SHIFT p) × Modest (get work CHANGE p)
  pub looked : Looked work s

-- ---- whose is a node

-- the ancestor where it is one of the positions from f up to, and without, c, else the default
abbrev pub owner_of : ℤ → ℕ → ℕ → ℕ → ℕ
owner_of (pos k) f c default = cond (ltb k f) default (cond (ltb k c) k default)
owner_of (negsuc k) f c default = default

-- ---- one level

-- by how much the nodes at child - 1 and child are too close
abbrev pub too_close : List ℤ → Stand → ℕ
too_close work s = above0 ((s.right +ℤ get work NEED s.child) -ℤ (s.left +ℤ s.moved))

-- a conflict is gathered
abbrev pub noted : List ℤ → Stand → ℕ → ℕ → ℕ → ℕ → List ℤ
noted work s f c default amount = cond (eqb amount 0) work (shared work (owner_of (get work ANCESTOR (s.child - 1)) f c default) c amount)

-- and the child's last node on the level is marked
abbrev pub worked : List ℤ → Stand → ℕ → ℕ → ℕ → List ℤ
worked work s f c default = put (noted work s f c default (too_close work s)) ANCESTOR (s.end - 1) (pos c)

-- ---- the end of the walk

-- how far the child moves in all: where conflicts moved it by k, by the extra space too
abbrev pub widened : ℕ → ℕ → ℕ
widened k extra = k + cond (ltb 0 k) extra 0

abbrev pub is_end : List ℤ → Stand → Bool
is_end work s =
    eqb (first_of_children work s.row) (first_of_children work s.child) || eqb (first_of_children work s.child) (past_children work (s.end - 1))

-- The row goes deeper: its next node is threaded to the child's last. The child goes deeper: its next node is threaded to the row's last,
-- and the child is the new default.
abbrev pub threaded : List ℤ → Stand → List ℤ
threaded work s =
    cond (ltb (first_of_children work s.row) (first_of_children work s.child))
    (put work RIGHT (s.end - 1) ((lower work s).right -ℤ (s.outer_right +ℤ s.moved)))
    (cond (ltb (first_of_children work s.child) (past_children work (s.end - 1)))
    (put work LEFT s.row (((lower work s).left +ℤ s.moved) -ℤ s.outer_left))
    work)

abbrev pub new_default : List ℤ → Stand → ℕ → ℕ → ℕ
new_default work s c default =
    cond (ltb (first_of_children work s.row) (first_of_children work s.child)) default
    (cond (ltb (first_of_children work s.child) (past_children work (s.end - 1))) c default)

-- the steps that a thread needs are modest
pub record Threads (work : List ℤ) (s : Stand) : Type 0 where
  pub row-deeper : first_of_children work s.row < first_of_children work s.child → Modest (lower work s).right
  pub child-deeper : first_of_children work s.child < past_children work (s.end - 1) → Modest (lower work s).left

-- the places one level down are modest
pub record Steps (work : List ℤ) (s : Stand) : Type 0 where
  pub right : Modest (lower work s).right
  pub left : Modest (lower work s).left
  pub outer_left_holds : Modest (lower work s).outer_left
  pub outer_right_holds : Modest (lower work s).outer_right
