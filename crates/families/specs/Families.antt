-- What the drawing of one family, and of all of them, asks of the working slice and leaves in it.
use Rattle.std.specs.Prelude.{ℕ, suc, ◌-◌, ◌*◌, ◌≤◌, ◌<◌, ◌≡◌, ◌⊎◌, List, ℤ, pos, ◌-ℤ◌, length, drop}
use Rattle.tree.specs.Table.{nodes}
use Rattle.tree.specs.Forest.{Forest, tree_of}
use Rattle.rule.specs.Drawing.{place_at, middle}
use Rattle.rule.specs.Join.{Spacing}
use Rattle.rule.specs.Rule.{draw}
use Rattle.level_order.specs.LevelOrder.{first_at, position_tree}
use Rattle.level_order.specs.Fields.{get, PLACE, LEFT, RIGHT, ANCESTOR, SHIFT, CHANGE}
use Rattle.level_order.specs.Numbered.{Numbered}
use Rattle.contours.specs.Rows.{Subtree, children_drawn, Offsets}
use Rattle.families.specs.Joining.{occurs, Rowed, Waiting}

-- ---- the joins of one family

-- the first child stands, and the others wait
pub record Begun (t : List ℕ) (D : Spacing) (f end : ℕ) (work : List ℤ) : Type 0 where
  pub rowed : Rowed t D f (suc f) end f work
  pub others : (q : ℕ) → f < q → q < end → Waiting t D f end q work

-- what the joins of the children past f and before c leave as it was
pub record Through (t : List ℕ) (f c : ℕ) (before after : List ℤ) : Type 0 where
  pub size : length after ≡ length before
  pub rest : drop (16 * nodes t) after ≡ drop (16 * nodes t) before
  pub numbering : (g p : ℕ) → g < PLACE → get after g p ≡ get before g p
  pub place : (p : ℕ) → (p < f) ⊎ (c ≤ p) → get after PLACE p ≡ get before PLACE p
  pub steps : (g z : ℕ) → LEFT ≤ g → g ≤ RIGHT → occurs t f c z ≡ 0 → get after g z ≡ get before g z
  pub ancestor : (z : ℕ) → (get after ANCESTOR z ≡ get before ANCESTOR z) ⊎ ((k : ℕ) × (f ≤ k) × (get after ANCESTOR z ≡ pos k) × (1 ≤ occurs t f c z))
  pub gathered : (g p : ℕ) → SHIFT ≤ g → g ≤ CHANGE → (p < f) ⊎ (c ≤ p) → get after g p ≡ get before g p

-- all the children are joined
pub record AllJoined (t : List ℕ) (D : Spacing) (f end : ℕ) (before after : List ℤ) : Type 0 where
  pub default : ℕ
  pub rowed : Rowed t D f end end default after
  pub through : Through t f end before after

-- ---- one family

-- position p has children, and their subtrees are drawn
pub record Ready (t : List ℕ) (D : Spacing) (p : ℕ) (work : List ℤ) : Type 0 where
  pub numbered : Numbered (tree_of t) D.need (nodes t) work
  pub inside : p < nodes t
  pub some : first_at (tree_of t) p < first_at (tree_of t) (suc p)
  pub subtrees : (q : ℕ) → first_at (tree_of t) p ≤ q → q < first_at (tree_of t) (suc p) → Subtree (first_at (tree_of t)) (nodes t) D q (get work LEFT) (get work RIGHT)
  pub gathered : (g q : ℕ) → SHIFT ≤ g → g ≤ CHANGE → first_at (tree_of t) p ≤ q → q < first_at (tree_of t) (suc p) → get work g q ≡ pos 0
  pub own : (z : ℕ) → z < first_at (tree_of t) (suc p) → get work ANCESTOR z ≡ pos z
  pub below : (z : ℕ) → first_at (tree_of t) (suc p) ≤ z → z < nodes t → (k : ℕ) × (first_at (tree_of t) (suc p) ≤ k) × (get work ANCESTOR z ≡ pos k)

-- the children of position p have their offsets
abbrev pub FamilyPlaced : List ℕ → Spacing → List ℤ → ℕ → Type 0
FamilyPlaced t D work p =
    (q : ℕ) → first_at (tree_of t) p ≤ q → q < first_at (tree_of t) (suc p)
    → get work PLACE q
    ≡ pos (place_at (children_drawn (first_at (tree_of t)) (nodes t) D p) (q - first_at (tree_of t) p))
    -ℤ pos (middle (children_drawn (first_at (tree_of t)) (nodes t) D p))

-- the family of position p is drawn
pub record FamilyDrawn (t : List ℕ) (D : Spacing) (p : ℕ) (before after : List ℤ) : Type 0 where
  pub subtree : Subtree (first_at (tree_of t)) (nodes t) D p (get after LEFT) (get after RIGHT)
  pub placed : FamilyPlaced t D after p
  pub size : length after ≡ length before
  pub rest : drop (16 * nodes t) after ≡ drop (16 * nodes t) before
  pub numbering : (g q : ℕ) → g < PLACE → get after g q ≡ get before g q
  pub place : (q : ℕ) → (q < first_at (tree_of t) p) ⊎ (first_at (tree_of t) (suc p) ≤ q) → get after PLACE q ≡ get before PLACE q
  pub steps : (g z : ℕ) → LEFT ≤ g → g ≤ RIGHT → occurs t p (suc p) z ≡ 0 → get after g z ≡ get before g z
  pub ancestor-before : (z : ℕ) → z < first_at (tree_of t) p → get after ANCESTOR z ≡ get before ANCESTOR z
  pub ancestor-from : (z : ℕ) → (get after ANCESTOR z ≡ get before ANCESTOR z) ⊎ ((k : ℕ) × (first_at (tree_of t) p ≤ k) × (get after ANCESTOR z ≡ pos k))
  pub gathered : (g q : ℕ) → SHIFT ≤ g → g ≤ CHANGE → (q < first_at (tree_of t) p) ⊎ (first_at (tree_of t) (suc p) ≤ q) → get after g q ≡ get before g q

-- ---- all families

-- every position but the root's has its offset from its parent in the drawing of the tree of positions; the root's own is its place 0
abbrev pub Placed : Spacing → Forest → ℕ → List ℤ → Type 0
Placed D f n work = Offsets (get work PLACE) 0 (draw D (position_tree f n))

-- every family is drawn
pub record FamiliesFrom (t : List ℕ) (D : Spacing) (before after : List ℤ) : Type 0 where
  pub placed : Placed D (tree_of t) (nodes t) after
  pub numbering : (g p : ℕ) → g < PLACE → get after g p ≡ get before g p
  pub size : length after ≡ length before
  pub rest : drop (16 * nodes t) after ≡ drop (16 * nodes t) before
