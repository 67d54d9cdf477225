-- Joining the next child to a row of children: the walk down two contours, what it moves, and what is added after it.
use Rattle.std.specs.Prelude.{ℕ, ◌+◌, ◌-◌, ◌*◌, ◌/◌, Bool, false, cond, List, [], ◌∷◌, ltb, ℤ, pos, negsuc, ◌+ℤ◌, ◌-ℤ◌}
use Rattle.distance.specs.Needed.{Distance}
use Rattle.tree.specs.Levels.{Pair}
use Rattle.rule.specs.Drawing.{Drawing, none, at, width, append, Dot, dots, row_dots, left_contour, right_contour}

-- ---- what keeps nodes apart

-- `need a b` is the distance that node b needs where it stands right of node a, and `extra` the space that is added between the subtrees of a
-- significant node
pub record Spacing : Type 0 where
  pub need : Distance
  pub extra : ℕ

abbrev pub spaced : Distance → ℕ → Spacing
spaced need extra = record { need = need; extra = extra }

-- the plain rule adds nothing
abbrev pub plain : Distance → Spacing
plain need = spaced need 0

-- ---- the walk

-- a number where it is above 0, else 0
abbrev pub above0 : ℤ → ℕ
above0 (pos n) = n
above0 (negsuc n) = 0

-- how far two nodes on a level are too close: the distance that they need less their signed distance, or 0 where there is no conflict
abbrev pub shortfall : ℕ → ℤ → ℤ → ℕ
shortfall distance left right = above0 (pos distance -ℤ (right -ℤ left))

-- what is met on one level: the child to which the node on the right contour belongs, and by how much the two nodes are too close
pub record Meeting : Type 0 where
  pub child : ℕ
  pub amount : ℕ

-- The right contour of what is joined and the left contour of the new subtree are walked downward until either has no further level.
-- The new subtree has been moved by `moved` so far.
abbrev pub meet : Distance → ℕ → List Dot → List Dot → List Meeting
meet need moved [] ws = []
meet need moved (a ∷ us) [] = []
meet need moved (a ∷ us) (b ∷ ws) =
    let s = shortfall (need a.node b.node) a.place (b.place +ℤ pos moved) in
    record { child = a.child; amount = s } ∷ meet need (moved + s) us ws

-- each level walked measures one pair, the left node first
abbrev pub measure : List Dot → List Dot → List Pair
measure [] ws = []
measure (a ∷ us) [] = []
measure (a ∷ us) (b ∷ ws) = (a.node, b.node) ∷ measure us ws

-- ---- what moves

-- how far the conflicts move the new child
abbrev pub total : List Meeting → ℕ
total [] = 0
total (m ∷ ms) = m.amount + total ms

-- An amount s is shared over k gaps: q is s / k rounded down, and r = s - k * q is what remains.
abbrev pub quotient : ℕ → ℕ → ℕ
quotient k s = s / k

abbrev pub remainder : ℕ → ℕ → ℕ
remainder k s = s - k * quotient k s

-- The child with t of the gaps on its left then moves by t * q, plus t - (k - r) where that is above 0.
unfoldable pub evenly : ℕ → ℕ → ℕ → ℕ
evenly k s t = t * quotient k s + (t - (k - remainder k s))

-- The share of child p in a meeting of child i with child j, with k = j - i gaps between them: child i + t has t of them on its left. It is 0
-- for child i and those before it.
abbrev pub share : ℕ → Meeting → ℕ → ℕ
share j m p = evenly (j - m.child) m.amount (p - m.child)

abbrev pub shares : ℕ → List Meeting → ℕ → ℕ
shares j [] p = 0
shares j (m ∷ ms) p = share j m p + shares j ms p

-- the children from number p on, each moved by its shares in the meetings of child j
abbrev pub spread : ℕ → List Meeting → ℕ → Drawing → Drawing
spread j ms p none = none
spread j ms p (at v x below after) = at v (x + shares j ms p) below (spread j ms (p + 1) after)

-- ---- what is added after the walk

-- The first level of the walk is the children's own. A node is significant if joining its children met a conflict below that level.
abbrev pub significant : List Meeting → Bool
significant [] = false
significant (own ∷ below) = ltb 0 (total below)

-- the extra space is added once, and at a significant node alone
unfoldable pub added : ℕ → List Meeting → ℕ
added extra ms = cond (significant ms) extra 0

-- how far the new child moves in all; no other child moves by what is added
abbrev pub movement : ℕ → List Meeting → ℕ
movement extra ms = total ms + added extra ms

-- ---- the join

-- where child v starts: the first child at 0, any other at the distance that the two need after the child before it
abbrev pub start : Distance → Drawing → ℕ → ℕ
start need none v = 0
start need (at w x below none) v = x + need w v
start need (at w x below (at u y under after)) v = start need (at u y under after) v

-- child v, with the drawing below it, at a place of the row
abbrev pub alone : ℕ → ℕ → Drawing → Drawing
alone v x below = at v x below none

-- the contours that are walked when child v, with the drawing below it, is joined to a row
abbrev pub row_contour : Drawing → List Dot
row_contour row = right_contour (row_dots 0 row)

abbrev pub new_contour : Distance → Drawing → ℕ → Drawing → List Dot
new_contour need row v below = left_contour (dots (width row) (pos 0) (alone v (start need row v) below))

abbrev pub meetings : Distance → Drawing → ℕ → Drawing → List Meeting
meetings need row v below = meet need 0 (row_contour row) (new_contour need row v below)

-- where child v stands then
abbrev pub settled : Spacing → Drawing → ℕ → Drawing → ℕ
settled spacing row v below =
    start spacing.need row v + movement spacing.extra (meetings spacing.need row v below)

abbrev pub join : Spacing → Drawing → ℕ → Drawing → Drawing
join spacing row v below =
    append (spread (width row) (meetings spacing.need row v below) 0 row) (alone v (settled spacing row v below) below)

-- the pairs that the join measures
abbrev pub measured : Distance → Drawing → ℕ → Drawing → List Pair
measured need row v below = measure (row_contour row) (new_contour need row v below)
