-- The working slice: sixteen entries for each position.
use Rattle.std.specs.Prelude.{ℕ, ◌+◌, ◌*◌, List, ℤ, pos, get_or, set}
use Rattle.level_order.specs.declared.field.Field.{Field}
use Rattle.level_order.specs.declared.field.Field.TheVariants.{Node, First, Count, Parent, Need, Place, Left, Right, Ancestor, Shift, Change, Level}

-- the place of a field of position p in the slice
abbrev pub cell : ℕ → ℕ → ℕ
cell p field = 16 * p + field

abbrev pub get : List ℤ → ℕ → ℕ → ℤ
get work field p = get_or work (cell p field) (pos 0)

abbrev pub put : List ℤ → ℕ → ℕ → ℤ → List ℤ
put work field p z = set work (cell p field) z

-- The fields stand in the order of the stages that write them, so that what a stage leaves as it was is a range.

-- the numbering: the node's number, the position of its first child, how many children it has, the position of its parent
abbrev pub NODE : ℕ
NODE = 0

abbrev pub FIRST : ℕ
FIRST = 1

abbrev pub COUNT : ℕ
COUNT = 2

abbrev pub PARENT : ℕ
PARENT = 3

-- the distance that it needs from the position before it
abbrev pub NEED : ℕ
NEED = 4

-- the families: first the place in its row, then the offset from the parent; the second walk: the place
abbrev pub PLACE : ℕ
PLACE = 5

-- the step in place to the next node of the left contour, and of the right
abbrev pub LEFT : ℕ
LEFT = 6

abbrev pub RIGHT : ℕ
RIGHT = 7

-- the child of the row at hand to whose subtree the node belongs, where it is up to date
abbrev pub ANCESTOR : ℕ
ANCESTOR = 8

-- what is still to be moved, gathered for the whole row
abbrev pub SHIFT : ℕ
SHIFT = 9

abbrev pub CHANGE : ℕ
CHANGE = 10

-- the second walk
abbrev pub LEVEL : ℕ
LEVEL = 11

-- where a field stands among the sixteen
abbrev pub offset : Field → ℕ
offset Node = NODE
offset First = FIRST
offset Count = COUNT
offset Parent = PARENT
offset Need = NEED
offset Place = PLACE
offset Left = LEFT
offset Right = RIGHT
offset Ancestor = ANCESTOR
offset Shift = SHIFT
offset Change = CHANGE
offset Level = LEVEL
