-- How a text is read, byte by byte. For each bracket that is open, the innermost first, there are the subtrees of its list that are
-- whole so far.
use Rattle.std.specs.Prelude.{ℕ, ◌+◌, ◌-◌, ◌*◌, Bool, cond, ◌&&◌, List, [], ◌∷◌, eqb, leb}
use Rattle.lines.specs.Decimal.{zero_byte, digit}
use Rattle.tree.specs.Forest.{Forest, nil, node, join}
use Rattle.newick.specs.Text.{opening, closing, comma, semicolon, most_label}

-- what the bytes so far leave
pub data Reading : Type 0 where
  -- a subtree is due
  due : List Forest → Reading
  -- the label of the node over a list that was closed is due
  closed : List Forest → Forest → Reading
  -- the digits of a label stand last: the node's children, and the number that the digits stand for
  label : List Forest → Forest → ℕ → Reading
  -- the semicolon stands last: the tree
  ended : Forest → Reading
  -- the text breaks a rule
  broken : Reading

unfoldable pub is_digit : ℕ → Bool
is_digit byte = leb zero_byte byte && leb byte (digit 9)

-- a byte where a label is due
abbrev pub begun : List Forest → Forest → ℕ → Reading
begun rows below byte = cond (is_digit byte) (label rows below (byte - zero_byte)) broken

-- a further digit of a label: no needless zeros, and no number that is too great
abbrev pub lengthened : List Forest → Forest → ℕ → ℕ → Reading
lengthened rows below value d =
    cond (eqb value 0) broken (cond (leb (10 * value + d) most_label) (label rows below (10 * value + d)) broken)

-- another byte after a whole subtree: where no bracket is open the semicolon, and else a comma or a closing bracket
abbrev pub parted : List Forest → Forest → ℕ → Reading
parted [] tree byte = cond (eqb byte semicolon) (ended tree) broken
parted (row ∷ rows) tree byte =
    cond (eqb byte comma) (due (join row tree ∷ rows)) (cond (eqb byte closing) (closed rows (join row tree)) broken)

-- one byte is read
unfoldable pub next : Reading → ℕ → Reading
next (due rows) byte = cond (eqb byte opening) (due (nil ∷ rows)) (begun rows nil byte)
next (closed rows below) byte = begun rows below byte
next (label rows below value) byte = cond (is_digit byte) (lengthened rows below value (byte - zero_byte)) (parted rows (node value below nil) byte)
next (ended tree) byte = broken
next broken byte = broken

-- bytes are read one after the other
unfoldable pub reading : Reading → List ℕ → Reading
reading state [] = state
reading state (byte ∷ bytes) = reading (next state byte) bytes

-- the tree that has been read, whole
abbrev pub whole : Reading → Forest
whole (due rows) = nil
whole (closed rows below) = nil
whole (label rows below value) = nil
whole (ended tree) = tree
whole broken = nil

-- the tree whose text this is; the empty forest where the text breaks a rule
unfoldable pub tree_read : List ℕ → Forest
tree_read text = whole (reading (due []) text)
