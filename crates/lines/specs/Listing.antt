-- The listing. The first line has `sheet`, n, the number of levels, D, the least place and the greatest. Then there is a line for each
-- node in number order, with its number, level, place and tape number. A refusal is only one line, `refused` and the number.
use Rattle.std.specs.Prelude.{ℕ, zero, suc, ◌+◌, ◌*◌, List, [], ◌∷◌, ◌++◌, ℤ, pos, get_or}
use Rattle.lines.specs.Decimal.{decimal, signed_decimal}

abbrev pub space : ℕ
space = 32

abbrev pub newline : ℕ
newline = 10

-- the bytes of `sheet`
abbrev pub sheet_word : List ℕ
sheet_word = 115 ∷ 104 ∷ 101 ∷ 101 ∷ 116 ∷ []

-- the bytes of `refused`
abbrev pub refused_word : List ℕ
refused_word = 114 ∷ 101 ∷ 102 ∷ 117 ∷ 115 ∷ 101 ∷ 100 ∷ []

-- a word and the byte after it
abbrev pub ended : List ℕ → ℕ → List ℕ
ended word byte = word ++ byte ∷ []

-- words parted by single spaces, and a newline
abbrev pub line : List (List ℕ) → List ℕ
line [] = newline ∷ []
line (word ∷ []) = ended word newline
line (word ∷ next ∷ rest) = ended word space ++ line (next ∷ rest)

-- the first line
unfoldable pub sheet_line : ℕ → ℕ → ℕ → ℤ → ℤ → List ℕ
sheet_line n level_count separation least greatest =
    line (sheet_word ∷ decimal n ∷ decimal level_count ∷ decimal separation ∷ signed_decimal least ∷ signed_decimal greatest ∷ [])

-- a node's line
unfoldable pub node_line : ℕ → ℕ → ℤ → ℕ → List ℕ
node_line node level place tape = line (decimal node ∷ decimal level ∷ signed_decimal place ∷ decimal tape ∷ [])

-- a node's tape number: the low word and the high word
abbrev pub tape_number : List ℕ → ℕ → ℕ
tape_number tapes node = get_or tapes (2 * node) 0 + 65536 * get_or tapes (2 * node + 1) 0

-- the lines of the nodes below n
unfoldable pub node_lines : ℕ → List ℕ → List ℤ → List ℕ → List ℕ
node_lines zero levels places tapes = []
node_lines (suc node) levels places tapes =
    node_lines node levels places tapes ++ node_line node (get_or levels node 0) (get_or places node (pos 0)) (tape_number tapes node)

-- the listing
abbrev pub listing : ℕ → ℕ → ℕ → ℤ → ℤ → List ℕ → List ℤ → List ℕ → List ℕ
listing n level_count separation least greatest levels places tapes =
    sheet_line n level_count separation least greatest ++ node_lines n levels places tapes

-- a refusal
unfoldable pub refused_line : ℕ → List ℕ
refused_line number = line (refused_word ∷ decimal number ∷ [])
