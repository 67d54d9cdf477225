-- The text that is printed for the bytes of a file: the sheet is read, its table laid out, and the listing written; a refusal is one
-- line. 6, 7 and 8 never occur: a file that can be read has a separation in range, and the slices are long enough. 17 occurs where the file
-- has a half-width above 256.
use Rattle.std.specs.Prelude.{ℕ, List, [], ◌∷◌, ◌++◌, leb, length}
use Rattle.refusal.specs.First.{◌⇐◌, first}
use Rattle.refusal.specs.After.{granted}
use Rattle.distance.specs.Needed.{needed, bad_half_widths}
use Rattle.tree.specs.Table.{nodes}
use Rattle.tree.specs.Levels.{level_count}
use Rattle.tree.specs.WellFormed.{table_conditions}
use Rattle.rule.specs.Join.{plain}
use Rattle.rule.specs.Result.{places_of, levels_of, least_of, greatest_of}
use Rattle.sheet.specs.Read.{nodes_of, separation_of, table_of, tapes_of, half_widths_of, file_number}
use Rattle.lines.specs.Listing.{listing, refused_line}
use Rattle.lines.specs.Printed.{most_nodes, listing_room, when, Printed}

-- a text, or the line of a refusal where the number is one
abbrev pub unless_refused : ℕ → List ℕ → List ℕ
unless_refused number text = granted number text (refused_line number)

-- the listing of a table where its layout puts the nodes
unfoldable pub drawn_listing : ℕ → List ℕ → List ℕ → List ℕ → List ℕ
drawn_listing separation table tapes half_widths =
    let places = places_of (plain (needed separation half_widths)) table in
    listing (nodes table) (level_count table) separation (least_of places) (greatest_of places) (levels_of table) places tapes

-- the number of a table with its half-widths: 1 to 5, 14, and then 17
unfoldable pub drawing_number : List ℕ → List ℕ → ℕ
drawing_number table half_widths = first (table_conditions table ++ (17 ⇐ bad_half_widths (nodes table) half_widths ∷ []))

-- what is printed for a table: one of these, or its listing
unfoldable pub table_text : ℕ → List ℕ → List ℕ → List ℕ → List ℕ
table_text separation table tapes half_widths = unless_refused (drawing_number table half_widths) (drawn_listing separation table tapes half_widths)

-- what is printed for a file: 9 to 12, or the text of its table
unfoldable pub sheet_text : List ℕ → List ℕ
sheet_text file =
    unless_refused (file_number file)
    (table_text (separation_of file) (table_of file (nodes_of file)) (tapes_of file (nodes_of file)) (half_widths_of file (nodes_of file)))

-- the bytes that the text of any file fits
abbrev pub text_room : ℕ
text_room = listing_room most_nodes

-- what `list_sheet` promises
abbrev pub SheetListed : List ℕ → List ℕ → ℕ → List ℕ → Type 0
SheetListed file old = Printed (when (leb text_room (length old)) (sheet_text file)) old
