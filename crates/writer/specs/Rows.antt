-- The rows of a sheet, as the writer holds them.
use Rattle.std.specs.Prelude.{ℕ, List}
use Rattle.tree.specs.Table.{nodes}
use Rattle.sheet.specs.File.{row}
use Rattle.sheet.specs.declared.walk.RowPlace.{RowPlace}
use Rattle.writer.specs.Write.{sheet_file}
use Rattle.writer.specs.Steps.{Begun, rows_of, rows_from}
use Rattle.writer.specs.declared.node_rows.Rows.{Rows}

abbrev pub node_count : Rows → ℕ
node_count rows = nodes rows.tree.entries.now

-- the row of a node
abbrev pub row_of : Rows → ℕ → List ℕ
row_of rows = row rows.tree.entries.now rows.tapes.now rows.widths.now

-- a block of these rows is begun
abbrev pub BlockBegun : Rows → RowPlace → Type 0
BlockBegun rows from = Begun (node_count rows) from rows.tree.entries.now rows.tapes.now rows.widths.now

-- the rows of the block that begins with a row
abbrev pub rows_of_block : Rows → RowPlace → List ℕ
rows_of_block rows from = rows_from rows.tree.entries.now rows.tapes.now rows.widths.now from.node (rows_of (node_count rows) from)

-- the file of these rows, with D
abbrev pub file_of_rows : Rows → ℕ → List ℕ
file_of_rows rows separation = sheet_file rows.tree.entries.now separation rows.tapes.now rows.widths.now
