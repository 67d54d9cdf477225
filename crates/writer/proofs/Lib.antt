-- Why the writer writes the sheet's file: words stored in a block, the block closed, the blocks one after the other, its number; and the
-- way from a sheet to its file and back, of what calls return. Stands on `tree`, `distance` and `sheet`.
pub mod Stored
pub mod Rows
pub mod Closed
pub mod Blocks
pub mod Answer
pub mod RoundTrips
pub mod Example
