-- Why the reader gives the file's sheet: bytes and words, the loops over the blocks, the walk over the rows, its number, and the way from a
-- sheet to its file and back. Stands on `refusal`; `render` cites what a file that can be read has, and `writer` the walk.
pub mod Answer
pub mod Blocks
pub mod Damage
pub mod Example
pub mod Fit
pub mod Fixed
pub mod Pairs
pub mod Places
pub mod Reading
pub mod Rewritten
pub mod RoundTrip
pub mod Written
