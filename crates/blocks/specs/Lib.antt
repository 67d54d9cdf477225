-- The blocks of a file: words and their bytes, sums over them, and a block's check. Stands on `refusal`; `sheet` and `writer` read and write
-- blocks.
pub mod Below
pub mod Block
pub mod Sums
