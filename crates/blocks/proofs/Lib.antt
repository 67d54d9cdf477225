-- Why the sums are right: laws of sums over indices, words and their bytes, and the lanes. Stands on `refusal`; `sheet` and `writer` cite
-- what a block's words are.
pub mod Below
pub mod Example
pub mod Sums
pub mod Words
