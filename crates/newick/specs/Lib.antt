-- Newick text: its grammar, how a text is read, what the operation promises, and what its inner steps promise. Stands on `tree`, for
-- forests and their tables, on `lines`, for numbers in decimal, and on `refusal`.
pub mod Text
pub mod Reading
pub mod Read
pub mod Steps
