-- All ordered trees of 1 to 8 nodes: level sequences, the list of them, what the operation promises, and what its inner steps promise.
-- Stands on `tree`, for forests and their tables, and on `refusal`.
pub mod Sequence
pub mod SmallTrees
pub mod Steps
