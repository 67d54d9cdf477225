-- Level order: a table's nodes are numbered level by level, and each position has sixteen fields in the working slice. Stands on `tree`
-- and `distance`; the later stages speak of positions, and of node numbers only at the end.
pub mod LevelOrder
pub mod Fields
pub mod Appending
pub mod Numbered
pub mod Spaced
