-- Why the numbering gives level order, and what level order is good for. Below: the forest of the nodes that wait, runs of positions, the
-- queue in the working slice, the numbering of a table, and the order of its levels. Stands on `tree` and
-- `distance`; every later stage stands on it.
pub mod Waiting
pub mod FirstAt
pub mod InQueue
pub mod Positions
pub mod InOrder
pub mod Occurs
pub mod PositionTree
pub mod Order
pub mod Beside
pub mod Signed32
pub mod Cells
pub mod Queued
pub mod Appending
pub mod Settled
pub mod Numbering
pub mod TableNumbering
pub mod Fielded
