-- Why no sheet has slack at a last child, in the plain layout and with an extra space, how wide a sheet can be, and that the star is as wide. Stands
-- on `rule` for what is drawn, on `layout` and `treetex` for what a call returns, and on `small_trees` for the star.
pub mod Subtrees
pub mod Returned
pub mod Star
pub mod Example
