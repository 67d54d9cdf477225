-- The dots of a plot: points, their order and their sets; the points of a layout; which dots are wrong. Stands on `rule` for the layout, on
-- `tree` and on `distance`. `trees_of_dots` looks for the trees of such dots.
pub mod Points
pub mod Dots
