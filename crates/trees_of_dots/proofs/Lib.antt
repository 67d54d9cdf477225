-- Why the trees that are found are those that fit, and what a call returns. Stands on `plots`, `small_trees`, `layout` and `rule`.
pub mod Drawn
pub mod Numbers
pub mod Descent
pub mod Listed
pub mod Those
pub mod Searching
pub mod Tables
pub mod Returned
pub mod Example
