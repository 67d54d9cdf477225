-- Why the two steps do what they say: a meeting's four additions are the theory's `Met`, and the pass moves each child by what is pending
-- while its numbers stay small. Stands on `contours` and `level_order`; `families` uses it.
pub mod Added
pub mod Shared
pub mod Executing
