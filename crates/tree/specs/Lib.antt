-- The tree table, the ordered tree that it stands for, and what the three operations on it give. Stands on `refusal`; `rule` draws the
-- tree, and every stage of the layout takes its table from here.
pub mod Numbers
pub mod Table
pub mod Forest
pub mod Levels
pub mod Shape
pub mod WellFormed
pub mod Operations
pub mod Steps
