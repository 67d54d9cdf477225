-- Why the operation gives what it says: what 23 asks of a table, the order of its numbers, and what a call returns. Stands on `layout`, whose
-- theorems of what a call returns hold of it too.
pub mod Children
pub mod Answers
pub mod Returned
pub mod Example
