-- What is printed for a file, and what the operation promises. Stands on `sheet`, `layout` and `lines`; `listing` prints it, `exports`
-- lends it to C.
pub mod Text
