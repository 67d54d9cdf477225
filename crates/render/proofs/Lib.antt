-- Why the text is that of the file: the numbers that can occur, and what a slice holds that an accepted operation wrote. Stands on `sheet`,
-- `layout` and `lines`; `listing` and `exports` hand the text on.
pub mod Numbers
pub mod TableText
pub mod SheetText
pub mod Example
