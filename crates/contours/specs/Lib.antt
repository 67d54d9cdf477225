-- Contours: what the engine stores of a drawing's two outlines, of the moves that wait, and of a row of children that are joined. Stands on
-- `rule` and `level_order`, with no code and no slice; `families` keeps these in its working slice.
pub mod Contours
pub mod Gather
pub mod Rows
