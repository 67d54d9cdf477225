-- The sheet file (blocks, layout), what reading one gives, the file of a sheet, and what the reader's inner steps promise. Stands on
-- `refusal`; `render` and `exports` call the reader.
pub mod Layout
pub mod Read
pub mod File
pub mod Walk
pub mod Steps
pub mod Damage
