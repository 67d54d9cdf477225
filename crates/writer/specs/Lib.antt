-- Writing a sheet: what a call gives for every input, and what the writer's inner steps promise. Stands on `tree` for the conditions of a
-- table, on `distance` for those of the separation and of the half-widths, and on `sheet` for the file; `exports` calls the writer.
pub mod Write
pub mod Steps
pub mod Rows
