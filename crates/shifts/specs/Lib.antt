-- Shifts and changes in the working slice: what one meeting of two children leaves there, and what carrying all of it out gives. Stands on
-- `contours`, where `pending` says what is gathered; `families` calls both steps.
pub mod Shifts
