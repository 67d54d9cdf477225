-- Why the digits and lines are those of the listing: decimal and its length, what is put where in the buffer, and reading a line back.
-- Stands on `refusal`; `render` cites what an answer holds.
pub mod Answer
pub mod Decimal
pub mod Example
pub mod Listed
pub mod Put
pub mod ReadBack
pub mod Standard
pub mod Written
