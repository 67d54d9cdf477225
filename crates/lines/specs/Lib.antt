-- Numbers in decimal, the lines of a listing, what the two operations promise, and what their inner steps promise. Stands on `refusal`;
-- `render` prints with it.
pub mod Decimal
pub mod Listing
pub mod Printed
pub mod Steps
pub mod Written
