-- Why a view shows what is promised: floats compared, added and multiplied as the fractions that they are, without rounding. What a call
-- returns is told in `Returned`, and that no place of a layout is refused in `Laid`. Stands on `refusal`, on `rule` for signed numbers, and
-- on `layout` for the places that it gives.
pub mod Signed
pub mod Compared
pub mod Exact
pub mod Rounding
pub mod Whole
pub mod Conditions
pub mod Numbers
pub mod Distances
pub mod Returned
pub mod Laid
pub mod Example
