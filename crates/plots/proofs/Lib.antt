-- What sets of points are, why a layout's points rise in reading order, and why tables of one shape have one set of points. Stands on `rule`,
-- `tree` and `refusal`.
pub mod Order
pub mod Sets
pub mod Laid
pub mod Shapes
pub mod Entries
pub mod Sound
pub mod Profiles
