-- Why stored contours serve: the runs on a drawing's levels, the walk down two contours and its ends, owners, gathered shares and threads,
-- and the row with one child more (`row_next`). No slice in sight; `families` reads its slice as these.
pub mod Contour
pub mod Runs
pub mod Places
pub mod Steps
pub mod Bounds
pub mod Kept
pub mod OffsetsAll
pub mod Gathered
pub mod Owners
pub mod Threads
pub mod Walk
pub mod WalkEnds
pub mod RowNext
