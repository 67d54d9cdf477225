-- The written rule: where a node stands, and what the layout of a table gives. Stands on `tree` and `distance`, with no code; the engine is held
-- to it, and `layout` cites its result.
pub mod Drawing
pub mod Join
pub mod Rule
pub mod AtOnce
pub mod Gaps
pub mod Record
pub mod Result
