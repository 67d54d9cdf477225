-- Why the second walk writes the rule's places and levels: the turn of its loop, the extremes, and the record, which is the neighbours'
-- list. Stands on `level_order` and `rule`; `layout` cites what a call leaves.
pub mod SeenPosition
pub mod EntryForEach
pub mod Positions
pub mod Recorded
pub mod Extreme
pub mod Descending
pub mod Settling
