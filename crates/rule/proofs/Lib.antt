-- Why the written rule keeps what the paper asks of it: order and distance on a level, the record, equal shapes, even gaps, the width,
-- tightness; whatever distance two nodes need. Stands on `tree` and `distance`; `contours` builds on its walk, `second_walk` on its
-- extremes, and `layout` tells its promises of what a call returns.
pub mod Signed
pub mod Names
pub mod Pairs
pub mod PairCounts
pub mod Flat
pub mod Moving
pub mod Shares
pub mod LevelEnds
pub mod OnLevel
pub mod Walk
pub mod Spacing
pub mod Shapes
pub mod Within
pub mod Lookup
pub mod Exact
pub mod Significant
pub mod Led
pub mod Across
pub mod Width
pub mod Span
pub mod Own
pub mod Promises
pub mod ReadingOrder
pub mod SideBySide
pub mod Corresponding
pub mod LastJoin
pub mod Tight
pub mod TwoChildren
pub mod Extremes
pub mod AtOnce
pub mod Gaps
pub mod Fixed
pub mod Cases
