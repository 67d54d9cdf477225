-- The layout: its answer and its slices, as the written result of `rule` has them. The stages stand in `level_order`, `families` and
-- `second_walk`; `render` and `exports` call it.
pub mod Operation
