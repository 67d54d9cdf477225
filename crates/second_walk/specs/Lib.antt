-- The second walk: offsets are added up from the root, places and levels are written by node number, and neighbours enter the record.
-- Stands on `level_order`, `rule` and `refusal`; `layout` calls it once the families are drawn.
pub mod SecondWalk
