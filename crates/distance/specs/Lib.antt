-- What two neighbours need: the separation and the half-widths of both, and when these are refused: 6 and 17. Stands on no other crate; `rule`
-- draws by it, `level_order` stores it, and `layout` and `writer` judge by it.
pub mod Needed
