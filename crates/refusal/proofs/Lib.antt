-- The laws of the number and of lent slices: the first condition that holds, entries before and after a store, or and and. Stands on no
-- other crate; every crate with an operation cites them.
pub mod Laws
pub mod After
pub mod Truth
pub mod Numbers
