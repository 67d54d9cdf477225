-- Where a view of the studio screen shows a node: the number that a float is, what is refused (18 and 19), and the answer. Stands on
-- `refusal`; `exports` hands the answer to C.
pub mod Fraction
pub mod Screen
