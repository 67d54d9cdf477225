-- What an answer has, in plain fields. Stands on all crates below.
pub mod Fields
