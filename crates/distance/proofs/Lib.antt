-- Why the tests of the separation and of the half-widths say what they are named for. `layout` and `writer` cite them.
pub mod Separation
pub mod HalfWidths
pub mod Example
