-- Why the list has every ordered tree once, in order, and why the code writes the one that is asked for. Stands on `tree` and `refusal`.
pub mod Trees
pub mod Listed
pub mod AllComplete
pub mod Ways
pub mod Rows
pub mod Numbers
pub mod Answer
pub mod Tables
pub mod Returned
pub mod Example
