-- Why Newick text is read right: digits; reading and the text of a tree agree; the first pass counts what reading builds; labels, subtrees
-- and lists where they stand in a text, and what they store; the table that is read; the answer, and what each number says. Stands on
-- `tree`, `lines` and `refusal`; `exports` cites the answer alone.
pub mod Digits
pub mod Places
pub mod Shown
pub mod Exact
pub mod Counted
pub mod LabelAt
pub mod Stored
pub mod Subtrees
pub mod Lists
pub mod Linked
pub mod Answer
pub mod Numbers
pub mod Returned
pub mod Example
