-- Why a call gives what the rule says: the families' offsets put every position where the rule's drawing has it, and
-- what a call returns is told in the paper's words (`Returned`). Stands on all of the engine; `render` and `exports` cite it.
pub mod Standing
pub mod Answers
pub mod Stored
pub mod Returned
