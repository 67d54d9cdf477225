-- Why the engine's families are the rule's: one join from the top level to the row with one child more, and the loops over the children and over
-- the families. Stands on `contours`, as whose rows and subtrees the slice is read, and on `descent`, whose steps it takes; `layout` uses it.
pub mod Children
pub mod Joining
pub mod Contour
pub mod Meeting
pub mod Worked
pub mod Deeper
pub mod Stale
pub mod Threaded
pub mod JoinEnd
pub mod Turn
pub mod Through
pub mod FamilyStart
pub mod FamilyEnd
pub mod FamilySteps
pub mod FamiliesLoop
