-- Families: how the children of one node are joined in the working slice, and what that asks and leaves. Stands on `contours`, whose rows and
-- subtrees it speaks of, and on `descent`; `layout` calls it between the numbering and the second walk.
pub mod Joining
pub mod Families
