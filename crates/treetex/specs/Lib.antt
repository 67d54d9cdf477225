-- Sheets that are set with TreeTeX: conditions 23 and 24, and the layout with an extra space. Stands on `rule`, whose rule takes the extra
-- space, and on `layout`, whose steps it takes; `exports` calls it.
pub mod TreeTeX
