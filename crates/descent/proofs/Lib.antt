-- Why each step does what its definition says. Stands on `level_order` and `shifts`; `families` cites whose a node is.
pub mod Above
pub mod OwnerOf
