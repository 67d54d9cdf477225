-- The contour walk's steps, in the code's own shape. Stands on `level_order`, in whose fields it reads and writes, and on `shifts`; `families` joins
-- children by it.
pub mod Descent
