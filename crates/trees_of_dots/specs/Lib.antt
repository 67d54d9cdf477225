-- From dots back to a tree: which trees of the list fit the dots of a plot, what is refused (20, 22 and 6), the answer, and what the inner
-- steps promise. Stands on `small_trees` for the list of trees, on `plots` for the dots and their sets, and on `refusal`.
pub mod TreesOfDots
pub mod Steps
