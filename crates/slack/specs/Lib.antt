-- What can be measured on a printed sheet: how near the subtrees of a node's children stand, and how wide the sheet is. Stands on `rule`, for the
-- significant nodes, on `distance` and on `tree`.
pub mod Slack
