-- What every operation's answer has in common: how its number is found, and what a lent slice holds afterwards. Stands on no other crate;
-- every crate that answers with a number uses it.
pub mod First
pub mod Number
pub mod After
