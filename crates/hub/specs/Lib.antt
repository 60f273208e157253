pub mod Replies
pub mod Lent
pub mod Whole
