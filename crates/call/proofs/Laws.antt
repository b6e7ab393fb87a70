pub mod Replies
pub mod Answering
pub mod ReadSheet
pub mod Whole
