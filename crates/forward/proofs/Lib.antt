pub mod Entries
pub mod Filled
pub mod Nexts
pub mod Stretches
pub mod Fitted
pub mod Marked
pub mod Written
