pub mod Both
pub mod Copies
