pub mod Entry
pub mod GridRect
pub mod Marked
