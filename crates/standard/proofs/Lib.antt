pub mod Range
pub mod Course
pub mod Unbounded
pub mod Wrapping
pub mod Agree
pub mod Average
