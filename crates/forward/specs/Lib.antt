pub mod Rows
pub mod Into
