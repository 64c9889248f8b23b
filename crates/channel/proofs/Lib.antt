pub mod Shifts
pub mod Sides
