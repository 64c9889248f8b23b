pub mod Entries
pub mod Fronts
pub mod Outcomes
pub mod Read
pub mod Back
