pub mod Taken
pub mod Cases
