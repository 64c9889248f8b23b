pub mod Rooms
pub mod Samples
