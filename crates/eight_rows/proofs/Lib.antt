pub mod Strides
pub mod Fours
pub mod Blocks
pub mod Taken
