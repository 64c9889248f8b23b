pub mod Parts
pub mod Stretches
pub mod Consecutive
pub mod Tiled
pub mod Marks
pub mod Together
pub mod Witness
