pub mod Row
pub mod Strips
pub mod Bands
pub mod Parts
pub mod Marks
