pub mod Rect
pub mod Parts
