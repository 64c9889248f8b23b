pub mod Ends
pub mod Rects
pub mod WithMark
