pub mod Line
pub mod Uncut
pub mod Forward
pub mod Pairs
pub mod Into
pub mod Plain
pub mod Squeezed
pub mod Marks
