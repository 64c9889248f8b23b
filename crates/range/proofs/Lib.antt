pub mod Some
pub mod Slices
pub mod Bits
pub mod Told
