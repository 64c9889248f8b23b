pub mod Inverse
pub mod Six
