pub mod Allowed
pub mod Tiles
