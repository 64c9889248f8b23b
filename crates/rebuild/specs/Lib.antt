pub mod Rebuild
pub mod Run
