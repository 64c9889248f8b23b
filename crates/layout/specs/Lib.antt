pub mod Layout
pub mod Entries
pub mod Laws
