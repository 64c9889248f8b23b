pub mod Numbered
pub mod Arrays
pub mod Laws
