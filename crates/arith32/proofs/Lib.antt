pub mod Whole
pub mod Residues
pub mod Wraps
pub mod Thirds
pub mod Ends
pub mod Halves
