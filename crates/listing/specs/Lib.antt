pub mod Text
pub mod Listing
pub mod Putting
