pub mod Unversioned
pub mod Reading
pub mod Listing
pub mod Laws
