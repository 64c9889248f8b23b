pub mod Tables
pub mod Lists
pub mod Questions
pub mod Entries
pub mod Accepted
