pub mod Unversioned
pub mod Fields
pub mod Forms
pub mod Answers
pub mod Lines
pub mod AsBefore
