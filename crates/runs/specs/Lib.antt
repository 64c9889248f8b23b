pub mod Parts
pub mod Runs
pub mod Claim
pub mod Unbounded
pub mod Marks
pub mod MarkClaims
