pub mod Fitted
pub mod Accepted
pub mod AsStandard
