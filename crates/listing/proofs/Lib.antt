pub mod Puts
pub mod Parts
pub mod Digits
pub mod Held
pub mod Outcomes
pub mod Room
pub mod Read
