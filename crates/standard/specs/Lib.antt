pub mod Standard
pub mod Domain
