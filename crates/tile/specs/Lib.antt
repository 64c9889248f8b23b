pub mod Call
pub mod Plain
