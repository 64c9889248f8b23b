pub mod Bytes
pub mod Reading
pub mod Inside
pub mod Sides
pub mod Heads
pub mod Told
pub mod Records
pub mod Laws
