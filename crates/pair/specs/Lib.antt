pub mod Pair
pub mod Bijection
pub mod Marks
