pub mod Kept
pub mod Totals
pub mod Firsts
pub mod Whole
