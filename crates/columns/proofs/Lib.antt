pub mod OuterRows
pub mod Pastes
pub mod TwoRows
pub mod RowPairs
pub mod LastRows
pub mod Marks
pub mod AllRows
