pub mod Table
pub mod Demands
pub mod Coarse
pub mod Strips
pub mod House
pub mod Origins
pub mod Wrong
pub mod Marks
