pub mod Bitwise
pub mod Cell
pub mod Whole
pub mod WholeStep
