pub mod Begins
pub mod Cursor
pub mod Digits
