pub mod Bitmap
pub mod Cut
