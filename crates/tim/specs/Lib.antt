pub mod Tim
pub mod Bitmap
pub mod Spelling
