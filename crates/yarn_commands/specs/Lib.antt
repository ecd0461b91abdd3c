pub mod FirstWord
pub mod Command
pub mod Kept
pub mod Reading
pub mod Laws
pub mod Parts
pub mod Print
