pub mod Print
pub mod Pieces
pub mod Facts
pub mod PrintLaws
