pub mod Fault
pub mod Lines
pub mod Piece
pub mod Taking
