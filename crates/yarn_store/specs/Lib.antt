pub mod Pairs
pub mod Lines
pub mod Variables
pub mod LineReading
pub mod Reading
pub mod Steps
