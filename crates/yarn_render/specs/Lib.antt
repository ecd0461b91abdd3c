pub mod Marks
pub mod Renders
pub mod Laws
pub mod Steps
