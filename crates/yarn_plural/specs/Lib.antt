pub mod Category
pub mod English
pub mod Lines
pub mod Tokens
pub mod Rules
pub mod Reading
pub mod Steps
pub mod ReadingSteps
