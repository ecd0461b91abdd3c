-- The definitions that the contracts cite.
pub mod Base
pub mod Code
pub mod Rows
pub mod Correct
