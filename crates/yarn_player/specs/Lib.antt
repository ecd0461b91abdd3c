-- The definitions that the contracts cite.
pub mod Played
pub mod Shown
pub mod Stands
pub mod Steps
pub mod Transcript
