pub mod Tagged
pub mod TagLaws
pub mod Sets
pub mod Tagging
