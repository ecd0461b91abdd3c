pub mod Records
pub mod Tables
pub mod Written
pub mod Laws
pub mod Steps
pub mod Reader
pub mod Gathering
