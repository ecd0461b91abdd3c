pub mod Units
pub mod Typings
