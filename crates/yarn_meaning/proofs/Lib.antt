pub mod Fuel
mod Prefix
pub mod BaseLemmas
