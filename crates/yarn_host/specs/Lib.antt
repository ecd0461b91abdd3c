-- The definitions that the contracts cite.
pub mod Known
pub mod Meaning
pub mod Calls
pub mod Names
pub mod Hosts
pub mod Adds
pub mod Asks
pub mod Tape
pub mod Table
pub mod Scripted
pub mod Ranges
pub mod Dice
pub mod RandomRange
pub mod Laws
