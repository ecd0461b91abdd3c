-- The definitions that the contracts cite.
pub mod KindSets
pub mod Sets
pub mod Typed
pub mod Names
pub mod Fits
pub mod Units
pub mod Typings
pub mod Labels
pub mod Firsts
pub mod FunctionMaps
pub mod Founds
pub mod Classes
pub mod Stops
