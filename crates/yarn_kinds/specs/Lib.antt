-- The definitions that the contracts cite.
pub mod Typed
pub mod Kept
pub mod Strict
