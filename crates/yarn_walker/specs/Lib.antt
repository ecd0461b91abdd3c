-- The definitions that the contracts cite.
pub mod Clauses
pub mod Deeds
pub mod Faults
pub mod Frames
pub mod Means
pub mod Offers
pub mod States
pub mod Titles
pub mod Variables
pub mod Walk
pub mod Weight
