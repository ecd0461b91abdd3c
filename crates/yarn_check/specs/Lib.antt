-- The definitions that the contracts cite.
pub mod Shapes
pub mod Faults
pub mod Pass
pub mod PassLaws
pub mod Shaped
pub mod Fits
pub mod Laws
pub mod Views
pub mod NameMaps
pub mod Told
pub mod Missing
pub mod ShapeAt
